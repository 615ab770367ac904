-- `samples::fit` meets its contract: each sample has as many bytes as its type says. Assumes nothing.
use Rattle.std.proofs.Common.{refl, ◌∙◌}
use Rattle.samples.proofs.Samples.{each-long}
use Rattle.samples.proofs.fit.Goals as goal

pub returns : goal.returns
returns g c = rw (each-long g.S.Sample.bytes g.met.S.Sample.has_size c.args.samples.now, ← (c.from.ensures ∙ c.SIZE.ensures)) refl
