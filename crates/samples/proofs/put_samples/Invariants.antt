-- `samples::put_samples` meets its contract: after i turns the bytes of the first i samples stand at their place (`Written`). Assumes nothing.
use Rattle.text.specs.Text.{page_of, add_of}
use Rattle.samples.proofs.Samples.{Written}
use Rattle.samples.proofs.put_samples.Given as goal

abbrev pub invariant-loop-sample : goal.invariant-loop-sample
invariant-loop-sample g l = Written add_of g.S.Sample.bytes (page_of l.initial.out l.at) l.samples (page_of l.out l.place) l.sample-index
