-- `samples::page::put_samples` meets its contract: after i turns the bytes of the first i samples are put (`Written`). Assumes nothing.
use Rattle.text.specs.Page.{add_of}
use Rattle.samples.proofs.Samples.{Written}
use Rattle.samples.proofs.page.put_samples.Given as goal

abbrev pub invariant-loop-sample : goal.invariant-loop-sample
invariant-loop-sample g l = Written add_of g.S.Sample.bytes l.initial.page l.samples l.page l.sample-index
