-- `edges::first_sample` meets its contract: the buffer is filled again (`refilled`). Assumes nothing.
use mathlib.Core.Path.{◌∙◌}
use Rattle.edges.proofs.Refilled.{refilled}
use Rattle.edges.proofs.first_sample.Goals as goal

pub returns-clause-samples_after : goal.returns-clause-samples_after
returns-clause-samples_after c = let a = c.args in
    c.process_out-2.ensures.out_after ∙ refilled a.set a.samples.now _ _ (c.search-sample.auto.samples ∙ c.process_out.auto.out) c.in_ok-process_out.ensures.value
