-- `plan::planned` meets its contract, by the call's: its causes, or the counts of its digits at its rate. Assumes nothing.
use Rattle.std.proofs.Common.{ap, ◌∙◌, rules}
use Rattle.std.specs.Prelude.{Ok}
use Rattle.plan.specs.Plan.{plan_of}
use Rattle.plan.proofs.planned.Goals as goal

pub returns-in_err-call : goal.returns-in_err-call
unfolding plan_of
returns-in_err-call c = rw c.in_err-call.ensures (search rules)

pub returns : goal.returns
unfolding plan_of
returns c = let call = c.in_ok-call.ensures in
    rw call.accepted (ap Ok (c.lengths.ensures ∙ rw (call.rate, call.digits)))
