-- `write_dialled` meets its contract: it is one step of the iteration. Assumes nothing.
use Rattle.std.proofs.Common.{List, ◌++◌, drop, ap, rules, sym, ◌∙◌}
use lib.Ieee.{Float}
use native.Mathlib.Omega.{arith}
use Rattle.schedule.proofs.Count.{saturating_inc_is}
use Rattle.stage.specs.Next.{sample_next, state_next, generate_of, dialling_of}
use Rattle.overture.proofs.Stages.{one-wrote}
use Rattle.overture.proofs.Call.write_dialled.Goals as goal

pub returns : goal.returns
unfolding sample_next state_next generate_of dialling_of
returns c =
    let counted = c.saturating_add-k.ensures ∙ sym (saturating_inc_is _ (omega (arith, c.ranges.n))) in
    one-wrote _ _ _ _ _ _ _ c.narrow.result _ c.min-written.ensures (rw (c.narrow.ensures, c.dial_step-d.ensures, counted)) (rw (c.dial_step-d.ensures, counted)) (ap (λ (xs : List Float). xs ++ drop c.min-written.result c.args.out.now) (search rules))
