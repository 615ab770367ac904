-- `Deframer::read` meets its contract: bit by bit by the lemmas on `Taking`; what holds from any place is `after-ten-ones` and `one-call`.
-- Assumes nothing.
use native.Mathlib.Omega.{arith}
use mathlib.Core.Path.{sym, ◌∙◌}
use Rattle.deframe.proofs.Taking.{taking-on, taking-byte, taking-stops, taking-end}
use Rattle.deframe.proofs.Resumed.{after-ten-ones}
use Rattle.deframe.proofs.Joined.{one-call}
use Rattle.deframe.proofs.Deframer.read.Goals as goal
use Rattle.deframe.proofs.Deframer.read.Goals.{in-Some+else-given-out, in_default}

pub returns-then-given-out : goal.returns-then-given-out
returns-then-given-out c =
    let e = taking-stops _ _ _ _ _ _ _ c.loop-taken.invariant c.loop-taken-test.true _ c.is_mark.ensures _ c.push_bit.ensures.place _ (sym c.in-Some.ensures.byte) (omega arith) in
    record { value = e.0; out_after = e.1; after_ten_ones = after-ten-ones _; one_call = one-call _ }

pub loop-taken-preserved : goal.loop-taken-preserved
loop-taken-preserved c =
    elim c.match-push_bit.branch [
      | in-Some+else-given-out w ↦
          rw (w.out-is, w.place-is, w.given-is)
          (taking-byte _ _ _ _ _ _ _ c.loop-taken.invariant c.loop-taken-test.true _ c.is_mark.ensures _ c.push_bit.ensures.place _ (sym w.in-Some.ensures.byte) (omega arith))
      | in_default w ↦
          rw (w.out-is, w.place-is, w.given-is)
          (taking-on _ _ _ _ _ _ _ c.loop-taken.invariant c.loop-taken-test.true _ c.is_mark.ensures _ c.push_bit.ensures.place (sym c.push_bit.ensures.byte ∙ w.in_default.is))
    ]

pub returns : goal.returns
returns c =
    let e = taking-end _ _ _ _ _ _ _ c.loop-taken.invariant c.loop-taken-test.false in
    record { value = e.0; out_after = e.1; after_ten_ones = after-ten-ones _; one_call = one-call _ }
