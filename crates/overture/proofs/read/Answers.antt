-- `read` meets its contract: the invariant is `Filling`; what a writer leaves of the part lent to it comes back by `fill-again`. Assumes nothing.
use native.Mathlib.Omega.{arith}
use Rattle.overture.proofs.Filling.{fill_start, fill-again, fill-long, fill-buffer, fill-state, fill-shown, fits_in, moves}
use Rattle.overture.proofs.read.Goals as goal

pub loop-at-init : goal.loop-at-init
loop-at-init c = fill_start _ _ _ _ _ c.waiting-shown.ensures

pub overflow_add-at : goal.overflow_add-at
overflow_add-at c = omega (arith, fits_in _ _ _ _ _ _ _ _ c.loop-at.invariant c.loop-at-test.true _ _ c.write_stage-w.ensures, c.well_formed)

pub loop-at-smaller : goal.loop-at-smaller
loop-at-smaller c = let F = c.loop-at.invariant in
    omega (arith, fits_in _ _ _ _ _ _ _ _ F c.loop-at-test.true _ _ c.write_stage-w.ensures, moves _ _ _ _ _ _ _ _ F c.loop-at-test.true _ _ c.write_stage-w.ensures)

pub loop-at-preserved : goal.loop-at-preserved
loop-at-preserved c = fill-again _ _ _ _ _ _ _ _ c.loop-at.invariant c.loop-at-test.true _ _ c.write_stage-w.ensures _ c.shown-shown.ensures _ c.next_state-s.ensures

pub shape_of-out : goal.shape_of-out
shape_of-out c = fill-long _ _ _ _ _ _ _ _ c.loop-at.invariant

pub returns : goal.returns
returns c = let F = c.loop-at.invariant in
    let l = c.loop-at-test.false in
    record { out_after = fill-buffer _ _ _ _ _ _ _ _ F l; state_value = fill-state _ _ _ _ _ _ _ _ F l; shown_value = fill-shown _ _ _ _ _ _ _ _ F l }
