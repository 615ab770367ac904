-- `write_ringback` meets its contract: a run in tone or in a gap is played, and with it the stage may end. Assumes nothing.
use native.Mathlib.Nat.{le_trans}
use Rattle.overture.proofs.Playing.{part-played}
use Rattle.overture.proofs.Stages.{ringback-wrote}
use Rattle.overture.proofs.Call.write_ringback.Goals as goal

pub returns : goal.returns
returns c = rw c.counted.ensures (ringback-wrote _ _ _ _ _ _ _ _ _ c.samples_left-left.ensures c.ring_run-count.ensures.fits c.ring_run-count.ensures.some c.saturating_add-k.ensures _ _ _ _ c.ring_run-count.ensures
    c.stage_samples_for-end.ensures _ _ _ _
    c.seconds.ensures
    c.ring_progress-progress.ensures.1
    c.ringback_gate-on.ensures
    c.ring_progress-progress.ensures.0
    (part-played _ _ (le_trans c.ring_run-count.ensures.fits c.samples_left-left.ensures.fits) _ _ _ _ c.play_gated-p.ensures))
