-- `write_ansam` meets its contract: a run of one sign is played, and with it the stage may end. Assumes nothing.
use native.Mathlib.Nat.{le_trans}
use Rattle.overture.proofs.Playing.{part-played}
use Rattle.overture.proofs.Stages.{ansam-wrote}
use Rattle.overture.proofs.Call.write_ansam.Goals as goal

pub returns : goal.returns
returns c = rw c.counted.ensures (ansam-wrote _ _ _ _ _ _ _ _ _ c.samples_left-left.ensures c.reversal_run-count.ensures.fits c.reversal_run-count.ensures.some c.saturating_add-k.ensures _ _ _ c.reversal_run-count.ensures
    c.stage_samples_for-end.ensures _ _
    c.seconds.ensures
    c.reversal_sign-sign.ensures
    (part-played _ _ (le_trans c.reversal_run-count.ensures.fits c.samples_left-left.ensures.fits) _ _ _ _ c.play_answer-p.ensures))
