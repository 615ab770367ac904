-- `write_off_hook` meets its contract: the click is played to the end of the stage or of the part. Assumes nothing.
use Rattle.overture.proofs.Playing.{part-played}
use Rattle.overture.proofs.Stages.{off-hook-wrote}
use Rattle.overture.proofs.Call.write_off_hook.Goals as goal

pub returns : goal.returns
returns c = rw c.counted.ensures (off-hook-wrote _ _ _ _ _ _ _ _ c.samples_left-count.ensures c.stage_samples_for-end.ensures _ (part-played _ _ c.samples_left-count.ensures.fits _ _ _ _ c.play_click-rng.ensures))
