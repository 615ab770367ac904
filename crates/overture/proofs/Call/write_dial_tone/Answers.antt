-- `write_dial_tone` meets its contract: two tones are played to the end of the stage or of the part. Assumes nothing.
use native.Mathlib.Nat.{le_refl}
use Rattle.overture.proofs.Playing.{part-played}
use Rattle.overture.proofs.Stages.{dial-tone-wrote}
use Rattle.overture.proofs.Call.write_dial_tone.Goals as goal

pub returns : goal.returns
returns c = rw c.counted.ensures (dial-tone-wrote _ _ _ _ _ _ _ _ _ c.samples_left-count.ensures (le_refl _) (λ h. h) c.saturating_add-k.ensures _ _ _
    c.stage_samples_for-end.ensures
    (part-played _ _ c.samples_left-count.ensures.fits _ _ _ _ c.play_tones-p.ensures))
