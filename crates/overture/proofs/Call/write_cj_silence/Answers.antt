-- `write_cj_silence` meets its contract: zeros are written to the end of the stage or of the part. Assumes nothing.
use native.Mathlib.Nat.{le_refl}
use Rattle.overture.proofs.Playing.{part-zeros}
use Rattle.overture.proofs.Stages.{cj-silence-wrote}
use Rattle.overture.proofs.Call.write_cj_silence.Goals as goal

pub returns : goal.returns
returns c = rw c.counted.ensures (cj-silence-wrote _ _ _ _ _ _ _ _ _ c.samples_left-count.ensures (le_refl _) (λ h. h) c.saturating_add-k.ensures c.args.fsk
    c.requires
    c.stage_samples_for-end.ensures
    (part-zeros _ _ c.samples_left-count.ensures.fits _ c.silence.ensures))
