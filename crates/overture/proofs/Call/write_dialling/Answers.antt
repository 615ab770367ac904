-- `write_dialling` meets its contract: a run of one pair is played, or else one sample. Assumes nothing.
use Rattle.overture.proofs.Playing.{part-played}
use Rattle.overture.proofs.Stages.{dialling-wrote}
use Rattle.overture.proofs.Call.write_dialling.Goals as goal

pub returns-then-count-gt0 : goal.returns-then-count-gt0
returns-then-count-gt0 c = dialling-wrote _ _ _ _ _ _ _ _ c.dialling_run-count.ensures c.if-i-self.true _ _ _ (part-played _ _ c.dialling_run-count.ensures.fits _ _ _ _ c.play_gated-p.ensures) c.if-count-gt0.true _ c.saturating_add-k.ensures
