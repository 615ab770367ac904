-- `play_gated` meets its contract: in tone by `play_tones`; in a gap two oscillators that rest make zeros. Assumes nothing.
use mathlib.Core.Path.{refl}
use Rattle.tones.specs.Mixed.{gated_of}
use Rattle.overture.proofs.Playing.{zeros-played, only-zeros}
use Rattle.overture.proofs.play_gated.Goals as goal

pub returns : goal.returns
unfolding gated_of
returns c = rw c.if-on.false (zeros-played _ _ refl refl _ _ _ (only-zeros _ _ c.silence.ensures))
