-- `ringback_ok` meets its contract, by what its calls ensure. Assumes nothing.
use Rattle.soundness.specs.Sound.{ringback_ok}
use Rattle.schedule.proofs.Constants.{four}
use Rattle.soundness.proofs.ringback_ok.Goals as goal

pub returns : goal.returns
unfolding ringback_ok
returns c = rw (c.tones_ok.ensures, c.ring_ok.ensures, four)
