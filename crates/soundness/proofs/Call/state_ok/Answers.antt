-- `Call::state_ok` meets its contract; Ansam's time is a literal in the code. Assumes nothing.
use Rattle.schedule.proofs.Constants.{three}
use Rattle.soundness.specs.Sound.{state_ok}
use Rattle.soundness.proofs.Call.state_ok.Goals as goal

pub returns-in-Ansam : goal.returns-in-Ansam
unfolding state_ok
returns-in-Ansam c = rw (c.in-Ansam.is, c.tones_ok-in-Ansam.ensures, three)
