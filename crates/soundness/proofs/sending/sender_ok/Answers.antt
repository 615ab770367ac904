-- `sender_ok` meets its contract, by what its calls ensure. Assumes nothing.
use Rattle.soundness.specs.Sending.{sender_ok}
use Rattle.soundness.proofs.sending.sender_ok.Goals as goal

pub returns : goal.returns
unfolding sender_ok
returns c = rw c.modulator_ok.ensures
