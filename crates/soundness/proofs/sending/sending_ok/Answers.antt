-- `sending_ok` meets its contract, by what its calls ensure. Assumes nothing.
use Rattle.soundness.specs.Sending.{sending_ok}
use Rattle.soundness.proofs.sending.sending_ok.Goals as goal

pub returns : goal.returns
unfolding sending_ok
returns c = rw (c.ok.ensures, c.sender_ok.ensures)
