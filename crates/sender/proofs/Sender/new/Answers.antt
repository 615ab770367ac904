-- `Sender::new` meets its contract, by what the modulator ensures. Assumes nothing.
use Rattle.sender.specs.Sender.{fresh_sender}
use Rattle.sender.proofs.Frames.{mark-is}
use Rattle.sender.proofs.Sender.new.Goals as goal

pub returns : goal.returns
unfolding fresh_sender
returns c = rw (c.new.ensures, mark-is)
