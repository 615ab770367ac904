-- `Sender::sends` meets its contract, by what the modulator ensures. Assumes nothing.
use Rattle.sender.proofs.Frames.{mark-is, space-is}
use Rattle.sender.proofs.Sender.sends.Goals as goal

pub returns : goal.returns
returns c = rw (c.set_bit.ensures, mark-is, space-is)
