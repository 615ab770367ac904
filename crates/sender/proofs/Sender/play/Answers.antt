-- `Sender::play` meets its contract, by what `play` of fsk promises of a sender. Assumes nothing.
use Rattle.sender.proofs.Playing.{bit-played}
use Rattle.sender.proofs.Sender.play.Goals as goal

pub returns : goal.returns
returns c = bit-played _ _ _ _ _ c.play-written.ensures
