-- `has_bit` meets its contract, by `bit-there`. Assumes nothing.
use Rattle.frame.proofs.Bits.{bit-there}
use Rattle.frame.proofs.has_bit.Goals as goal

pub returns : goal.returns
returns c = bit-there _ _
