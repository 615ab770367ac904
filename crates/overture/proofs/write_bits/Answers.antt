-- `write_bits` meets its contract, by what `play` of fsk promises of the bits. Assumes nothing.
use Rattle.overture.proofs.Sending.{bits-sent}
use Rattle.overture.proofs.write_bits.Goals as goal

pub returns : goal.returns
returns c = bits-sent _ _ _ _ _ c.play-written.ensures
