-- `Chip::value` meets its contract: where no text waits the receive register reads 0. Assumes nothing.
use Rattle.queue.proofs.Waiting.{given-or-0}
use Rattle.uart.specs.Registers.{value_at}
use Rattle.uart.proofs.Chip.value.Goals as goal

pub returns-in-Data : goal.returns-in-Data
unfolding value_at
returns-in-Data c = rw (c.in-Data.is, c.unwrap_or.ensures, c.oldest.ensures, given-or-0)
