-- `report::compose` meets its contract: the fields stand one behind the other (`composed`). Assumes nothing.
use Rattle.report.proofs.Written.{composed}
use Rattle.report.proofs.compose.Goals as goal

pub returns : goal.returns
returns c = composed _ c.new-line.ensures c.put_number.ensures c.put_mode.ensures c.put_number-2.ensures c.put_number-3.ensures c.put_number-4.ensures c.put_number-5.ensures c.put_decimal.ensures c.put_byte.ensures
