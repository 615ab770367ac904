-- `page::put_told` meets its contract: the fields, one behind the other (`told_is`). Assumes nothing.
use Rattle.serial.proofs.Put.{told_is}
use Rattle.serial.proofs.page.put_told.Goals as goal

pub returns : goal.returns
returns c = told_is _ _ _ _ _ c.answer_number.ensures c.in_command_mode.ensures c.state.ensures c.from.ensures c.stage.ensures c.m.ensures c.put_number.ensures c.put_number-2.ensures c.put_mode.ensures c.put_number-3.ensures c.put_number-4.ensures c.put_number-5.ensures c.put_bytes.ensures c.put_byte.ensures
