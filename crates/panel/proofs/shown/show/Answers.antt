-- `shown::show` meets its contract, by what the readers ensure. Assumes nothing.
use Rattle.panel.proofs.shown.show.Goals as goal

pub returns : goal.returns
returns c = rw (c.answer_number.ensures, c.second.ensures, c.first.ensures, c.m.ensures, c.stage.ensures, c.from.ensures, c.in_command_mode.ensures, c.state.ensures)
