-- `command::Line::is` meets its contract, by what `==` says. Assumes nothing.
use mathlib.Core.Path.{◌∙◌}
use Rattle.command.proofs.Begins.{equal}
use Rattle.command.proofs.Line.is.Goals as goal

pub returns : goal.returns
returns c = c.eq.ensures ∙ rw c.typed.ensures (equal _ _)
