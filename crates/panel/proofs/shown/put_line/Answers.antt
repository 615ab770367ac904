-- `shown::put_line` meets its contract: the report, or nothing. Assumes nothing.
use mathlib.Core.Path.{sym}
use Rattle.text.proofs.Pages.{add_nothing}
use Rattle.panel.proofs.shown.put_line.Goals as goal

pub returns-in-None : goal.returns-in-None
returns-in-None c = rw c.in-None.is (sym (add_nothing _))
