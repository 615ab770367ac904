-- `panel::Panel::perform` meets its contract: a line that is no call adds nothing to the page. Assumes nothing.
use mathlib.Core.Path.{sym}
use Rattle.text.proofs.Pages.{add_nothing}
use Rattle.panel.proofs.Panel.perform.Goals as goal

pub returns-in_default-clause-page_after : goal.returns-in_default-clause-page_after
returns-in_default-clause-page_after c bits = rw c.in_default.is (sym (add_nothing c.args.answers.now))
