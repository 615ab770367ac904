-- `keep::after` meets its contract: a byte more, where there is a place for it (`kept-more`). Assumes nothing.
use mathlib.Core.Path.{ap, ◌∙◌}
use Rattle.text.specs.Page.{Page}
use Rattle.panel.proofs.Kept.{kept-more}
use Rattle.panel.proofs.keep.after.Goals as goal

pub returns-in-Kept : goal.returns-in-Kept
returns-in-Kept c = rw c.in-Kept.is (ap (λ (p : Page). p.text) c.put_byte.ensures ∙ kept-more _ _)
