-- `text::put` meets its contract: the text stands at the place, or there is no room for it. Assumes nothing.
use mathlib.Core.Path.{sym, ◌∙◌}
use borrow.Author.Tests.{leb-true, leb-false}
use Rattle.text.proofs.Texts.{put-lent, add_none}
use Rattle.text.proofs.lent.put.Goals as goal

pub returns-then-has_room : goal.returns-then-has_room
returns-then-has_room c = rw c.copy_from_slice.ensures.after (put-lent c.args.out.now c.args.at c.args.text.now (leb-true _ _ (sym c.has_room.ensures ∙ c.if-has_room.true)))

pub returns-else-has_room : goal.returns-else-has_room
returns-else-has_room c = sym (add_none _ _ _ (leb-false _ _ (sym c.has_room.ensures ∙ c.if-has_room.false)))
