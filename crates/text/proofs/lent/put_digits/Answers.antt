-- `text::put_digits` meets its contract: the digits stand at the place, or there is no room for them. Assumes nothing.
use mathlib.Core.Path.{sym, ◌∙◌}
use borrow.Author.Tests.{leb-true, leb-false}
use Rattle.text.proofs.Texts.{digits-lent, digits-none}
use Rattle.text.proofs.lent.put_digits.Goals as goal

pub returns-then-has_room : goal.returns-then-has_room
returns-then-has_room c = digits-lent c.args.out.now c.args.at c.args.base c.args.count c.args.number (leb-true _ _ (sym c.has_room.ensures ∙ c.if-has_room.true)) c.spell.ensures

pub returns-else-has_room : goal.returns-else-has_room
returns-else-has_room c = sym (digits-none _ _ _ _ _ (leb-false _ _ (sym c.has_room.ensures ∙ c.if-has_room.false)))
