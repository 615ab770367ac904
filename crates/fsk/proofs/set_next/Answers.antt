-- `set_next` meets its contract: by whether the payload has that bit. Assumes nothing.
use mathlib.Core.Path.{sym, ◌∙◌}
use Rattle.fsk.proofs.Channel.{mark_is, space_is, next_bit, no-next-bit}
use Rattle.fsk.proofs.set_next.Goals as goal

pub returns-then-has_bit : goal.returns-then-has_bit
returns-then-has_bit c = rw (c.set_bit.ensures, c.payload_bit.ensures, mark_is, space_is) (sym (next_bit _ _ _ (sym c.has_bit.ensures ∙ c.if-has_bit.true)))

pub returns : goal.returns
returns c = sym (no-next-bit _ _ _ (sym c.has_bit.ensures ∙ c.if-has_bit.false))
