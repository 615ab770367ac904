-- `text::put_seconds` meets its contract: its three texts, for which there is room, are one. Assumes nothing.
use Prim.Native.Nat.{◌/◌}
use mathlib.Core.Path.{sym, ap, ◌∙◌}
use native.Mathlib.Omega.{arith}
use borrow.Author.Tests.{eq-eqb, ne_eqb, leb-true, leb-false}
use Rattle.ascii.specs.Ascii.{ascii}
use Rattle.text.specs.Digits.{last_digits}
use Rattle.text.specs.Seconds.{parts_of, seconds_of, seconds_if}
use Rattle.text.specs.Text.{Page, add_of}
use Rattle.text.proofs.Pages.{few-places}
use Rattle.text.proofs.Texts.{add_nothing, seconds-whole, seconds-none}
use Rattle.text.proofs.lent.put_seconds.Goals as goal

pub returns-then-rate-eq0 : goal.returns-then-rate-eq0
unfolding seconds_of seconds_if
returns-then-rate-eq0 c = rw (eq-eqb _ _ c.if-rate-eq0.true) (sym (add_nothing _ _))

pub overflow_add-places : goal.overflow_add-places
unfolding parts_of
overflow_add-places c = let a = c.args in omega (arith, c.places.ensures, few-places (parts_of a.samples a.rate / 10000))

pub returns-then-has_room : goal.returns-then-has_room
unfolding parts_of seconds_of
returns-then-has_room c = let a = c.args in
    rw (ne_eqb _ _ c.if-rate-eq0.false)
    (c.put_digits.ensures
    ∙ ap (λ (p : Page). add_of p (last_digits 10 4 (parts_of a.samples a.rate))) (c.put_byte-fraction.ensures ∙ ap (λ (p : Page). add_of p (ascii ".")) c.put_decimal-point.ensures)
    ∙ seconds-whole _ _ (parts_of a.samples a.rate) (rw (← c.places.ensures) (leb-true _ _ (sym c.has_room.ensures ∙ c.if-has_room.true))))

pub returns-else-has_room : goal.returns-else-has_room
unfolding parts_of seconds_of
returns-else-has_room c = let a = c.args in
    rw (ne_eqb _ _ c.if-rate-eq0.false)
    (sym (seconds-none _ _ (parts_of a.samples a.rate) (rw (← c.places.ensures) (leb-false _ _ (sym c.has_room.ensures ∙ c.if-has_room.false)))))
