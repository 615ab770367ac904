-- The string that is kept, as the text of a page: a byte more. Assumes nothing.
use Prim.Native.Nat.{ℕ}
use native.Mathlib.Numerals.{add-one}
use mathlib.Core.Bool.{Bool, true, false}
use mathlib.Core.List.{[], ◌∷◌, ◌++◌}
use mathlib.Core.Path.{◌≡◌, refl}
use lib.Dec.{ltb}
use lib.ListN.{length}
use Rattle.set.specs.Refusals.{either}
use Rattle.text.specs.Page.{Page, add_of, add_if}
use Rattle.panel.specs.Wall.{kept_with}

by-room : (t : Bool) (p : Page) (byte : ℕ) → (add_if t p (byte ∷ [])).text ≡ either t (p.text ++ (byte ∷ [])) p.text
unfolding add_if
by-room true p byte = refl
by-room false p byte = refl

pub kept-more : (p : Page) (byte : ℕ) → (add_of p (byte ∷ [])).text ≡ kept_with p.room p.text byte
unfolding add_of
kept-more p byte = rw add-one (by-room (ltb (length p.text) p.room) p byte)
