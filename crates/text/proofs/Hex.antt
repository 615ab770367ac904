-- Bytes in hexadecimal on a page, one after the other. Assumes nothing.
use Prim.Native.Nat.{ℕ, ◌+◌, ◌≤◌, ◌<◌}
use native.Mathlib.Omega.{arith}
use native.Mathlib.Numerals.{add-one}
use mathlib.Core.Path.{◌≡◌, refl}
use mathlib.Core.List.{List, [], ◌∷◌}
use lib.ListN.{length, drop, get_or, drop_of_length-le}
use lib.Seq.{drop-cons}
use Rattle.text.specs.Page.{Page, add_of}
use Rattle.text.specs.Digits.{last_digits}
use Rattle.text.specs.Fields.{in_hex, hex_on}

-- one byte more, and no more
pub next-hex : (p q : Page) (bytes : List ℕ) (at : ℕ) → at < length bytes → q ≡ add_of p (last_digits 16 2 (get_or bytes at 0))
    → in_hex q (drop (at + 1) bytes) ≡ in_hex p (drop at bytes)
next-hex p q bytes at l e = rw (e, add-one, drop-cons bytes at 0 l)

pub no_more : (p : Page) (bytes : List ℕ) (at : ℕ) → length bytes ≤ at → in_hex p (drop at bytes) ≡ p
no_more p bytes at l = rw (drop_of_length-le bytes {i = at} l)

-- none is a dash
pub dash : (p : Page) (bytes : List ℕ) → length bytes ≡ 0 → hex_on p bytes ≡ hex_on p []
dash p [] e = refl
dash p (b ∷ bytes) e = absurd (let z : ⊥ = omega arith in z)

pub some : (p : Page) (bytes : List ℕ) → (length bytes ≡ 0 → ⊥) → hex_on p bytes ≡ in_hex p bytes
some p [] e = absurd (e refl)
some p (b ∷ bytes) e = refl
