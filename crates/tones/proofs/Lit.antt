-- 02, E8: in a digit's tone the key lit is that of its row and its column, at which the keypad has the digit (`key-named` of `keys`); in a gap there
-- is none. Assumes nothing.
use Rattle.std.proofs.Common.{◌≡◌, ℕ, ◌≤◌, true, false, List, length, get_or, refl, ap}
use Rattle.keys.specs.declared.Tones.{Tones}
use Rattle.std.specs.Prelude.{Option, Some, None}
use lib.ListN.{get_or-eq_default}
use Rattle.keys.specs.Keys.{is_key, key_row, key_column, tones_of}
use Rattle.keys.proofs.Keypad.{key-tones, no-tones}
use Rattle.tones.specs.Dial.{tones_for, digit_tones, dialled_key}

module _ (digits : List ℕ) (i : ℕ) where
  pub digit-lit : is_key (get_or digits i 0) ≡ true → dialled_key digits i true ≡ Some (record { row = key_row (get_or digits i 0); column = key_column (get_or digits i 0) })
  unfolding dialled_key digit_tones
  digit-lit key = ap (λ (t : Option Tones). (tones_for t).key) (key-tones (get_or digits i 0) key)

  pub gap-dark : dialled_key digits i false ≡ None
  unfolding dialled_key
  gap-dark = refl

zero-is-none : is_key 0 ≡ false
unfolding is_key
zero-is-none = refl

-- past the digits there is no key
pub past : (digits : List ℕ) (i : ℕ) → length digits ≤ i → tones_of (get_or digits i 0) ≡ None
past digits i h = rw (get_or-eq_default {A = ℕ} _ 0 h) (no-tones 0 zero-is-none)
