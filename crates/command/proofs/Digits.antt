-- 02, E6: decimal digits up to 255, read one a turn. What is left decides, and a number that has passed 255 stays past it. Assumes nothing.
use Prim.Native.Nat.{ℕ, ◌+◌, ◌-◌, ◌*◌, ◌≤◌, ◌<◌}
use native.Mathlib.Omega.{arith}
use native.Mathlib.Numerals.{add-one}
use mathlib.Core.Path.{◌≡◌, sym, ap, ◌∙◌}
use mathlib.Core.List.{List, [], ◌∷◌}
use mathlib.Core.Bool.{true, false, and-false}
use lib.Dec.{leb}
use lib.ListN.{length, drop, get_or, drop_of_length-le}
use lib.Seq.{drop-cons}
use borrow.Author.Tests.{le-leb, lt-leb}
use Rattle.std.specs.Prelude.{Some, None}
use Rattle.command.specs.Command.{is_digit, all_digits, value_from, number_in}

-- reading on never makes a number less
grows : (v : ℕ) (bytes : List ℕ) → v ≤ value_from v bytes
unfolding value_from
grows v [] = omega arith
grows v (b ∷ bytes) = let rest = grows (v * 10 + (b - 48)) bytes in omega (arith, rest)

-- the bytes, read as far as i, are v
pub record Read (bytes : List ℕ) (i v : ℕ) : Type 0 where
  pub within : i ≤ length bytes
  pub small : v ≤ 255
  pub digits : all_digits (drop i bytes) ≡ all_digits bytes
  pub value : value_from v (drop i bytes) ≡ value_from 0 bytes

module _ (bytes : List ℕ) (i v : ℕ) (r : Read bytes i v) where
  module _ (more : i < length bytes) where
    abbrev b : ℕ
    b = get_or bytes i 0

    here : drop i bytes ≡ b ∷ drop (i + 1) bytes
    here = rw add-one (drop-cons bytes i 0 more)

    pub stopped : is_digit b ≡ false → None ≡ number_in bytes
    unfolding all_digits
    stopped other =
        let none : all_digits bytes ≡ false = sym r.digits ∙ ap all_digits here ∙ rw other in
        rw none

    next-value : value_from (v * 10 + (b - 48)) (drop (i + 1) bytes) ≡ value_from 0 bytes
    unfolding value_from
    next-value = sym (ap (value_from v) here) ∙ r.value

    pub passed : 255 < v * 10 + (b - 48) → None ≡ number_in bytes
    passed past =
        let all = grows (v * 10 + (b - 48)) (drop (i + 1) bytes) in
        let over : leb (value_from 0 bytes) 255 ≡ false = lt-leb (value_from 0 bytes) 255 (omega (arith, all, next-value)) in
        rw (over, and-false)

    pub again : is_digit b ≡ true → (w : ℕ) → w ≡ v * 10 + (b - 48) → w ≤ 255 → Read bytes (i + 1) w
    unfolding all_digits
    again digit w next small =
        record {
          within = omega arith;
          small = small;
          digits = sym (ap all_digits here ∙ rw digit) ∙ r.digits;
          value = rw next next-value;
        }

  pub ended : length bytes ≤ i → Some v ≡ number_in bytes
  unfolding all_digits value_from
  ended all =
      let none : drop i bytes ≡ [] = drop_of_length-le bytes all in
      let digits : all_digits bytes ≡ true = sym r.digits ∙ ap all_digits none in
      let value : value_from 0 bytes ≡ v = sym r.value ∙ ap (value_from v) none in
      rw (digits, value, le-leb v 255 r.small)
