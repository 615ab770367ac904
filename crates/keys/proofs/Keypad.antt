-- A key has one of the four rows and one of the four columns, so its tones are one of the four low and one of the four high ones; and at its row
-- and column the keypad has the key itself. Assumes nothing.
use Prim.Native.Nat.{ℕ, zero, suc, ◌+◌, ◌*◌, ◌/◌, ◌%◌, ◌<◌, ◌≤◌}
use native.Mathlib.Omega.{arith}
use mathlib.Core.Path.{◌≡◌, refl, sym, ap, ◌∙◌}
use mathlib.Core.Bool.{Bool, true, false, cond}
use mathlib.Core.List.{List}
use lib.Dec.{eqb}
use lib.ListN.{length, get_or}
use borrow.Author.Tests.{ltb-true, eqb-true}
use Rattle.std.specs.Prelude.{Some, None}
use Rattle.std.proofs.lemmas.List.Sums.{passes_at_first}
use Rattle.std.proofs.lemmas.List.Quantifiers.{position-Some}
use Rattle.keys.specs.Keys.{rows, columns, keypad, place_in, key_place, place_of, key_row, key_column, is_key, hertz, tones_at, tones_of, key_at, NamesKey}

-- what is found among some keys is the one at its place
at_its_place : (b : ℕ) (ks : List ℕ) → place_in b ks < length ks → get_or ks (place_in b ks) 0 ≡ b
at_its_place b ks h = eqb-true _ b (passes_at_first (λ k. eqb k b) ks 0 h)

each-of-four : (P : ℕ → Type 0) → P 0 → P 1 → P 2 → P 3 → (k : ℕ) → k < 4 → P k
each-of-four P p q r s zero h = p
each-of-four P p q r s (suc zero) h = q
each-of-four P p q r s (suc (suc zero)) h = r
each-of-four P p q r s (suc (suc (suc zero))) h = s
each-of-four P p q r s (suc (suc (suc (suc k)))) h = absurd (let z : ⊥ = omega arith in z)

module _ (b : ℕ) (key : is_key b ≡ true) where
  pub key_row_lem : key_row b < 4
  unfolding is_key key_row
  key_row_lem = let h : key_place b < 16 = ltb-true (key_place b) 16 key in omega arith

  pub key-column : key_column b < 4
  unfolding key_column
  key-column = omega arith

  pub key-named : key_at (key_row b) (key_column b) ≡ b
  unfolding is_key key_row key_column
  key-named = ap (λ (p : ℕ). get_or keypad p 0) (whole (key_place b)) ∙ at_its_place b keypad (ltb-true (key_place b) 16 key)
    where
      whole : (p : ℕ) → 4 * (p / 4) + p % 4 ≡ p
      whole p = omega arith

  pub key-tones : tones_of b ≡ Some (record {
    low = hertz (get_or rows (key_row b) 0);
    high = hertz (get_or columns (key_column b) 0);
    key = record { row = key_row b; column = key_column b };
  })
  unfolding tones_of
  key-tones = rw key

-- 02, E8: row and column name the same key as the digit
pub names_key : (b : ℕ) → NamesKey b (tones_of b)
unfolding tones_of
names_key b = go (is_key b) refl
  where
    go : (k : Bool) → is_key b ≡ k → NamesKey b (tones_at k (key_row b) (key_column b))
    go true e = (key_row_lem b e, key-column b e, key-named b e)
    go false e = tt

pub no-tones : (b : ℕ) → is_key b ≡ false → tones_of b ≡ None
unfolding tones_of
no-tones b e = rw e

-- and where the search finds a place, or none, they are those of the place, or none
pub placed : (b place : ℕ) → Some place ≡ place_of b → tones_at true (place / 4) (place % 4) ≡ tones_of b
unfolding tones_of is_key key_row key_column
placed b place e = go (is_key b) e
  where
    go : (t : Bool) → Some place ≡ cond t (Some (key_place b)) None → tones_at true (place / 4) (place % 4) ≡ tones_at t (key_place b / 4) (key_place b % 4)
    go true e = let p : place ≡ key_place b = cc in rw p
    go false e = cc

pub place-within : (b place : ℕ) → Some place ≡ place_of b → place < 16
place-within b place e = (position-Some (λ k. eqb k b) keypad place 0 (sym e)).0

pub unplaced : (b : ℕ) → None ≡ place_of b → None ≡ tones_of b
unfolding tones_of is_key
unplaced b e = go (is_key b) (sym e)
  where
    go : (t : Bool) → cond t (Some (key_place b)) None ≡ None → None ≡ tones_at t (key_row b) (key_column b)
    go true e = cc
    go false e = refl

pub low-between : (k : ℕ) → k < 4 → (697 ≤ get_or rows k 0) × (get_or rows k 0 ≤ 941)
low-between = each-of-four (λ (k : ℕ). (697 ≤ get_or rows k 0) × (get_or rows k 0 ≤ 941)) (omega arith) (omega arith) (omega arith) (omega arith)

pub high-between : (k : ℕ) → k < 4 → (1209 ≤ get_or columns k 0) × (get_or columns k 0 ≤ 1633)
high-between = each-of-four (λ (k : ℕ). (1209 ≤ get_or columns k 0) × (get_or columns k 0 ≤ 1633)) (omega arith) (omega arith) (omega arith) (omega arith)
