-- The digits of a line: they are all keys, no more than the line's bytes, and one byte more adds one digit or none.
-- Assumes nothing.
use Prim.Native.Nat.{ℕ, suc, ◌+◌, ◌-◌, ◌<◌, ◌≤◌}
use native.Mathlib.Numerals.{add-one}
use native.Mathlib.Omega.{arith}
use mathlib.Core.Path.{◌≡◌, refl, sym, ap, ◌∙◌}
use mathlib.Core.Bool.{Bool, true, false, cond, ◌&&◌, and-true}
use mathlib.Core.List.{List, [], ◌∷◌, ◌++◌, map, append-nil, append_assoc, map-append}
use lib.ListN.{length, get_or, take, set, replicate, length-append, length-take, length-map}
use lib.Seq.{take-suc, take_all, take-append-le, set_at, take_at}
use lib.Dec.{ltb}
use borrow.Author.Tests.{ltb-true, ltb-false}
use Rattle.std.specs.List.{filter, list_all}
use Rattle.std.proofs.lemmas.List.Elements.{filter-append}
use Rattle.std.proofs.lemmas.List.Folds.{list_all-append}
use Rattle.std.proofs.lemmas.List.Sums.{length-filter, count_by-le-length}
use Rattle.ascii.specs.Upper.{upper}
use Rattle.keys.specs.Keys.{is_key, keys_of, digits_of, all_keys, padded, held, with_digit, dialled_of}

all-keys : (bs : List ℕ) → list_all is_key (filter is_key bs) ≡ true
all-keys [] = refl
all-keys (b ∷ bs) = grind (arith, all-keys bs)

-- ---- of the digits of a line

pub all_digits_lem : (line : List ℕ) → all_keys (digits_of line) ≡ true
unfolding digits_of keys_of all_keys
all_digits_lem line = all-keys (map upper line)

-- ---- byte by byte
pub all_more : (ds : List ℕ) (i : ℕ) → i < length ds → all_keys (take i ds) && is_key (get_or ds i 0) ≡ all_keys (take (i + 1) ds)
unfolding all_keys
all_more ds i h = rw (add-one, take-suc ds i 0 h, list_all-append, and-true) refl

pub digits-fewer : (line : List ℕ) → length (digits_of line) ≤ length line
unfolding digits_of keys_of
digits-fewer line = rw length-filter (omega (arith, count_by-le-length is_key (map upper line), length-map line upper))

-- a line's 80 bytes leave 76 after ATDT, and 76 digits are all that it has
pub digits-whole : (line : List ℕ) → length line ≤ 76 → take 76 (digits_of line) ≡ digits_of line
digits-whole line h = take_all 76 (digits_of line) (omega (arith, digits-fewer line))

-- 01's cases: 12, and what the AT processor makes of abcdef
pub dials-12 : digits_of (49 ∷ 50 ∷ []) ≡ 49 ∷ 50 ∷ []
unfolding digits_of keys_of is_key upper
dials-12 = refl

pub dials-abcd : digits_of (65 ∷ 66 ∷ 67 ∷ 68 ∷ 69 ∷ 70 ∷ []) ≡ 65 ∷ 66 ∷ 67 ∷ 68 ∷ []
unfolding digits_of keys_of is_key upper
dials-abcd = refl

-- ---- the digits of a line's first i bytes, in an array of 76 with their number

pub none_yet : (line : List ℕ) → held [] ≡ dialled_of (take 0 line)
unfolding digits_of keys_of padded
none_yet line = refl

pub padded-front : (ds : List ℕ) → take (length ds) (padded ds) ≡ ds
unfolding padded
padded-front ds = take_at ds _ (length ds) refl

-- a digit is written where there is room
stored : (ds : List ℕ) (b : ℕ) → length ds < 76 → set (padded ds) (length ds) b ≡ padded (ds ++ (b ∷ []))
unfolding padded
stored ds b h =
    let e : 76 - length ds ≡ suc (76 - length (ds ++ (b ∷ []))) = simp length-append (omega arith) in
    rw (e, append_assoc) (set_at ds 0 (replicate (76 - length (ds ++ (b ∷ []))) 0) b (length ds) refl)

module _ (ds : List ℕ) (b : ℕ) where
  short : length (take 76 ds) < 76 → length ds < 76
  short h = let e = length-take 76 ds in omega arith

  room : length (take 76 ds) < 76 → take 76 (ds ++ (b ∷ [])) ≡ take 76 ds ++ (b ∷ [])
  room h =
      let s = short h in
      let n : length (ds ++ (b ∷ [])) ≤ 76 = simp length-append (omega arith) in
      let m : length ds ≤ 76 = omega arith in
      take_all 76 (ds ++ (b ∷ [])) n ∙ ap (λ (l : List ℕ). l ++ (b ∷ [])) (sym (take_all 76 ds m))

  full : 76 ≤ length (take 76 ds) → take 76 (ds ++ (b ∷ [])) ≡ take 76 ds
  full h = take-append-le 76 ds (b ∷ []) (let e = length-take 76 ds in omega arith)

-- a digit more, where there is room, is one more of the digits that are held
pushed : (ds : List ℕ) (b : ℕ) → with_digit (held (take 76 ds)) b ≡ held (take 76 (ds ++ (b ∷ [])))
pushed ds b = go (ltb (length (take 76 ds)) 76) refl
  where
    go : (t : Bool) → ltb (length (take 76 ds)) 76 ≡ t
        → cond t (record { keys = set (padded (take 76 ds)) (length (take 76 ds)) b; len = length (take 76 ds) + 1 }) (held (take 76 ds)) ≡ held (take 76 (ds ++ (b ∷ [])))
    go true e = let fits = ltb-true (length (take 76 ds)) 76 e in rw (room ds b fits, stored (take 76 ds) b fits, length-append) refl
    go false e = let over = ltb-false (length (take 76 ds)) 76 e in rw (full ds b over)

module _ (line : List ℕ) (i b : ℕ) (more : i < length line) (is : b ≡ upper (get_or line i 0)) where
  digits_more : digits_of (take (i + 1) line) ≡ digits_of (take i line) ++ filter is_key (b ∷ [])
  unfolding digits_of keys_of
  digits_more = rw (add-one, take-suc line i 0, map-append, is) (filter-append is_key (map upper (take i line)) (upper (get_or line i 0) ∷ []))

  pub key_pushed : is_key b ≡ true → with_digit (dialled_of (take i line)) b ≡ dialled_of (take (i + 1) line)
  key_pushed key = pushed (digits_of (take i line)) b ∙ ap (λ (ds : List ℕ). held (take 76 ds)) (sym (rw key at digits_more))

  pub other_dropped : is_key b ≡ false → dialled_of (take i line) ≡ dialled_of (take (i + 1) line)
  other_dropped other = ap (λ (ds : List ℕ). held (take 76 ds)) (sym (rw (other, append-nil) at digits_more))

pub ruleset steps = (key_pushed, other_dropped)
