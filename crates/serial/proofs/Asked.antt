-- What the reader answers at a line's end is what the line asks for (`line-asked`): a number beyond 64 bits asks for nothing, but for a rate and an address,
-- which are out of their limits either way. Assumes nothing.
use Prim.Native.Nat.{ℕ, ◌-◌, ◌^◌, ◌<◌, ◌≤◌}
use mathlib.Core.Bool.{Bool, true, false, ◌&&◌, and-false}
use mathlib.Core.List.{List, [], ◌∷◌, map}
use mathlib.Core.Path.{◌≡◌, refl, ap, ◌∙◌}
use native.Mathlib.Omega.{arith}
use borrow.Author.Tests.{lt-leb, le-ltb}
use lib.Dec.{leb, ltb}
use lib.ListN.{length, get_or}
use Rattle.std.specs.Prelude.{Option, None, Some}
use Rattle.console.specs.Lines.{is}
use Rattle.console.specs.Fields.{in_64, in_64_if, least}
use Rattle.console.proofs.Reading.{limited, saturated, letter-asked}
use Rattle.serial.specs.declared.lines.Line.{Line}
use Rattle.serial.specs.declared.lines.Asked.{Asked}
use Rattle.serial.specs.declared.lines.Asked.TheVariants.{Rate, Read}
use Rattle.serial.specs.Lines.{address_of, if_is, fill_if, fill_asked, lapse_asked, write_if, write_of, write_asked, one_if, one_asked, two_asked, numbers_asked, asked_of, line_of, answer_of}

abbrev cap : ℕ → ℕ
cap n = least (in_64 n)

-- ---- numbers as they are told
address-told : (n : ℕ) → address_of (cap n) ≡ address_of n
address-told n = limited 255 address_of 255 (omega arith) (λ k h. omega arith) n

fill-told : (n : ℕ) → fill_asked (cap n) ≡ fill_asked n
unfolding fill_asked
fill-told n = limited None (λ (k : ℕ). fill_if (leb k 16384) k) 16384 (omega arith) (λ k h. rw (lt-leb k 16384 h)) n

lapse-first : (n m : ℕ) → 2 ^ 64 - 1 < n → lapse_asked n m ≡ None
unfolding lapse_asked
lapse-first n m h = rw (le-ltb n (2 ^ 64) (omega arith))

lapse-second : (n m : ℕ) → 1 < m → lapse_asked n m ≡ None
unfolding lapse_asked
lapse-second n m h = rw (lt-leb m 1 h, and-false (ltb n (2 ^ 64)))

lapse-told : (n m : ℕ) → lapse_asked (cap n) (cap m) ≡ lapse_asked n m
lapse-told n m =
    limited None (λ (k : ℕ). lapse_asked k (cap m)) (2 ^ 64 - 1) (omega arith) (λ k h. lapse-first k (cap m) h) n
    ∙ limited None (λ (k : ℕ). lapse_asked n k) 1 (omega arith) (λ k h. lapse-second n k h) m

write-value : (a v c o : ℕ) → 255 < v → write_of a v c o ≡ None
unfolding write_of
write-value a v c o h = rw (lt-leb v 255 h)

write-carrier : (a v c o : ℕ) → 1 < c → write_of a v c o ≡ None
unfolding write_of
write-carrier a v c o h = rw (lt-leb c 1 h, and-false (leb v 255))

write-outbox : (a v c o : ℕ) → 16 < o → write_of a v c o ≡ None
unfolding write_of
write-outbox a v c o h = rw (lt-leb o 16 h, and-false (leb c 1), and-false (leb v 255))

write-address : (a v c o : ℕ) → write_of (cap a) v c o ≡ write_of a v c o
unfolding write_of
write-address a v c o = go (leb v 255 && (leb c 1 && leb o 16))
  where
    go : (t : Bool) → write_if t (cap a) v c o ≡ write_if t a v c o
    go true = rw (address-told a)
    go false = refl

write-told : (a v c o : ℕ) → write_of (cap a) (cap v) (cap c) (cap o) ≡ write_of a v c o
write-told a v c o =
    write-address a (cap v) (cap c) (cap o)
    ∙ limited None (λ (k : ℕ). write_of a k (cap c) (cap o)) 255 (omega arith) (λ k h. write-value a k (cap c) (cap o) h) v
    ∙ limited None (λ (k : ℕ). write_of a v k (cap o)) 1 (omega arith) (λ k h. write-carrier a v k (cap o) h) c
    ∙ limited None (λ (k : ℕ). write_of a v c k) 16 (omega arith) (λ k h. write-outbox a v c k h) o

one-told : (is_r is_i is_f : Bool) (n : ℕ) → one_if is_r is_i is_f (cap n) ≡ one_if is_r is_i is_f n
one-told true is_i is_f n = ap (λ (k : ℕ). Some (Rate k)) (saturated n)
one-told false true is_f n = ap (λ (k : ℕ). Some (Read k)) (address-told n)
one-told false false true n = fill-told n
one-told false false false n = refl

-- ---- the numbers of a line
numbers-told : (letter : ℕ) (ns : List ℕ) → numbers_asked letter (map least (map in_64 ns)) ≡ numbers_asked letter ns
unfolding numbers_asked one_asked two_asked write_asked in_64 in_64_if
numbers-told letter [] = refl
numbers-told letter (n ∷ []) = one-told (is "R" letter) (is "I" letter) (is "F" letter) n
numbers-told letter (n ∷ m ∷ []) = ap (if_is (is "W" letter)) (lapse-told n m)
numbers-told letter (n ∷ m ∷ o ∷ []) = ap (if_is (is "O" letter)) (write-told n m o 16)
numbers-told letter (n ∷ m ∷ o ∷ p ∷ []) = ap (if_is (is "O" letter)) (write-told n m o p)
numbers-told letter (n ∷ m ∷ o ∷ p ∷ q ∷ ns) = refl

many : (letter : ℕ) (ns : List ℕ) → 4 < length ns → numbers_asked letter ns ≡ None
unfolding numbers_asked
many letter [] h = absurd (omega arith)
many letter (n ∷ []) h = absurd (omega arith)
many letter (n ∷ m ∷ []) h = absurd (omega arith)
many letter (n ∷ m ∷ o ∷ []) h = absurd (omega arith)
many letter (n ∷ m ∷ o ∷ p ∷ []) h = absurd (omega arith)
many letter (n ∷ m ∷ o ∷ p ∷ q ∷ ns) h = refl

pub line-asked : (line : List ℕ) → answer_of (line_of line) ≡ asked_of line
unfolding asked_of
line-asked line = letter-asked 4 numbers_asked (λ letter. record { same = numbers-told letter; many = many letter }) line

pub answered : (r : Option Asked) (l : Line) → r ≡ answer_of l → (line : List ℕ) → l ≡ line_of line → r ≡ asked_of line
answered r l h line e = h ∙ (ap answer_of e ∙ line-asked line)

-- ---- numbers as a slice, by how many they are
module _ (letter : ℕ) where
  pub by-one : {r : Option Asked} (ns : List (Option ℕ)) (a : Option ℕ) → 1 ≤ length ns → length ns < 2 → r ≡ one_asked letter (least (get_or ns 0 a)) → r ≡ numbers_asked letter (map least ns)
  unfolding numbers_asked
  by-one [] a l h e = absurd (omega arith)
  by-one (n ∷ []) a l h e = e
  by-one (n ∷ m ∷ ns) a l h e = absurd (omega arith)

  pub by-two : {r : Option Asked} (ns : List (Option ℕ)) (a b : Option ℕ) → 2 ≤ length ns → length ns < 3 → r ≡ two_asked letter (least (get_or ns 0 a)) (least (get_or ns 1 b)) → r ≡ numbers_asked letter (map least ns)
  unfolding numbers_asked
  by-two [] a b l h e = absurd (omega arith)
  by-two (n ∷ []) a b l h e = absurd (omega arith)
  by-two (n ∷ m ∷ []) a b l h e = e
  by-two (n ∷ m ∷ o ∷ ns) a b l h e = absurd (omega arith)

  pub by-three : {r : Option Asked} (ns : List (Option ℕ)) (a b c : Option ℕ) → 3 ≤ length ns → length ns < 4 → r ≡ write_asked letter (least (get_or ns 0 a)) (least (get_or ns 1 b)) (least (get_or ns 2 c)) 16 → r ≡ numbers_asked letter (map least ns)
  unfolding numbers_asked
  by-three [] a b c l h e = absurd (omega arith)
  by-three (n ∷ []) a b c l h e = absurd (omega arith)
  by-three (n ∷ m ∷ []) a b c l h e = absurd (omega arith)
  by-three (n ∷ m ∷ o ∷ []) a b c l h e = e
  by-three (n ∷ m ∷ o ∷ p ∷ ns) a b c l h e = absurd (omega arith)

  pub by-four : {r : Option Asked} (ns : List (Option ℕ)) (a b c d : Option ℕ) → 4 ≤ length ns → length ns < 5 → r ≡ write_asked letter (least (get_or ns 0 a)) (least (get_or ns 1 b)) (least (get_or ns 2 c)) (least (get_or ns 3 d)) → r ≡ numbers_asked letter (map least ns)
  unfolding numbers_asked
  by-four [] a b c d l h e = absurd (omega arith)
  by-four (n ∷ []) a b c d l h e = absurd (omega arith)
  by-four (n ∷ m ∷ []) a b c d l h e = absurd (omega arith)
  by-four (n ∷ m ∷ o ∷ []) a b c d l h e = absurd (omega arith)
  by-four (n ∷ m ∷ o ∷ p ∷ []) a b c d l h e = e
  by-four (n ∷ m ∷ o ∷ p ∷ q ∷ ns) a b c d l h e = absurd (omega arith)

  -- none, or more than four
  pub by-others : (ns : List (Option ℕ)) → (length ns ≡ 1 → ⊥) → (length ns ≡ 2 → ⊥) → (length ns ≡ 3 → ⊥) → (length ns ≡ 4 → ⊥) → None ≡ numbers_asked letter (map least ns)
  unfolding numbers_asked
  by-others [] h i j k = refl
  by-others (n ∷ []) h i j k = absurd (h refl)
  by-others (n ∷ m ∷ []) h i j k = absurd (i refl)
  by-others (n ∷ m ∷ o ∷ []) h i j k = absurd (j refl)
  by-others (n ∷ m ∷ o ∷ p ∷ []) h i j k = absurd (k refl)
  by-others (n ∷ m ∷ o ∷ p ∷ q ∷ ns) h i j k = refl
