-- What the parser answers at a line's end is the line's call, by its fields (`parsed-call`): of a letter and its numbers, each as it is told. No call is lost by
-- that: a number beyond 64 bits makes no call, but for a rate, which is out of its limits either way. Assumes nothing.
use Prim.Native.Nat.{ℕ, ◌-◌, ◌^◌, ◌<◌, ◌≤◌}
use mathlib.Core.Bool.{Bool, true, false, ◌&&◌, and-false}
use mathlib.Core.List.{List, [], ◌∷◌, map}
use mathlib.Core.Path.{◌≡◌, refl, ap, sym, ◌∙◌}
use native.Mathlib.Omega.{arith}
use borrow.Author.Tests.{lt-leb, le-ltb}
use lib.Dec.{leb, ltb}
use lib.ListN.{length, get_or}
use Rattle.std.proofs.lemmas.List.{length-map}
use Rattle.std.specs.Prelude.{Option, None, Some}
use Rattle.console.specs.declared.lines.Call.{Call}
use Rattle.console.specs.declared.lines.Call.TheVariants.{Rate, Cue, Kept, Bits, Queued}
use Rattle.console.specs.declared.lines.Parser.{Parser}
use Rattle.console.specs.Lines.{is, bare_call, fill_call, fill_if, longest_of, typed_call, typed_if, lapse_call, lapse_if, call_if, cue_call, kept_call, bits_call, queue_call, string_call, string_if, added_call, one_call, two_call, three_call, numbers_call, call_of}
use Rattle.console.specs.Fields.{in_64, in_64_if, least}
use Rattle.console.specs.Parser.{parsed_of, answer_of}
use Rattle.console.proofs.Reading.{limited, saturated, letter-asked}

abbrev cap : ℕ → ℕ
cap n = least (in_64 n)

-- ---- one number
by-limit : (limit : ℕ) (call : ℕ → Call) → limit < 2 ^ 64 → (n : ℕ) → call_if (leb (cap n) limit) (call (cap n)) ≡ call_if (leb n limit) (call n)
unfolding call_if
by-limit limit call small n = limited None (λ (k : ℕ). call_if (leb k limit) (call k)) limit small (λ k h. rw (lt-leb k limit h)) n

longest-small : (x : Bool) → longest_of x < 2 ^ 64
longest-small true = omega arith
longest-small false = omega arith

fill-told : (x : Bool) (n : ℕ) → fill_call x (cap n) ≡ fill_call x n
unfolding fill_call fill_if
fill-told x n = limited None (λ (k : ℕ). fill_if (leb k (longest_of x)) k) (longest_of x) (longest-small x) (λ k h. rw (lt-leb k (longest_of x) h)) n

added-told : (is_c is_m is_b is_q : Bool) (n : ℕ) → added_call is_c is_m is_b is_q (cap n) ≡ added_call is_c is_m is_b is_q n
unfolding added_call cue_call kept_call bits_call queue_call
added-told true is_m is_b is_q n = by-limit 255 Cue (omega arith) n
added-told false true is_b is_q n = by-limit 255 Kept (omega arith) n
added-told false false true is_q n = by-limit 64 Bits (omega arith) n
added-told false false false true n = by-limit 255 Queued (omega arith) n
added-told false false false false n = refl

one-told : (is_r is_f x : Bool) (letter n : ℕ) → one_call is_r is_f x letter (cap n) ≡ one_call is_r is_f x letter n
unfolding one_call
one-told true is_f x letter n = ap (λ (k : ℕ). Some (Rate k)) (saturated n)
one-told false true x letter n = fill-told x n
one-told false false true letter n = added-told (is "C" letter) (is "M" letter) (is "B" letter) (is "Q" letter) n
one-told false false false letter n = refl

-- ---- two and three numbers
typed-first : (n m o : ℕ) → 255 < n → typed_call n m o ≡ None
unfolding typed_call typed_if
typed-first n m o h = rw (lt-leb n 255 h)

typed-second : (n m o : ℕ) → 1 < m → typed_call n m o ≡ None
unfolding typed_call typed_if
typed-second n m o h = rw (lt-leb m 1 h, and-false (leb n 255))

typed-third : (n m o : ℕ) → 16 < o → typed_call n m o ≡ None
unfolding typed_call typed_if
typed-third n m o h = rw (lt-leb o 16 h, and-false (leb m 1), and-false (leb n 255))

typed-told : (n m o : ℕ) → typed_call (cap n) (cap m) (cap o) ≡ typed_call n m o
typed-told n m o =
    limited None (λ (k : ℕ). typed_call k (cap m) (cap o)) 255 (omega arith) (λ k h. typed-first k (cap m) (cap o) h) n
    ∙ limited None (λ (k : ℕ). typed_call n k (cap o)) 1 (omega arith) (λ k h. typed-second n k (cap o) h) m
    ∙ limited None (λ (k : ℕ). typed_call n m k) 16 (omega arith) (λ k h. typed-third n m k h) o

lapse-first : (n m : ℕ) → 2 ^ 64 - 1 < n → lapse_call n m ≡ None
unfolding lapse_call lapse_if
lapse-first n m h = rw (le-ltb n (2 ^ 64) (omega arith))

lapse-second : (n m : ℕ) → 1 < m → lapse_call n m ≡ None
unfolding lapse_call lapse_if
lapse-second n m h = rw (lt-leb m 1 h, and-false (ltb n (2 ^ 64)))

lapse-told : (n m : ℕ) → lapse_call (cap n) (cap m) ≡ lapse_call n m
lapse-told n m =
    limited None (λ (k : ℕ). lapse_call k (cap m)) (2 ^ 64 - 1) (omega arith) (λ k h. lapse-first k (cap m) h) n
    ∙ limited None (λ (k : ℕ). lapse_call n k) 1 (omega arith) (λ k h. lapse-second n k h) m

string-first : (n m o : ℕ) → 1 < n → string_call n m o ≡ None
unfolding string_call string_if
string-first n m o h = rw (lt-leb n 1 h)

string-second : (n m o : ℕ) → 1200 < m → string_call n m o ≡ None
unfolding string_call string_if
string-second n m o h = rw (lt-leb m 1200 h, and-false (leb n 1))

string-third : (n m o : ℕ) → 1200 < o → string_call n m o ≡ None
unfolding string_call string_if
string-third n m o h = rw (lt-leb o 1200 h, and-false (leb m 1200), and-false (leb n 1))

string-told : (n m o : ℕ) → string_call (cap n) (cap m) (cap o) ≡ string_call n m o
string-told n m o =
    limited None (λ (k : ℕ). string_call k (cap m) (cap o)) 1 (omega arith) (λ k h. string-first k (cap m) (cap o) h) n
    ∙ limited None (λ (k : ℕ). string_call n k (cap o)) 1200 (omega arith) (λ k h. string-second n k (cap o) h) m
    ∙ limited None (λ (k : ℕ). string_call n m k) 1200 (omega arith) (λ k h. string-third n m k h) o

two-told : (is_t is_w : Bool) (n m : ℕ) → two_call is_t is_w (cap n) (cap m) ≡ two_call is_t is_w n m
unfolding two_call in_64 in_64_if
two-told true is_w n m = typed-told n m 16
two-told false true n m = lapse-told n m
two-told false false n m = refl

three-told : (is_t is_s : Bool) (n m o : ℕ) → three_call is_t is_s (cap n) (cap m) (cap o) ≡ three_call is_t is_s n m o
unfolding three_call
three-told true is_s n m o = typed-told n m o
three-told false true n m o = string-told n m o
three-told false false n m o = refl

-- ---- the numbers of a line
numbers-call : (x : Bool) (letter : ℕ) (ns : List ℕ) → numbers_call x letter (map least (map in_64 ns)) ≡ numbers_call x letter ns
unfolding numbers_call
numbers-call x letter [] = refl
numbers-call x letter (n ∷ []) = one-told (is "R" letter) (is "F" letter) x letter n
numbers-call x letter (n ∷ m ∷ []) = two-told (is "T" letter) (is "W" letter) n m
numbers-call x letter (n ∷ m ∷ o ∷ []) = three-told (x && is "T" letter) (x && is "S" letter) n m o
numbers-call x letter (n ∷ m ∷ o ∷ p ∷ ns) = refl

many : (x : Bool) (letter : ℕ) (ns : List ℕ) → 3 < length ns → numbers_call x letter ns ≡ None
unfolding numbers_call
many x letter [] h = absurd (omega arith)
many x letter (n ∷ []) h = absurd (omega arith)
many x letter (n ∷ m ∷ []) h = absurd (omega arith)
many x letter (n ∷ m ∷ o ∷ []) h = absurd (omega arith)
many x letter (n ∷ m ∷ o ∷ p ∷ ns) h = refl

pub parsed-call : (x : Bool) (line : List ℕ) → answer_of (parsed_of x line) ≡ call_of x line
unfolding call_of
parsed-call x line = letter-asked 3 (numbers_call x) (λ letter. record { same = numbers-call x letter; many = many x letter }) line

-- so what the parser answers is told of the line that it holds
pub answered : (r : Option Call) (p : Parser) → r ≡ answer_of p → (x : Bool) (line : List ℕ) → p ≡ parsed_of x line → r ≡ call_of x line
answered r p h x line e = h ∙ (ap answer_of e ∙ parsed-call x line)

-- ---- numbers as a slice, by how many they are
module _ (x : Bool) (letter : ℕ) where
  pub by-none : {r : Option Call} (ns : List (Option ℕ)) → length ns < 1 → r ≡ bare_call (is "D" letter) (x && is "U" letter) (x && is "K" letter) → r ≡ numbers_call x letter (map least ns)
  unfolding numbers_call
  by-none [] h e = e
  by-none (n ∷ ns) h e = absurd (omega arith)

  pub by-one : {r : Option Call} (ns : List (Option ℕ)) (a : Option ℕ) → 1 ≤ length ns → length ns < 2 → r ≡ one_call (is "R" letter) (is "F" letter) x letter (least (get_or ns 0 a)) → r ≡ numbers_call x letter (map least ns)
  unfolding numbers_call
  by-one [] a l h e = absurd (omega arith)
  by-one (n ∷ []) a l h e = e
  by-one (n ∷ m ∷ ns) a l h e = absurd (omega arith)

  pub by-two : {r : Option Call} (ns : List (Option ℕ)) (a b : Option ℕ) → 2 ≤ length ns → length ns < 3 → r ≡ two_call (is "T" letter) (is "W" letter) (least (get_or ns 0 a)) (least (get_or ns 1 b)) → r ≡ numbers_call x letter (map least ns)
  unfolding numbers_call
  by-two [] a b l h e = absurd (omega arith)
  by-two (n ∷ []) a b l h e = absurd (omega arith)
  by-two (n ∷ m ∷ []) a b l h e = e
  by-two (n ∷ m ∷ o ∷ ns) a b l h e = absurd (omega arith)

  pub by-three : {r : Option Call} (ns : List (Option ℕ)) (a b c : Option ℕ) → 3 ≤ length ns → length ns < 4 → r ≡ three_call (x && is "T" letter) (x && is "S" letter) (least (get_or ns 0 a)) (least (get_or ns 1 b)) (least (get_or ns 2 c)) → r ≡ numbers_call x letter (map least ns)
  unfolding numbers_call
  by-three [] a b c l h e = absurd (omega arith)
  by-three (n ∷ []) a b c l h e = absurd (omega arith)
  by-three (n ∷ m ∷ []) a b c l h e = absurd (omega arith)
  by-three (n ∷ m ∷ o ∷ []) a b c l h e = e
  by-three (n ∷ m ∷ o ∷ p ∷ ns) a b c l h e = absurd (omega arith)

  pub by-more : (ns : List (Option ℕ)) → 4 ≤ length ns → None ≡ numbers_call x letter (map least ns)
  by-more ns l = sym (many x letter (map least ns) (rw (length-map ns least) l))
