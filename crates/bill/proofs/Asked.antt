-- What the reader answers at a line's end is what the line asks for (`line-asked`): a number beyond 64 bits is told as one that is, and both are the largest.
-- Assumes nothing.
use Prim.Native.Nat.{ℕ, ◌<◌, ◌≤◌, min}
use mathlib.Core.List.{List, [], ◌∷◌, map}
use mathlib.Core.Path.{◌≡◌, refl, ap, ◌∙◌}
use native.Mathlib.Omega.{arith}
use lib.ListN.{length, get_or}
use Rattle.std.specs.Prelude.{Option, None, Some}
use Rattle.console.specs.Fields.{in_64, least}
use Rattle.console.proofs.Reading.{limited, numbers-asked}
use Rattle.bill.specs.declared.lines.Line.{Line}
use Rattle.bill.specs.declared.lines.Asked.{Asked}
use Rattle.bill.specs.declared.lines.Asked.TheVariants.{Time, From}
use Rattle.bill.specs.Lines.{largest, numbers_asked, asked_of, line_of, answer_of}

held-told : (n : ℕ) → min (least (in_64 n)) largest ≡ min n largest
held-told n = limited largest (λ (k : ℕ). min k largest) largest (omega arith) (λ k h. omega arith) n

numbers-told : (ns : List ℕ) → numbers_asked (map least (map in_64 ns)) ≡ numbers_asked ns
unfolding numbers_asked
numbers-told [] = refl
numbers-told (ms ∷ []) = ap (λ (k : ℕ). Some (Time k)) (held-told ms)
numbers-told (ms ∷ start ∷ []) =
    ap (λ (k : ℕ). Some (From k (min (least (in_64 start)) largest))) (held-told ms)
    ∙ ap (λ (k : ℕ). Some (From (min ms largest) k)) (held-told start)
numbers-told (ms ∷ start ∷ n ∷ ns) = refl

many : (ns : List ℕ) → 2 < length ns → numbers_asked ns ≡ None
unfolding numbers_asked
many [] h = absurd (omega arith)
many (ms ∷ []) h = absurd (omega arith)
many (ms ∷ start ∷ []) h = absurd (omega arith)
many (ms ∷ start ∷ n ∷ ns) h = refl

pub line-asked : (line : List ℕ) → answer_of (line_of line) ≡ asked_of line
unfolding asked_of
line-asked line = numbers-asked 2 numbers_asked (record { same = numbers-told; many = many }) line

pub answered : (r : Option Asked) (l : Line) → r ≡ answer_of l → (line : List ℕ) → l ≡ line_of line → r ≡ asked_of line
answered r l h line e = h ∙ (ap answer_of e ∙ line-asked line)

-- ---- numbers as a slice, by how many they are
pub by-one : {ms : ℕ} (ns : List (Option ℕ)) (a : Option ℕ) → 1 ≤ length ns → length ns < 2 → ms ≡ min (least (get_or ns 0 a)) largest → Some (Time ms) ≡ numbers_asked (map least ns)
unfolding numbers_asked
by-one [] a l h e = absurd (omega arith)
by-one (n ∷ []) a l h e = rw e
by-one (n ∷ m ∷ ns) a l h e = absurd (omega arith)

pub by-two : {ms start : ℕ} (ns : List (Option ℕ)) (a b : Option ℕ) → 2 ≤ length ns → length ns < 3 → ms ≡ min (least (get_or ns 0 a)) largest → start ≡ min (least (get_or ns 1 b)) largest → Some (From ms start) ≡ numbers_asked (map least ns)
unfolding numbers_asked
by-two [] a b l h e f = absurd (omega arith)
by-two (n ∷ []) a b l h e f = absurd (omega arith)
by-two (n ∷ m ∷ []) a b l h e f = rw (e, f)
by-two (n ∷ m ∷ o ∷ ns) a b l h e f = absurd (omega arith)

-- none, or more than two
pub by-others : (ns : List (Option ℕ)) → (length ns ≡ 1 → ⊥) → (length ns ≡ 2 → ⊥) → None ≡ numbers_asked (map least ns)
unfolding numbers_asked
by-others [] h i = refl
by-others (n ∷ []) h i = absurd (h refl)
by-others (n ∷ m ∷ []) h i = absurd (i refl)
by-others (n ∷ m ∷ o ∷ ns) h i = refl
