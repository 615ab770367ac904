-- What a test or a comparison of numbers gives: `closest` by how twice the remainder compares. Assumes nothing.
use mathlib.Core.Path.{◌≡◌, refl, sym, ap, ◌∙◌, subst}
use mathlib.Core.Bool.{Bool, true, false, not, beq}
use Prim.Native.Nat.{ℕ, ◌+◌, ◌*◌, ◌/◌, ◌%◌, ◌≤◌, ◌<◌, compare, Ordering}
use native.Mathlib.Numerals.{add-one}
use native.Mathlib.Omega.{arith}
use lib.Dec.{T, is_le, compare_is_eq, eqb, leb→le, nleb→lt, eqb→eq, eqb_refl}
use lib.Arith.{lt_of_le-ne}
use lib.Ieee.{nearest}
use lib.Ieee.Nearest.{closest}

-- two tests are one if each follows from the other
pub same_test : (a b : Bool) → (T a → T b) → (T b → T a) → a ≡ b
same_test true true f g = refl
same_test true false f g = absurd (f tt)
same_test false true f g = absurd (g tt)
same_test false false f g = refl

-- two tests that `==` finds alike are one
pub beq_same : (a b : Bool) → beq a b ≡ true → a ≡ b
beq_same true true e = refl
beq_same true false e = sym e
beq_same false true e = e
beq_same false false e = refl

-- what `compare` says
abbrev pub Compared : Ordering → ℕ → ℕ → Type 0
Compared Ordering.lt a b = a < b
Compared Ordering.eq a b = a ≡ b
Compared Ordering.gt a b = b < a

pub compared : (a b : ℕ) → Compared (compare a b) a b
compared a b = go (compare a b) (leb→le a b) (nleb→lt a b) (eqb→eq a b) (λ (e : a ≡ b). subst (λ (x : ℕ). T (eqb a x)) e (eqb_refl a))
  where
    go : (o : Ordering) → (T (is_le o) → a ≤ b) → (T (not (is_le o)) → b < a) → (T (compare_is_eq o) → a ≡ b) → (a ≡ b → T (compare_is_eq o)) → Compared o a b
    go Ordering.lt h k e n = lt_of_le-ne (h tt) n
    go Ordering.eq h k e n = e tt
    go Ordering.gt h k e n = k tt

compare-is : (o : Ordering) (a b : ℕ) → Compared o a b → compare a b ≡ o
compare-is o a b h = go (compare a b) o (compared a b) h
  where
    go : (o p : Ordering) → Compared o a b → Compared p a b → o ≡ p
    go Ordering.lt Ordering.lt h k = refl
    go Ordering.lt Ordering.eq h k = absurd (omega arith)
    go Ordering.lt Ordering.gt h k = absurd (omega arith)
    go Ordering.eq Ordering.lt h k = absurd (omega arith)
    go Ordering.eq Ordering.eq h k = refl
    go Ordering.eq Ordering.gt h k = absurd (omega arith)
    go Ordering.gt Ordering.lt h k = absurd (omega arith)
    go Ordering.gt Ordering.eq h k = absurd (omega arith)
    go Ordering.gt Ordering.gt h k = refl

-- `closest`, by how twice the remainder compares
pub closest-down : (a b : ℕ) → a % b * 2 < b → a / b ≡ closest a b
closest-down a b h = sym (ap (nearest (a / b)) (compare-is Ordering.lt (a % b * 2) b h))

pub closest-tie : (a b : ℕ) → a % b * 2 ≡ b → a / b + a / b % 2 ≡ closest a b
closest-tie a b h = sym (ap (nearest (a / b)) (compare-is Ordering.eq (a % b * 2) b h))

pub closest-up : (a b : ℕ) → b < a % b * 2 → a / b + 1 ≡ closest a b
closest-up a b h = add-one (a / b) ∙ sym (ap (nearest (a / b)) (compare-is Ordering.gt (a % b * 2) b h))
