-- Whether n samples are fewer than Dialling's is told by the digit at n: up to the length it is below d, and from there on it is d or more,
-- since what the length reached, any later count has passed. Assumes nothing.
use mathlib.Core.Path.{◌≡◌, sym, subst, ◌∙◌}
use mathlib.Core.Logic.{inl, inr}
use mathlib.Core.Bool.{◌||◌}
use Prim.Native.Nat.{ℕ, zero, suc, ◌*◌, ◌^◌, ◌≤◌, ◌<◌, zero-le}
use native.Mathlib.Nat.{le_trans, lt_of_le_of_lt, lt_of_not-le, not-le_of_lt, eq-or-lt_of_le, zero-lt-suc, mul-lt-mul_of_pos_left}
use lib.Dec.{ltb, eqb, ltb→lt, lt→ltb, eqb-suc-zero, lit≤}
use borrow.Author.Tests.{lt-ltb, le-ltb}
use Rattle.math.proofs.Tests.{same_test}
use Rattle.schedule.specs.Time.{time_at}
use Rattle.schedule.specs.Dialling.{digit_at}
use Rattle.schedule.specs.Length.{dialling_length}
use Rattle.schedule.proofs.First.{Reaches}
use Rattle.schedule.proofs.Digits.{digit-past, digit-late}
use Rattle.schedule.proofs.Lengths.{dialling-none, dialling-ends, dialling-range}

module _ (r : ℕ) (lo : 8000 ≤ r) (hi : r ≤ 192000) where
  -- from the length on
  past : (d n : ℕ) → 0 < d → d ≤ 76 → n ≤ 2 ^ 32 → dialling_length r d ≤ n → d ≤ digit_at (time_at r n)
  past d n P D most h = elim (eq-or-lt_of_le h) [
    | inl e ↦ subst (λ (z : ℕ). d ≤ digit_at (time_at r z)) e end.reached
    | inr l ↦ digit-past r lo hi n (le_trans end.some h) most d D (lt_of_le_of_lt edge (mul-lt-mul_of_pos_left l (zero-lt-suc 4)))
  ]
    where
      end : Reaches (λ k. digit_at (time_at r k)) d (dialling_length r d)
      end = dialling-ends r lo hi d D P

      edge : d * r ≤ 5 * dialling_length r d
      edge = digit-late r lo hi (dialling_length r d) end.some (le_trans (dialling-range r lo hi d D).1 (lit≤ tt)) d end.reached

  later : (d n : ℕ) → d ≤ 76 → suc n ≤ 2 ^ 32 → ltb (digit_at (time_at r (suc n))) d ≡ ltb (suc n) (dialling_length r d)
  later zero n D most = le-ltb (digit_at (time_at r (suc n))) 0 zero-le ∙ sym (rw (dialling-none r) (le-ltb (suc n) 1 (zero-lt-suc n)))
  later (suc d) n D most =
      same_test (ltb (digit_at (time_at r (suc n))) (suc d)) (ltb (suc n) (dialling_length r (suc d)))
      (λ h. lt→ltb (suc n) (dialling_length r (suc d)) (lt_of_not-le (λ g. not-le_of_lt (ltb→lt (digit_at (time_at r (suc n))) (suc d) h) (past (suc d) (suc n) (zero-lt-suc d) D most g))))
      (λ h. lt→ltb (digit_at (time_at r (suc n))) (suc d) ((dialling-ends r lo hi (suc d) D (zero-lt-suc d)).before (suc n) (zero-lt-suc n) (ltb→lt (suc n) (dialling_length r (suc d)) h)))

  pub goes_on : (d n : ℕ) → d ≤ 76 → n ≤ 2 ^ 32 → eqb n 0 || ltb (digit_at (time_at r n)) d ≡ ltb n (dialling_length r d)
  goes_on d zero D most = sym (lt-ltb 0 (dialling_length r d) (dialling-range r lo hi d D).0)
  goes_on d (suc n) D most = rw (eqb-suc-zero n) (later d n D most)
