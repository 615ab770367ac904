-- The count after some samples more: their sum as far as there is room, and then the largest. By one sample after another. Assumes nothing.
use mathlib.Core.Path.{◌≡◌, ap, ◌∙◌}
use Prim.Native.Nat.{ℕ, zero, suc, min, ◌+◌, ◌≤◌, ◌<◌}
use native.Mathlib.Nat.{le_refl}
use native.Mathlib.Omega.{arith}
use mathlib.Core.Bool.{Bool, true, false, not}
use lib.Dec.{T, ltb, ltb→lt, nltb→le}
use Rattle.std.proofs.Common.{inl, inr}
use Rattle.std.proofs.lemmas.Bool.{cases_lt}
use Rattle.schedule.specs.Time.{count_up, inc_up_to, saturating_inc}
use Rattle.schedule.proofs.Count.{inc-stays, saturating-inc-is}
use Rattle.runs.specs.Runs.{counted}

-- the largest stays
largest : saturating_inc 0xffff_ffff ≡ 0xffff_ffff
unfolding saturating_inc
largest = inc-stays 0xffff_ffff 0xffff_ffff (le_refl _)

saturating-inc-le : (n : ℕ) → saturating_inc n ≤ n + 1
unfolding saturating_inc inc_up_to
saturating-inc-le n = go (ltb n 0xffff_ffff)
  where
    go : (t : Bool) → count_up t n ≤ n + 1
    go true = omega arith
    go false = omega arith

-- j samples more, as far as there is room
pub counted_is : (j n : ℕ) → n + j ≤ 0xffff_ffff → counted j n ≡ n + j
unfolding counted
counted_is zero n h = omega arith
counted_is (suc j) n h =
    let e = counted_is j n (omega arith) in
    let m = saturating-inc-is (counted j n) (omega arith) in
    omega arith

pub counted-most : (j n : ℕ) → n ≤ 0xffff_ffff → 0xffff_ffff ≤ n + j → counted j n ≡ 0xffff_ffff
unfolding counted
counted-most zero n h k = omega arith
counted-most (suc j) n h k = go (ltb (n + j) 0xffff_ffff) (ltb→lt (n + j) 0xffff_ffff) (λ t. counted-most j n h (nltb→le (n + j) 0xffff_ffff t))
  where
    go : (t : Bool) → (T t → n + j < 0xffff_ffff) → (T (not t) → counted j n ≡ 0xffff_ffff) → saturating_inc (counted j n) ≡ 0xffff_ffff
    go true l g =
        let e = counted_is j n (omega (arith, l tt)) in
        let m = saturating-inc-is (counted j n) (omega (arith, l tt)) in
        omega (arith, l tt)
    go false l g = ap saturating_inc (g tt) ∙ largest

pub counted-le : (j n : ℕ) → counted j n ≤ n + j
unfolding counted
counted-le zero n = omega arith
counted-le (suc j) n =
    let e = counted-le j n in
    let m = saturating-inc-le (counted j n) in
    omega arith

-- c samples more by std's `saturating_add`
pub added_is : (c n : ℕ) → n ≤ 0xffff_ffff → min (n + min c 0xffff_ffff) 0xffff_ffff ≡ counted c n
added_is c n h =
    elim (cases_lt 0xffff_ffff (n + c)) [
      | inl l ↦ rw (counted-most c n h (omega arith)) (omega arith)
      | inr l ↦ rw (counted_is c n l) (omega arith)
    ]
