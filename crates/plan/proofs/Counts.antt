-- A plan's counts: which are zero, and that their sum is T, with the overture's length and its bounds. By the causes, case by case. Assumes nothing.
use mathlib.Core.Path.{◌≡◌, refl, ap}
use mathlib.Core.Bool.{Bool, true, false, ◌&&◌, and-eq-true_iff}
use mathlib.Core.List.{List}
use Prim.Native.Nat.{ℕ, zero, suc, ◌-◌, ◌≤◌, ◌<◌, zero-le}
use native.Mathlib.Nat.{le_trans, le_of_eq, zero-lt-suc}
use native.Mathlib.Omega.{arith}
use lib.Dec.{leb}
use lib.ListN.{length, get_or, replicate, get_or-eq_default}
use Rattle.std.specs.Prelude.{Result, Ok, Err, sum}
use borrow.Author.Tests.{leb-true, le-leb, lt-leb}
use Rattle.schedule.specs.Rate.{is_rate}
use Rattle.refusal.specs.declared.Refusal.TheVariants.{Rate, Digits}
use Rattle.keys.specs.Keys.{digits_of}
use Rattle.keys.proofs.Line.{digits-fewer}
use Rattle.schedule.specs.Time.{min_rate, max_rate}
use Rattle.schedule.specs.Length.{max_digits, dialling_length, dialling_samples, total}
use Rattle.schedule.proofs.Total.{total-bounds, total-range}
use Rattle.passage.specs.Overture.{HasLength}
use Rattle.passage.proofs.Overture.{overture-length}
use Rattle.refusal.specs.declared.Refusal.{Refusal}
use Rattle.refusal.specs.Refusal.{answer_number}
use Rattle.plan.specs.Plan.{plan_refusal_number, cause_of_plan, plan_cause, digit_count, plan_by, plan_of, counts_of, stage_samples, total_by, total_samples, BoundsOf}

-- ---- the causes
-- accepted is within the limits, and the other way round
pub record Limits (len r : ℕ) : Type 0 where
  pub slow : 8000 ≤ r
  pub fast : r ≤ 192000
  pub few : len ≤ 76

pub accepted-limits : (len r : ℕ) → plan_cause len r ≡ Ok tt → Limits len r
unfolding plan_cause
accepted-limits len r = go (leb min_rate r && leb r max_rate) (leb len max_digits) refl refl
  where
    go : (a b : Bool) → leb min_rate r && leb r max_rate ≡ a → leb len max_digits ≡ b → cause_of_plan a b ≡ Ok tt → Limits len r
    go false b e f h = cc
    go true false e f h = cc
    go true true e f h = let (slow, fast) = (and-eq-true_iff (leb min_rate r) _).0 e in record { slow = leb-true _ _ slow; fast = leb-true _ _ fast; few = leb-true _ _ f }

pub limits-accepted : (len r : ℕ) → 8000 ≤ r → r ≤ 192000 → len ≤ 76 → plan_cause len r ≡ Ok tt
unfolding plan_cause
limits-accepted len r lo hi few = rw (le-leb min_rate r lo, le-leb r max_rate hi, le-leb len max_digits few)

pub no_rate : (len r : ℕ) → is_rate r ≡ false → plan_cause len r ≡ Err Rate
unfolding plan_cause
no_rate len r e = rw e

pub too_many : (len r : ℕ) → 8000 ≤ r → r ≤ 192000 → 76 < len → plan_cause len r ≡ Err Digits
unfolding plan_cause
too_many len r lo hi many = rw (le-leb min_rate r lo, le-leb r max_rate hi, lt-leb len max_digits many)

-- a plan that is declined has its cause, and counts that are zero
pub declined-plan : (k : Result (Unit {0}) Refusal) (r d : ℕ) → (plan_refusal_number k ≡ 0 → ⊥)
    → (answer_number (plan_by k r d) ≡ plan_refusal_number k) × (counts_of (plan_by k r d) ≡ replicate 9 0) × (total_by k r d ≡ 0)
declined-plan (Ok accepted) r d h = absurd (h refl)
declined-plan (Err refusal) r d h = (refl, refl, refl)

pub digits-few : (bytes : List ℕ) → length bytes ≤ 76 → digit_count bytes ≤ 76
digits-few bytes h = le_trans (digits-fewer bytes) h

-- ---- the counts
pub dialling-is : (r : ℕ) → 8000 ≤ r → r ≤ 192000 → (d : ℕ) → d ≤ 76 → dialling_samples r d ≡ dialling_length r d
unfolding dialling_samples
dialling-is r lo hi d few = rw (le-leb min_rate r lo, le-leb r max_rate hi, le-leb d max_digits few)

-- ---- a stage by its number, among nine
nine : (k : Result (Unit {0}) Refusal) (r d : ℕ) → length (counts_of (plan_by k r d)) ≡ 9
nine (Ok accepted) r d = refl
nine (Err refusal) r d = refl

pub stage-count : (bytes : List ℕ) (r stage : ℕ) → 1 ≤ stage → get_or (counts_of (plan_of bytes r)) (stage - 1) 0 ≡ stage_samples bytes r stage
unfolding stage_samples
stage-count bytes r zero h = absurd (omega arith)
stage-count bytes r (suc i) h = ap (λ (j : ℕ). get_or (counts_of (plan_of bytes r)) j 0) (omega arith)

pub stage-none : (bytes : List ℕ) (r stage : ℕ) → (1 ≤ stage → stage ≤ 9 → ⊥) → stage_samples bytes r stage ≡ 0
unfolding stage_samples plan_of
stage-none bytes r zero e = refl
stage-none bytes r (suc i) e = get_or-eq_default (counts_of (plan_by (plan_cause (length bytes) r) r (digit_count bytes))) 0 (le_trans (le_of_eq (nine (plan_cause (length bytes) r) r (digit_count bytes))) (past i (e (zero-lt-suc i))))
  where
    past : (i : ℕ) → (suc i ≤ 9 → ⊥) → 9 ≤ i
    past i h = omega arith

-- ---- T
-- the nine counts' sum
pub sum-is : (bytes : List ℕ) (r : ℕ) → sum (counts_of (plan_of bytes r)) ≡ total_samples bytes r
unfolding plan_of total_samples total
sum-is bytes r = go (plan_cause (length bytes) r)
  where
    go : (k : Result (Unit {0}) Refusal) → sum (counts_of (plan_by k r (digit_count bytes))) ≡ total_by k r (digit_count bytes)
    go (Ok accepted) = omega arith
    go (Err refusal) = refl

-- so no sum of some of them is large
pub total-small : (bytes : List ℕ) (r : ℕ) → total_samples bytes r ≤ 4798406
unfolding total_samples
total-small bytes r = go (plan_cause (length bytes) r) refl
  where
    go : (k : Result (Unit {0}) Refusal) → plan_cause (length bytes) r ≡ k → total_by k r (digit_count bytes) ≤ 4798406
    go (Ok accepted) e =
        let l = accepted-limits (length bytes) r e in
        (total-range r l.slow l.fast (digit_count bytes) (digits-few bytes l.few)).1
    go (Err refusal) e = zero-le

module _ (bytes : List ℕ) (r : ℕ) (lo : 8000 ≤ r) (hi : r ≤ 192000) (few : length bytes ≤ 76) where
  total-is : total_samples bytes r ≡ total r (digit_count bytes)
  unfolding total_samples
  total-is = rw (limits-accepted (length bytes) r lo hi few)

  pub planned-length : HasLength (digits_of bytes) r (total_samples bytes r)
  planned-length = rw total-is (overture-length (digits_of bytes) r lo hi (digits-few bytes few))

  pub planned-bounds : BoundsOf r (digit_count bytes) (total_samples bytes r)
  planned-bounds = let b = total-bounds r lo hi (digit_count bytes) (digits-few bytes few) in rw total-is (record { least = b.least; most = b.most })
