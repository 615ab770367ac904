-- 01's cases at 8,000 samples a second: R(0.05), Dialling with 0, 2 and 3 digits, and the second digit, which sounds for 801 samples.
-- Counts on an edge are computed; the laws do all others. Assumes nothing.
use Rattle.std.proofs.Common.{◌≡◌, ℕ, zero, suc, ◌^◌, ◌<◌, ◌≤◌, Bool, true, false, not, T, ltb, sym, refl, ◌∙◌, subst, inl, inr, true≢false, le_of_eq, le_of_suc-le-suc, le_of_lt, zero-lt-suc, eq-or-lt_of_le, lt_of_not-le, arith, lit<, lit≤, ltb→lt, nltb→le}
use lib.Ieee.{sub, mul, div, lt, of_int, of_bits}
use Rattle.math.specs.Whole.{floor_of}
use Rattle.math.proofs.Constants.{click-samples}
use Rattle.schedule.specs.Time.{time_at, samples_in}
use Rattle.schedule.specs.Dialling.{digit_at, in_tone}
use Rattle.schedule.specs.Length.{click_time, dialling_length}
use Rattle.schedule.proofs.Digits.{digit-late, digit-past, in-tone, in-gap}
use Rattle.schedule.proofs.Lengths.{dialling-none, dialling-there, dialling-after}

-- R(0.05) = 400
pub click-at-8000 : samples_in click_time 8000 ≡ 400
unfolding samples_in
click-at-8000 = click-samples

-- ---- Dialling 1, 3,200, 4,801 for 0, 2, 3 digits
pub no-digits-at-8000 : dialling_length 8000 0 ≡ 1
no-digits-at-8000 = dialling-none 8000

at-3200 : digit_at (time_at 8000 3200) ≡ 2
unfolding digit_at floor_of div of_int of_bits
at-3200 = refl

at-4800 : digit_at (time_at 8000 4800) ≡ 2
unfolding digit_at floor_of div of_int of_bits
at-4800 = refl

pub two-digits-at-8000 : dialling_length 8000 2 ≡ 3200
two-digits-at-8000 = dialling-there 8000 (lit≤ tt) (lit≤ tt) 2 (lit≤ tt) (lit< tt) 3200 (lit≤ tt) (lit< tt) (le_of_eq (sym at-3200))

pub three-digits-at-8000 : dialling_length 8000 3 ≡ 4801
three-digits-at-8000 = dialling-after 8000 (lit≤ tt) (lit≤ tt) 3 (lit≤ tt) (lit< tt) 4800 (lit≤ tt) (lit< tt) (omega (arith, at-4800))

-- ---- the second digit sounds for 801 samples: those that 1,600 to 2,400 samples of the stage come before
-- the pair that a sample is made with, after k samples, is the second digit's tone
abbrev pub Second : ℕ → Type 0
Second k = (digit_at (time_at 8000 k) ≡ 1) × (in_tone (time_at 8000 k) ≡ true)

at-0 : digit_at (time_at 8000 0) ≡ 0
unfolding digit_at floor_of div of_int of_bits
at-0 = refl

at-1600 : Second 1600
unfolding in_tone digit_at floor_of div sub mul lt of_int of_bits
at-1600 = (refl, refl)

at-2400 : Second 2400
unfolding in_tone digit_at floor_of div sub mul lt of_int of_bits
at-2400 = (refl, refl)

pub second-digit-in-tone : (k : ℕ) → 1600 ≤ k → k ≤ 2400 → Second k
second-digit-in-tone k lo hi = elim (eq-or-lt_of_le lo) [
  | inl e ↦ subst Second e at-1600
  | inr l ↦ elim (eq-or-lt_of_le hi) [ inl e ↦ subst Second (sym e) at-2400 | inr h ↦ in-tone 8000 (lit≤ tt) (lit≤ tt) k (omega arith) 1 (lit≤ tt) (omega arith) (omega arith) ]
]

-- and no others of the 2 ^ 32 that a count can be
pub second-digit-only : (k : ℕ) → k < 2 ^ 32 → Second k → (1600 ≤ k) × (k ≤ 2400)
second-digit-only k most s = (from k most s.0, le_of_suc-le-suc (lt_of_not-le past))
  where
    from : (j : ℕ) → j < 2 ^ 32 → digit_at (time_at 8000 j) ≡ 1 → 1600 ≤ j
    from zero h e = absurd (omega (arith, at-0))
    from (suc j) h e = omega (arith, digit-late 8000 (lit≤ tt) (lit≤ tt) (suc j) (zero-lt-suc j) (le_of_lt h) 1 (le_of_eq (sym e)))

    past : 2401 ≤ k → ⊥
    past g = go (ltb k 3200) (ltb→lt k 3200) (nltb→le k 3200)
      where
        go : (b : Bool) → (T b → k < 3200) → (T (not b) → 3200 ≤ k) → ⊥
        go true l h = let gap = l tt in true≢false (sym s.1 ∙ (in-gap 8000 (lit≤ tt) (lit≤ tt) k (le_of_lt most) 1 (lit≤ tt) (omega arith) (omega arith)).1)
        go false l h = elim (eq-or-lt_of_le (h tt)) [
          | inl e ↦ omega (arith, s.0, subst (λ (z : ℕ). digit_at (time_at 8000 z) ≡ 2) e at-3200)
          | inr w ↦ omega (arith, s.0, digit-past 8000 (lit≤ tt) (lit≤ tt) k (omega arith) (le_of_lt most) 2 (lit≤ tt) (omega arith))
        ]

-- ---- so the first digit and its gap have the 1,600 before that: 02, E2
pub one-digit-at-8000 : dialling_length 8000 1 ≡ 1600
one-digit-at-8000 = dialling-there 8000 (lit≤ tt) (lit≤ tt) 1 (lit≤ tt) (lit< tt) 1600 (lit≤ tt) (lit< tt) (le_of_eq (sym at-1600.0))
