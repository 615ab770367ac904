-- With phase and step in [0, TAU) the next phase is in [0, TAU) again: TAU is M * 2 ^ 1024 units of 2 ^ -1074, both are at most one less in M,
-- and so is what is left of their sum. Assumes nothing.
use mathlib.Core.Path.{refl, sym, subst}
use mathlib.Core.Logic.{inl, inr}
use mathlib.Core.Bool.{Bool, true, false, not}
use Prim.Native.Nat.{ℕ, zero, suc, ◌+◌, ◌-◌, ◌*◌, ◌^◌, ◌≤◌, ◌<◌}
use native.Mathlib.Nat.{le_trans, le_of_lt, not-le_of_lt, eq-or-lt_of_le, mul-le-mul, mul-le-mul_right, lt_of_mul-lt-mul_right}
use native.Mathlib.Omega.{arith}
use lib.Dec.{T, ltb, ltb→lt, nltb→le, lit<, lit≤}
use lib.Pow.{pow_mono, shl_lt}
use lib.Ieee.{Float, binary64, add, le, lt, of_bits, round, fits}
use lib.Ieee.Fits.{cond-fits, add-fits, sub-fits}
use lib.Ieee.Exact.{HasValue}
use Rattle.math.specs.Float.{tau, plus, minus}
use Rattle.math.proofs.Pattern.{magnitude, significand-lo, significand-hi}
use Rattle.math.proofs.Wrapping.{Phase, negative-zero, in-range, wrap-stays}
use Rattle.nco.specs.Nco.{advanced, phase_in_range, stepped_nco}
use Rattle.nco.specs.declared.Nco.{Nco}

abbrev M : ℕ
M = 0x19_21fb_5444_2d18

pub tau-value : HasValue tau false (M * 2 ^ 1024) (2 ^ 1074)
unfolding of_bits
tau-value = (refl, refl)

-- the last value below TAU
below-tau : (e t : ℕ) → t < 2 ^ 52 → magnitude e t < M * 2 ^ 1024 → magnitude e t ≤ (M - 1) * 2 ^ 1024
below-tau zero t H h = le_trans (le_of_lt H) (lit≤ tt)
below-tau (suc x) t H h = go (ltb x 1024) (ltb→lt x 1024) (nltb→le x 1024)
  where
    first : (g : ℕ) → g < M → g ≤ M - 1
    first g h = omega arith

    go : (b : Bool) → (T b → x < 1024) → (T (not b) → 1024 ≤ x) → (2 ^ 52 + t) * 2 ^ x ≤ (M - 1) * 2 ^ 1024
    go true l g = le_trans (le_of_lt (shl_lt 53 x (significand-hi t H))) (le_trans (pow_mono (up x (l tt))) (lit≤ tt))
      where
        up : (x : ℕ) → x < 1024 → 53 + x ≤ 1076
        up x h = omega arith
    go false l g = elim (eq-or-lt_of_le (g tt)) [
      | inl e ↦
          let h' : (2 ^ 52 + t) * 2 ^ 1024 < M * 2 ^ 1024 = subst (λ (z : ℕ). (2 ^ 52 + t) * 2 ^ z < M * 2 ^ 1024) (sym e) h in
          subst (λ (z : ℕ). (2 ^ 52 + t) * 2 ^ z ≤ (M - 1) * 2 ^ 1024) e (mul-le-mul_right (2 ^ 1024) (first (2 ^ 52 + t) (lt_of_mul-lt-mul_right (2 ^ 1024) h')))
      | inr l ↦ absurd (not-le_of_lt h (le_trans (lit≤ tt) (mul-le-mul (significand-lo t) (pow_mono l))))
    ]

phase-of : (x : Float) → T (fits binary64 x) → T (phase_in_range x) → Phase ((M - 1) * 2 ^ 1024) x
phase-of x h k = elim (in-range tau (M * 2 ^ 1024) tau-value x h k) [
  | inl z ↦ inl z
  | inr w ↦ inr (record { at = magnitude w.0.e w.0.t; value = w.1; most = below-tau w.0.e w.0.t w.0.digits w.2 })
]

negative-zeros : T (phase_in_range (advanced negative-zero negative-zero))
unfolding advanced add le lt of_bits round
negative-zeros = tt

pub phase-stays : (step phase : Float) → T (fits binary64 step) → T (fits binary64 phase) → T (phase_in_range step) → T (phase_in_range phase) → T (phase_in_range (advanced step phase))
unfolding advanced
phase-stays step phase hs hp ks kp =
    wrap-stays tau (M * 2 ^ 1024) tau-value (M - 1) 1025 (M - 2) 1024 (lit< tt) (lit< tt) (lit< tt) (lit< tt) (lit≤ tt) (lit< tt)
    phase step ((M - 1) * 2 ^ 1024) ((M - 1) * 2 ^ 1024) (phase-of phase hp kp) (phase-of step hs ks) (lit≤ tt) negative-zeros

-- ---- oscillators
-- phase and step are numbers of the format, in [0, TAU)
pub record InRange (n : Nco) : Type 0 where
  pub phase-fits : T (fits binary64 n.phase)
  pub step_fits : T (fits binary64 n.step)
  pub phase-in : T (phase_in_range n.phase)
  pub step_in : T (phase_in_range n.step)

-- the next phase is a number of the format
pub advanced-fits : (step phase : Float) → T (fits binary64 (advanced step phase))
unfolding advanced
advanced-fits step phase = cond-fits binary64 (le tau (plus phase step)) (minus (plus phase step) tau) (plus phase step) (sub-fits binary64 (plus phase step) tau) (add-fits binary64 phase step)

pub stepped-in-range : {n : Nco} → InRange n → InRange (stepped_nco n)
stepped-in-range {n} t =
    record {
      phase-fits = advanced-fits n.step n.phase;
      step_fits = t.step_fits;
      phase-in = phase-stays n.step n.phase t.step_fits t.phase-fits t.step_in t.phase-in;
      step_in = t.step_in;
    }
