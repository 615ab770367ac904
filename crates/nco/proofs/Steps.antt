-- The step (TAU × frequency) / rate is in [0, TAU) for each frequency of 01 and every rate: TAU × f is at most 40,000 for every whole f to 6,000,
-- and that over a rate of 8,000 or more is at most 5. Assumes nothing.
use mathlib.Core.Path.{◌≡◌, refl, sym, subst}
use mathlib.Core.Bool.{Bool, true, false, ◌&&◌}
use mathlib.Core.List.{List, [], ◌∷◌}
use Prim.Native.Nat.{ℕ, ◌*◌, ◌^◌, ◌≤◌, ◌<◌}
use native.Mathlib.Nat.{le_trans, lt_of_le_of_lt, mul-le-mul_right, mul-le-mul_left, mul-pos, mul-one}
use native.Mathlib.Omega.{arith}
use lib.Dec.{T, leb, leb→le, lit<, lit≤}
use lib.Pow.{pow_pos}
use lib.Ieee.{Float, binary64, le, lt, of_bits}
use lib.Ieee.Bits.{of_bits-fits}
use lib.Ieee.Fits.{and_l, and_r, div-fits}
use lib.Ieee.Exact.{HasValue}
use Rattle.math.specs.Float as float
use Rattle.math.specs.Float.{tau, of_nat, times}
use Rattle.math.proofs.Error.{rescale}
use Rattle.math.proofs.Values.{mul-by, div-by, nat-value}
use Rattle.math.proofs.Bounds.{AtMost, at_most}
use Rattle.math.proofs.Wrapping.{value-within}
use Rattle.nco.specs.Nco.{step_of, phase_in_range, fresh_nco, retuned}
use Rattle.nco.specs.declared.Nco.{Nco}
use Rattle.nco.proofs.Phase.{tau-value, InRange}

tau-short : HasValue tau false 0x19_21fb_5444_2d18 (2 ^ 50)
unfolding of_bits
tau-short = (refl, refl)

pub step-in-range : (freq : Float) (k r : ℕ) → HasValue freq false k 1 → k ≤ 6000 → 8000 ≤ r → r ≤ 192000 → T (phase_in_range (step_of freq (of_nat r)))
step-in-range freq k r f K lo hi =
    let m = times tau freq in
    let w : AtMost (40000 * 2 ^ 1074) m =
    subst (AtMost (40000 * 2 ^ 1074)) (sym (mul-by binary64 tau freq 0x19_21fb_5444_2d18 (2 ^ 50) k 1 (pow_pos 50) (pow_pos 0) tau-short f))
    (at_most (0x19_21fb_5444_2d18 * k) (2 ^ 50) 40000 1074 (pow_pos 50) (lit< tt) (lit< tt) (le_trans (mul-le-mul_right (2 ^ 1074) (mul-le-mul_left 0x19_21fb_5444_2d18 K)) (lit≤ tt))) in
    let c = r * 2 ^ 1074 in
    let C : 0 < c = mul-pos (omega arith) (pow_pos 1074) in
    let rv : HasValue (of_nat r) false c (2 ^ 1074) = rescale (of_nat r) false r 1 c (2 ^ 1074) (pow_pos 0) (mul-one c) (nat-value r (le_trans hi (lit≤ tt))) in
    let s : AtMost (5 * 2 ^ 1074) (step_of freq (of_nat r)) =
    subst (AtMost (5 * 2 ^ 1074)) (sym (div-by binary64 m (of_nat r) w.at c (2 ^ 1074) (pow_pos 1074) C w.value rv))
    (at_most w.at c 5 1074 C (lit< tt) (lit< tt) (le_trans (mul-le-mul_right (2 ^ 1074) w.most) (le_trans (lit≤ tt) (mul-le-mul_left (5 * 2 ^ 1074) (mul-le-mul_right (2 ^ 1074) lo))))) in
    value-within tau (0x19_21fb_5444_2d18 * 2 ^ 1024) tau-value (step_of freq (of_nat r)) s.at s.value (lt_of_le_of_lt s.most (lit< tt))

-- ---- 01's frequencies: the two of a dialling stage with no digits, Ansam's swing, the tones, Q.23's rows and columns, V.21's bits, Ansam
abbrev pub frequencies : List ℕ
frequencies = 1 ∷ 15 ∷ 350 ∷ 400 ∷ 450 ∷ 697 ∷ 770 ∷ 852 ∷ 941 ∷ 980 ∷ 1180 ∷ 1209 ∷ 1336 ∷ 1477 ∷ 1633 ∷ 2100 ∷ []

abbrev pub Each : (ℕ → Type 0) → List ℕ → Type 0
Each p [] = Unit {0}
Each p (k ∷ ks) = p k × Each p ks

abbrev most : List ℕ → Bool
most [] = true
most (k ∷ ks) = leb k 6000 && most ks

each : (p : ℕ → Type 0) → ((k : ℕ) → k ≤ 6000 → p k) → (ks : List ℕ) → T (most ks) → Each p ks
each p f [] h = tt
each p f (k ∷ ks) h = (f k (leb→le k 6000 (and_l (leb k 6000) (most ks) h)), each p f ks (and_r (leb k 6000) (most ks) h))

pub frequencies-in-range : (r : ℕ) → 8000 ≤ r → r ≤ 192000 → Each (λ k. T (phase_in_range (step_of (of_nat k) (of_nat r)))) frequencies
frequencies-in-range r lo hi = each (λ k. T (phase_in_range (step_of (of_nat k) (of_nat r)))) (λ k h. step-in-range (of_nat k) k r (nat-value k (le_trans h (lit≤ tt))) h lo hi) frequencies tt

-- ---- oscillators
zero_in : T (phase_in_range float.zero)
unfolding le lt of_bits
zero_in = tt

pub fresh-in-range : (freq : Float) (k r : ℕ) → HasValue freq false k 1 → k ≤ 6000 → 8000 ≤ r → r ≤ 192000 → InRange (fresh_nco freq (of_nat r))
fresh-in-range freq k r f K lo hi =
    record { phase-fits = of_bits-fits binary64 0; step_fits = div-fits binary64 (times tau freq) (of_nat r); phase-in = zero_in; step_in = step-in-range freq k r f K lo hi }

pub retuned-in-range : {n : Nco} → InRange n → (freq : Float) (k r : ℕ) → n.rate ≡ of_nat r → HasValue freq false k 1 → k ≤ 6000 → 8000 ≤ r → r ≤ 192000 → InRange (retuned n freq)
retuned-in-range {n} t freq k r e f K lo hi =
    record {
      phase-fits = t.phase-fits;
      step_fits = div-fits binary64 (times tau freq) n.rate;
      phase-in = t.phase-in;
      step_in = subst (λ (z : Float). T (phase_in_range (step_of freq z))) (sym e) (step-in-range freq k r f K lo hi);
    }
