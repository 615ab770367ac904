-- S is at most 129 / 128 in size at any value whatever: no phase has to be sound, nor held by the format. Lowered and folded, a phase in the turn
-- comes to a fraction up to Q, since rounding keeps the bounds H and Q; there the peak's law holds. -0.0 may be written in any way. Assumes nothing.
use mathlib.Core.Path.{◌≡◌, refl, sym, ap, ◌∙◌, subst}
use mathlib.Core.Bool.{Bool, true, false, not, cond, ◌&&◌}
use Prim.Native.Nat.{ℕ, ◌-◌, ◌*◌, ◌^◌, ◌≤◌, ◌<◌}
use native.Mathlib.Nat.{le_trans, le_of_eq, le_of_lt, mul-pos, zero-mul, mul-le-mul_right}
use native.Mathlib.Omega.{arith}
use lib.Dec.{T, leb, ltb, eqb, eqb→eq, not_T, leb→le, nleb→lt, ltb→lt, nltb→le, lit<, lit≤}
use lib.Pow.{pow_pos}
use lib.IntN.{ℤ}
use lib.Ieee.{Float, nan, inf, fin, binary64, round, add, mul, div, sub, neg, le, lt, of_bits, up, down}
use lib.Ieee.Fits.{and_l, and_r, down_pos}
use lib.Ieee.Exact.{HasValue}
use lib.Ieee.Bits.{is_false}
use lib.Ieee.Scale.{round_same}
use Rattle.math.specs.Float as float
use Rattle.math.specs.Float.{one, tau, half_turn}
use Rattle.math.specs.Sine.{series, sine_divisors, folded, quarter_wave, sine}
use Rattle.math.proofs.Values.{sub_at}
use Rattle.math.proofs.Bounds.{AtMost, at_most}
use Rattle.math.proofs.Wrapping.{minus-zero, nan-out, inf-out}
use Rattle.accuracy.proofs.Nearness.{U}
use Rattle.accuracy.proofs.QuarterWave.{quarter-wave-near}
use Rattle.accuracy.proofs.Peak.{quarter-wave-peak}
use Rattle.accuracy.proofs.Turn.{K, tau-value, common, value, half, past-quarter, from-half, below-tau, sevenths}
use Rattle.std.proofs.lemmas.Bool.{and_right}
use Rattle.math.proofs.Size.{Size, of-value, neg-size, zero-size, mul-size}

abbrev pub peak : ℕ
peak = 129 * 2 ^ 23

-- S without its guard, where t says whether x >= H
abbrev wave_by : Bool → Float → Float
wave_by t x = cond t (neg (quarter_wave (folded (cond t (sub binary64 x half_turn) x)))) (quarter_wave (folded (cond t (sub binary64 x half_turn) x)))

-- ---- n / d
-- a difference of at most k / 2 ^ 52, in units of 2 ^ -1074
in-units : (x k d p u : ℕ) → 2 ^ 52 * p ≡ u → x ≤ k * d → x * u ≤ k * p * (d * 2 ^ 52)
in-units x k d p u e h = le_trans (le_of_eq (ap (λ (z : ℕ). x * z) (sym e))) (omega (arith, mul-le-mul_right (2 ^ 52 * p) h))

module _ (n d : ℕ) (dp : 0 < d) (y : Float) (yv : HasValue y false n d) where
  quarter-size : n * 2 ^ 52 ≤ K * d → Size peak (quarter_wave y)
  quarter-size h =
      let nd = sevenths n d dp y yv h in
      let q = quarter-wave-near n d dp nd y yv in
      of-value (quarter_wave y) false q.at U peak (pow_pos 1074) q.value (omega (arith, quarter-wave-peak n d dp nd y yv))

module _ (n d : ℕ) (dp : 0 < d) (y : Float) (yv : HasValue y false n d) where
  -- up to H
  folded-size : n * 2 ^ 52 ≤ 2 * K * d → Size peak (quarter_wave (folded y))
  unfolding folded
  folded-size h =
      subst (λ (t : Bool). Size peak (quarter_wave (cond t (sub binary64 half_turn y) y))) (sym (past-quarter n d dp y yv))
      (go (ltb (K * d) (n * 2 ^ 52)) (ltb→lt (K * d) (n * 2 ^ 52)) (nltb→le (K * d) (n * 2 ^ 52)))
    where
      go : (t : Bool) → (T t → K * d < n * 2 ^ 52) → (T (not t) → n * 2 ^ 52 ≤ K * d) → Size peak (quarter_wave (cond t (sub binary64 half_turn y) y))
      go true g l =
          let w : AtMost (K * 2 ^ 1022) (sub binary64 half_turn y) =
          subst (AtMost (K * 2 ^ 1022)) (sym (sub_at binary64 half_turn y (2 * K * d) (n * 2 ^ 52) (d * 2 ^ 52) (common n d dp y yv) (half n d dp y yv) (value n d dp y yv) h))
          (at_most (2 * K * d - n * 2 ^ 52) (d * 2 ^ 52) K 1022 (common n d dp y yv) (lit< tt) (lit< tt) (in-units (2 * K * d - n * 2 ^ 52) K d (2 ^ 1022) (2 ^ 1074) refl (omega (arith, g tt)))) in
          quarter-size w.at U (pow_pos 1074) (sub binary64 half_turn y) w.value (le_trans (mul-le-mul_right (2 ^ 52) w.most) (lit≤ tt))
      go false g l = quarter-size n d dp y yv (l tt)

module _ (n d : ℕ) (dp : 0 < d) (y : Float) (yv : HasValue y false n d) where
  -- from H to TAU
  lowered-size : 2 * K * d ≤ n * 2 ^ 52 → n * 2 ^ 52 < 4 * K * d → Size peak (neg (quarter_wave (folded (sub binary64 y half_turn))))
  lowered-size h l =
      let x = sub binary64 y half_turn in
      let w : AtMost (K * 2 ^ 1023) x = subst (AtMost (K * 2 ^ 1023))
      (sym (sub_at binary64 y half_turn (n * 2 ^ 52) (2 * K * d) (d * 2 ^ 52) (common n d dp y yv) (value n d dp y yv) (half n d dp y yv) h))
      (at_most (n * 2 ^ 52 - 2 * K * d) (d * 2 ^ 52) K 1023 (common n d dp y yv) (lit< tt) (lit< tt) (le_trans (in-units (n * 2 ^ 52 - 2 * K * d) (2 * K) d (2 ^ 1022) (2 ^ 1074) refl (omega arith)) (le_of_eq refl))) in
      neg-size peak (quarter_wave (folded x)) (folded-size w.at U (pow_pos 1074) x w.value (le_trans (mul-le-mul_right (2 ^ 52) w.most) (lit≤ tt)))

  wave-size : n * 2 ^ 52 < 4 * K * d → Size peak (wave_by (le half_turn y) y)
  wave-size l =
      subst (λ (t : Bool). Size peak (wave_by t y)) (sym (from-half n d dp y yv))
      (go (leb (2 * K * d) (n * 2 ^ 52)) (leb→le (2 * K * d) (n * 2 ^ 52)) (nleb→lt (2 * K * d) (n * 2 ^ 52)))
    where
      go : (t : Bool) → (T t → 2 * K * d ≤ n * 2 ^ 52) → (T (not t) → n * 2 ^ 52 < 2 * K * d) → Size peak (wave_by t y)
      go true g h = lowered-size (g tt) l
      go false g h = folded-size n d dp y yv (le_of_lt (h tt))

-- ---- -0.0
square-zero : (e : ℤ) → mul binary64 (fin true 0 e) (fin true 0 e) ≡ round binary64 false 0 1
unfolding mul
square-zero e = ap (λ (z : ℕ). round binary64 false (z * z) (down e * down e)) (zero-mul (up e)) ∙ round_same binary64 false 0 (down e * down e) 0 1 (mul-pos (down_pos e) (down_pos e)) (lit< tt) (sym (zero-mul (down e * down e)))

flat : Size (2 ^ 30) (series (round binary64 false 0 1) one sine_divisors)
unfolding series mul div sub add neg of_bits round
flat = lit≤ tt

minus-zero-size : (e : ℤ) → Size 0 (fin true 0 e)
minus-zero-size e = le_of_eq (ap (λ (z : ℕ). z * 2 ^ 30) (zero-mul (up e)) ∙ sym (zero-mul (down e)))

quarter-minus-zero : (e : ℤ) → Size peak (quarter_wave (fin true 0 e))
unfolding quarter_wave
quarter-minus-zero e =
    mul-size 0 (2 ^ 30) peak (fin true 0 e) (series (mul binary64 (fin true 0 e) (fin true 0 e)) one sine_divisors) (lit< tt) (lit≤ tt) (minus-zero-size e)
    (subst (λ (z : Float). Size (2 ^ 30) (series z one sine_divisors)) (sym (square-zero e)) flat)

below_half : (e : ℤ) → le half_turn (fin true 0 e) ≡ false
unfolding le of_bits
below_half e = and_right (eqb (884279719003555 * down e) (0 * up e * 281474976710656)) (eqb (884279719003555 * down e) 0) (is_false (eqb (884279719003555 * down e) 0) (not_T (eqb (884279719003555 * down e) 0) (λ (t : T (eqb (884279719003555 * down e) 0)). (omega (arith, down_pos e, eqb→eq (884279719003555 * down e) 0 t)))))

folds-not : (e : ℤ) → folded (fin true 0 e) ≡ fin true 0 e
unfolding folded lt of_bits
folds-not e = refl

wave-minus-zero : (e : ℤ) → Size peak (wave_by (le half_turn (fin true 0 e)) (fin true 0 e))
wave-minus-zero e =
    subst (λ (t : Bool). Size peak (wave_by t (fin true 0 e))) (sym (below_half e))
    (subst (λ (z : Float). Size peak (quarter_wave z)) (sym (folds-not e)) (quarter-minus-zero e))

pub sine-size : (x : Float) → Size peak (sine x)
unfolding sine
sine-size x = go (le float.zero x && lt x tau) refl
  where
    inside : (x : Float) → T (le float.zero x && lt x tau) → Size peak (wave_by (le half_turn x) x)
    inside nan h = absurd (nan-out tau h)
    inside (inf s) h = absurd (inf-out tau (4 * K) (2 ^ 52) tau-value s h)
    inside (fin true m e) h =
        subst (λ (z : ℕ). Size peak (wave_by (le half_turn (fin true z e)) (fin true z e))) (sym (minus-zero m e (and_l (le float.zero (fin true m e)) (lt (fin true m e) tau) h))) (wave-minus-zero e)
    inside (fin false m e) h =
        let y = fin false m e in
        wave-size (m * up e) (down e) (down_pos e) y (refl, refl)
        (ltb→lt (m * up e * 2 ^ 52) (4 * K * down e) (subst T (below-tau (m * up e) (down e) (down_pos e) y (refl, refl)) (and_r (le float.zero y) (lt y tau) h)))

    go : (t : Bool) → (le float.zero x && lt x tau) ≡ t → Size peak (cond t (wave_by (le half_turn x) x) float.zero)
    go true e = inside x (subst T (sym e) tt)
    go false e = zero-size peak
