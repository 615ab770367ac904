-- The quarter wave y × p beside the Taylor sum at y = n / d, for n / d up to 11 / 7: both are a product of y and a series, and the series are
-- near. So S lies within 131072 / 2 ^ 53, which is 2 ^ -36, of the sum. Assumes nothing.
use mathlib.Core.Path.{◌≡◌, sym, ap, subst}
use mathlib.Core.Bool.{false}
use Prim.Native.Nat.{ℕ, ◌+◌, ◌*◌, ◌^◌, ◌≤◌, ◌<◌}
use native.Mathlib.Nat.{mul-pos, mul-le-mul, mul-le-mul_right, le_of_mul-le-mul_right}
use native.Mathlib.Omega.{arith}
use lib.Dec.{lit<, lit≤}
use lib.Pow.{pow_pos}
use lib.Ieee.{Float, binary64, mul}
use lib.Ieee.Exact.{HasValue}
use Rattle.math.specs.Float.{one}
use Rattle.math.specs.Sine.{series, sine_divisors, quarter_wave}
use Rattle.math.proofs.Values.{mul-by}
use Rattle.math.proofs.Equal.{single-value}
use Rattle.accuracy.specs.Taylor.{added, taken, divisor, Within}
use Rattle.accuracy.proofs.Nearness.{Upto, Near, trans, more, product, U, G, Part, part}
use Rattle.accuracy.proofs.Horner.{X, Y, B, Exact, divisors, added_is, taken_is, divisor-is}
use Rattle.accuracy.proofs.Series.{series-near}

same-near : (g n d : ℕ) → Near g n d n d 0
same-near g n d = record { over = same; under = same }
  where
    same : Upto g n d n d 0
    same = omega arith

pub squares : (n d : ℕ) → 7 * n ≤ 11 * d → 49 * (n * n) ≤ 121 * (d * d)
squares n d h = omega (arith, mul-le-mul h h)

-- a value, and the Taylor sum at n / d that it is near to
pub record Beside (n d : ℕ) (x : Float) : Type 0 where
  pub at : ℕ
  pub value : HasValue x false at U
  pub exact : Exact (n * n) (d * d) divisors
  pub near : Near G at U (n * exact.A) (d * B (d * d) divisors) 131072

module _ (n d : ℕ) (dp : 0 < d) (nd : 7 * n ≤ 11 * d) (y : Float) (yv : HasValue y false n d) where
  pub quarter-wave-near : Beside n d (quarter_wave y)
  unfolding quarter_wave
  quarter-wave-near =
      let a = n * n in
      let b = d * d in
      let bp : 0 < b = mul-pos dp dp in
      let ab : 49 * a ≤ 121 * b = squares n d nd in
      let z : Part 3 (mul binary64 y y) a b = subst (λ (w : Float). Part 3 w a b) (sym (mul-by binary64 y y n d n d dp dp yv yv)) (part 3 a b (lit< tt) bp (omega arith)) in
      let q = series-near a b bp ab (mul binary64 y y) z.at z.value z.near z.most in
      let du : 0 < d * U = mul-pos dp (pow_pos 1074) in
      let p = series (mul binary64 y y) one sine_divisors in
      let r : Part 2 (quarter_wave y) (n * q.at) (d * U) = subst (λ (w : Float). Part 2 w (n * q.at) (d * U)) (sym (mul-by binary64 y p n d q.at U dp (pow_pos 1074) yv q.value))
      (part 2 (n * q.at) (d * U) (lit< tt) du (twice n d q.at U nd q.most)) in
      record {
        at = r.at;
        value = r.value;
        exact = q.exact;
        near = more G r.at U (n * q.exact.A) (d * B b divisors) (2 + (0 + 55041)) 131072 (lit≤ tt)
            (trans G r.at U (n * q.at) (d * U) (n * q.exact.A) (d * B b divisors) 2 (0 + 55041) du r.near
            (product G n d n d 0 q.at U q.exact.A (B b divisors) 35026 11 7 55041 dp (pow_pos 1074) (lit< tt) q.most nd (lit≤ tt) (same-near G n d) q.near));
      }
    where
      twice : (n d P u : ℕ) → 7 * n ≤ 11 * d → P ≤ u → n * P ≤ 2 * (d * u)
      twice n d P u h l = omega (arith, mul-le-mul h l)

-- ---- by any fraction s / t that the value equals
over-end : (S s t u W P M N : ℕ) → 0 < u → S * t ≡ s * u → N + M ≡ P → 2 ^ 53 * (S * W) ≤ 2 ^ 53 * (N * u) + 131072 * (u * W) → 2 ^ 36 * (s * W + M * t) ≤ 2 ^ 36 * (P * t) + t * W
over-end S s t u W P M N up v e h = shift (le_of_mul-le-mul_right step up)
  where
    less : 2 ^ 36 * (S * W) ≤ 2 ^ 36 * (N * u) + u * W
    less = omega arith

    step : 2 ^ 36 * (s * W) * u ≤ (2 ^ 36 * (N * t) + t * W) * u
    step = omega (arith, mul-le-mul_right t less, ap (λ (z : ℕ). z * W) v)

    shift : 2 ^ 36 * (s * W) ≤ 2 ^ 36 * (N * t) + t * W → 2 ^ 36 * (s * W + M * t) ≤ 2 ^ 36 * (P * t) + t * W
    shift h = omega (arith, ap (λ (z : ℕ). z * t) e)

under-end : (S s t u W P M N : ℕ) → 0 < u → S * t ≡ s * u → N + M ≡ P → 2 ^ 53 * (N * u) ≤ 2 ^ 53 * (S * W) + 131072 * (W * u) → 2 ^ 36 * (P * t) ≤ 2 ^ 36 * (s * W + M * t) + t * W
under-end S s t u W P M N up v e h = shift (le_of_mul-le-mul_right step up)
  where
    less : 2 ^ 36 * (N * u) ≤ 2 ^ 36 * (S * W) + u * W
    less = omega arith

    step : 2 ^ 36 * (N * t) * u ≤ (2 ^ 36 * (s * W) + t * W) * u
    step = omega (arith, mul-le-mul_right t less, ap (λ (z : ℕ). z * W) v)

    shift : 2 ^ 36 * (N * t) ≤ 2 ^ 36 * (s * W) + t * W → 2 ^ 36 * (P * t) ≤ 2 ^ 36 * (s * W + M * t) + t * W
    shift h = omega (arith, ap (λ (z : ℕ). z * t) e)

pub quarter-wave-within : (n d : ℕ) → 0 < d → 7 * n ≤ 11 * d → (y : Float) → HasValue y false n d → (s t : ℕ) → HasValue (quarter_wave y) false s t → Within s t n d
quarter-wave-within n d dp nd y yv s t h =
    let q = quarter-wave-near n d dp nd y yv in
    let A = q.exact.A in
    let v : q.at * t ≡ s * U = (single-value (quarter_wave y) false false s t q.at U h q.value).value in
    let e : n * A + taken n d ≡ added n d = rw (taken_is n d, added_is n d) (times n A (Y (n * n) (d * d) divisors) (X (n * n) (d * d) divisors) q.exact.sum) in
    let w = divisor-is d in
    record {
      over = over-end q.at s t U (divisor d) (added n d) (taken n d) (n * A) (pow_pos 1074) v e (subst (λ (z : ℕ). 2 ^ 53 * (q.at * z) ≤ 2 ^ 53 * (n * A * U) + 131072 * (U * z)) (sym w) q.near.over);
      under = under-end q.at s t U (divisor d) (added n d) (taken n d) (n * A) (pow_pos 1074) v e (subst (λ (z : ℕ). 2 ^ 53 * (n * A * U) ≤ 2 ^ 53 * (q.at * z) + 131072 * (z * U)) (sym w) q.near.under);
    }
  where
    times : (n A Y X : ℕ) → A + Y ≡ X → n * A + n * Y ≡ n * X
    times n A Y X e = omega (arith, ap (λ (z : ℕ). n * z) e)
