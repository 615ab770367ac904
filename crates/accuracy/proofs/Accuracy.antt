-- For every binary64 y from 0 to Q, S(y) lies within 2 ^ -36 of the Taylor sum at y, both by their bits: S is there the quarter wave, and a
-- number of the format is its units over 2 ^ 1074. -0.0 is worked out. Assumes nothing.
use mathlib.Core.Path.{◌≡◌, refl, sym, ap, ◌∙◌, subst}
use mathlib.Core.Bool.{Bool, true, false, ◌&&◌}
use mathlib.Core.List.{[], ◌∷◌, map}
use Prim.Native.Nat.{ℕ, ◌*◌, ◌^◌, ◌≤◌, ◌<◌, zero-le}
use native.Mathlib.Omega.{arith}
use lib.Dec.{T, leb, lit≤, leb→le, le→leb}
use lib.IntN.{ℤ, pos}
use lib.Pow.{pow_pos}
use lib.Ieee.{Float, nan, inf, fin, binary64, round, add, mul, div, sub, neg, le, lt, of_bits, to_bits, fits, up, down}
use lib.Ieee.Bits.{is_true, of_bits-fits}
use lib.Ieee.Exact.{HasValue}
use lib.Ieee.Fits.{and_l, and_r, mul-fits}
use lib.Ieee.Scale.{finite}
use borrow.Author.Tests.{le-ltb, lt-leb, lt-ltb}
use Rattle.math.specs.Float as float
use Rattle.math.specs.Float.{quarter_turn, tau}
use Rattle.math.specs.Sine.{series, sine_divisors, folded, quarter_wave, sine}
use Rattle.math.proofs.Values.{zero-value, le-at}
use Rattle.math.proofs.Pattern.{bits-value, zero_exponent}
use Rattle.math.proofs.Equal.{single-value}
use Rattle.math.proofs.Wrapping.{negative-zero, minus-zero}
use Rattle.accuracy.specs.Taylor.{units, factorial, term, added, taken, divisor, NearSine}
use Rattle.accuracy.proofs.Nearness.{U}
use Rattle.accuracy.proofs.QuarterWave.{quarter-wave-near, quarter-wave-within}
use Rattle.accuracy.proofs.Turn.{K, to-quarter, past-quarter, from-half, below-tau, sevenths}

-- ---- a number of the format, by its bits
units-value : (x : Float) → T (fits binary64 x) → T (finite x) → HasValue x (leb (2 ^ 63) (to_bits binary64 x)) (units x) (2 ^ 1074)
unfolding units
units-value x h f = bits-value x h f

-- 1, the least number and Q by their bits
pub some-units : map units (float.one ∷ float.f64 1 ∷ quarter_turn ∷ []) ≡ U ∷ 1 ∷ K * 2 ^ 1022 ∷ []
unfolding units of_bits to_bits
some-units = refl

-- not negative by any fraction, so not by its units
own-units : (x : Float) (a c : ℕ) → T (fits binary64 x) → HasValue x false a c → HasValue x false (units x) U
own-units x a c f v =
    let u = units-value x f (single-value x false false a c a c v v).number in
    subst (λ (s : Bool). HasValue x s (units x) U) (single-value x (leb (2 ^ 63) (to_bits binary64 x)) false (units x) U a c u v).sign u

-- ---- S from 0 to Q is the quarter wave
module _ (n d : ℕ) (dp : 0 < d) (y : Float) (yv : HasValue y false n d) where
  sine-is-quarter-wave : T (le float.zero y) → n * 2 ^ 52 ≤ K * d → sine y ≡ quarter_wave y
  unfolding sine folded
  sine-is-quarter-wave p h =
      let a : le float.zero y ≡ true = is_true (le float.zero y) p in
      let b : lt y tau ≡ true = below-tau n d dp y yv ∙ lt-ltb _ _ (four n d dp h) in
      let c : le float.half_turn y ≡ false = from-half n d dp y yv ∙ lt-leb _ _ (two n d dp h) in
      let e : lt quarter_turn y ≡ false = past-quarter n d dp y yv ∙ le-ltb _ _ h in
      rw (a, b, c, e) refl
    where
      four : (n d : ℕ) → 0 < d → n * 2 ^ 52 ≤ K * d → n * 2 ^ 52 < 4 * K * d
      four n d p h = omega arith

      two : (n d : ℕ) → 0 < d → n * 2 ^ 52 ≤ K * d → n * 2 ^ 52 < 2 * K * d
      two n d p h = omega arith

wave-fits : (y : Float) → T (fits binary64 (quarter_wave y))
unfolding quarter_wave
wave-fits y = mul-fits binary64 y (series (mul binary64 y y) float.one sine_divisors)

-- ---- -0.0
minus-zero-near : NearSine (sine negative-zero) negative-zero
unfolding sine folded quarter_wave series mul div sub add neg le lt of_bits to_bits round units added taken term divisor factorial
minus-zero-near = record { sign = tt; within = record { over = lit≤ tt; under = lit≤ tt } }

not-nan : T (le float.zero nan) → ⊥
unfolding le of_bits
not-nan h = h

not_infinite : (s : Bool) → T (le float.zero (inf s)) → T (le (inf s) quarter_turn) → ⊥
unfolding le of_bits
not_infinite true p q = p
not_infinite false p q = q

pub sine-near : (y : Float) → T (fits binary64 y) → T (le float.zero y) → T (le y quarter_turn) → NearSine (sine y) y
sine-near nan f p q = absurd (not-nan p)
sine-near (inf s) f p q = absurd (not_infinite s p q)
sine-near (fin true m e) f p q =
    let z : m ≡ 0 = minus-zero m e p in
    let d : e ≡ pos 0 = zero_exponent true e (subst (λ (w : ℕ). T (fits binary64 (fin true w e))) z f) in
    subst (λ (x : Float). NearSine (sine x) x) (sym (ap (λ (w : ℕ). fin true w e) z ∙ ap (λ (w : ℤ). fin true 0 w) d)) minus-zero-near
sine-near (fin false m e) f p q =
    let y = fin false m e in
    let n = units y in
    let some : 0 < U = pow_pos 1074 in
    let v : HasValue y false n U = own-units y (m * up e) (down e) f (refl, refl) in
    let h : n * 2 ^ 52 ≤ K * U = leb→le (n * 2 ^ 52) (K * U) (subst T (to-quarter n U some y v) q) in
    let nd = sevenths n U some y v h in
    let w = quarter-wave-near n U some nd y v in
    rw (sine-is-quarter-wave n U some y v p h)
    (record {
      sign = rw (le-at float.zero (quarter_wave y) 0 w.at U some (zero-value U) w.value) (le→leb 0 w.at zero-le);
      within = quarter-wave-within n U some nd y v (units (quarter_wave y)) U (own-units (quarter_wave y) w.at U (wave-fits y) w.value);
    })

-- ---- 0.0, the least subnormal and Q are among them
within-quarter : (b : ℕ) → T (le float.zero (float.f64 b) && le (float.f64 b) quarter_turn) → NearSine (sine (float.f64 b)) (float.f64 b)
within-quarter b h =
    let y = float.f64 b in
    sine-near y (of_bits-fits binary64 b) (and_l (le float.zero y) (le y quarter_turn) h) (and_r (le float.zero y) (le y quarter_turn) h)

pub at-the-ends : NearSine (sine float.zero) float.zero × NearSine (sine (float.f64 1)) (float.f64 1) × NearSine (sine quarter_turn) quarter_turn
unfolding le of_bits
at-the-ends = (within-quarter 0 tt, within-quarter 1 tt, within-quarter 0x3ff9_21fb_5444_2d18 tt)
