-- E is from 0 to 1 at any value whatever: each step of its series and each square is, since what is from 0 to 1 before it is rounded is so after.
-- Assumes nothing.
use mathlib.Core.Path.{◌≡◌, refl, sym, ap, ◌∙◌, subst}
use mathlib.Core.Bool.{Bool, true, false, cond, ◌&&◌}
use Prim.Native.Nat.{ℕ, zero, suc, ◌*◌, ◌^◌, ◌≤◌, ◌<◌, zero-le}
use native.Mathlib.Nat.{le_refl, le_trans, le_of_eq, mul_comm, mul-one, mul-pos, zero-mul, mul-le-mul_left, mul-le-mul_right}
use native.Mathlib.Omega.{arith}
use lib.Dec.{T, ltb→lt, lit<}
use lib.Pow.{pow_pos}
use lib.IntN.{ℤ}
use lib.Ieee.{Float, nan, inf, fin, binary64, round, add, mul, div, sub, neg, le, lt, of_bits, up, down}
use lib.Ieee.Fits.{and_l, and_r, down_pos}
use lib.Ieee.Exact.{HasValue}
use lib.Ieee.Scale.{round_same}
use Rattle.math.specs.Float as float
use Rattle.math.specs.Float.{f64, one}
use Rattle.math.specs.Sine.{stepped, series}
use Rattle.math.specs.Decay.{decay_divisors, decay_end, decay_scale, squared, decay}
use Rattle.math.proofs.Values.{zero-value, one_value, div-by, lt_at}
use Rattle.math.proofs.Bounds.{AtMost, at_most}
use Rattle.math.proofs.Wrapping.{minus-zero, nan-out, inf-out}
use Rattle.accuracy.proofs.Nearness.{U}
use Rattle.accuracy.proofs.Series.{quotient-part, product-part, rest_part}
use Rattle.math.proofs.Size.{Size, of-value}

-- from 0 to 1
abbrev Share : Float → Type 0
Share x = AtMost U x

share-mul : (x y : Float) → Share x → Share y → Share (mul binary64 x y)
share-mul x y X Y = let m = product-part x y X.at Y.at X.value Y.value X.most Y.most in record { at = m.at; value = m.value; most = m.most }

share-step : (z p c : Float) (k : ℕ) → 0 < k → HasValue c false k 1 → Share z → Share p → Share (stepped z p c)
share-step z p c k kp cv Z P =
    let d = quotient-part z c Z.at k kp Z.value cv (larger Z.at U k Z.most kp) in
    let m = product-part (div binary64 z c) p d.at P.at d.value P.value d.most P.most in
    let r = rest_part (mul binary64 (div binary64 z c) p) m.at m.value m.most in
    record { at = r.at; value = r.value; most = r.most }
  where
    larger : (z u k : ℕ) → z ≤ u → 0 < k → z ≤ u * k
    larger z u k h l = omega (arith, mul-le-mul_left u l)

share-squares : (k : ℕ) (p : Float) → Share p → Share (squared k p)
unfolding squared
share-squares zero p h = h
share-squares (suc k) p h = share-squares k (mul binary64 p p) (share-mul p p h h)

abbrev falls : Float → Float
falls w = squared 8 (series w one decay_divisors)

share-falls : (w : Float) → Share w → Share (falls w)
unfolding series of_bits
share-falls w h =
    share-squares 8 (series w one decay_divisors)
    (share-step w (stepped w (stepped w (stepped w one (f64 0x4010_0000_0000_0000)) (f64 0x4008_0000_0000_0000)) (f64 0x4000_0000_0000_0000)) one 1 (lit< tt) (refl, refl) h
    (share-step w (stepped w (stepped w one (f64 0x4010_0000_0000_0000)) (f64 0x4008_0000_0000_0000)) (f64 0x4000_0000_0000_0000) 2 (lit< tt) (refl, refl) h
    (share-step w (stepped w one (f64 0x4010_0000_0000_0000)) (f64 0x4008_0000_0000_0000) 3 (lit< tt) (refl, refl) h
    (share-step w one (f64 0x4010_0000_0000_0000) 4 (lit< tt) (refl, refl) h (record { at = U; value = one_value U; most = le_refl U })))))

-- ---- -0.0
falls-minus-zero : Share (falls (round binary64 true 0 1))
unfolding squared series mul div sub add neg of_bits round
falls-minus-zero = record { at = U; value = (refl, refl); most = le_refl U }

over-minus-zero : (e : ℤ) → div binary64 (fin true 0 e) decay_scale ≡ round binary64 true 0 1
unfolding div of_bits
over-minus-zero e = ap (λ (z : ℕ). round binary64 true (z * 1) (256 * down e)) (zero-mul (up e)) ∙ round_same binary64 true 0 (256 * down e) 0 1 (mul-pos (lit< tt) (down_pos e)) (lit< tt) (sym (zero-mul (256 * down e)))

-- ---- E's own constants
end_is : (d : ℕ) → HasValue decay_end false (8 * d) d
unfolding of_bits
end_is d = (refl, sym (mul-one (8 * d)))

scale-is : (d : ℕ) → HasValue decay_scale false (256 * d) d
unfolding of_bits
scale-is d = (refl, sym (mul-one (256 * d)))

decay-share : (u : Float) → Share (decay u)
unfolding decay
decay-share u = go (le float.zero u && lt u decay_end) refl
  where
    inside : (u : Float) → T (le float.zero u && lt u decay_end) → Share (falls (div binary64 u decay_scale))
    inside nan h = absurd (nan-out decay_end h)
    inside (inf s) h = absurd (inf-out decay_end 8 1 (end_is 1) s h)
    inside (fin true m e) h =
        subst (λ (z : ℕ). Share (falls (div binary64 (fin true z e) decay_scale))) (sym (minus-zero m e (and_l (le float.zero (fin true m e)) (lt (fin true m e) decay_end) h)))
        (subst (λ (z : Float). Share (falls z)) (sym (over-minus-zero e)) falls-minus-zero)
    inside (fin false m e) h =
        let y = fin false m e in
        let n = m * up e in
        let d = down e in
        let dp = down_pos e in
        let l : n < 8 * d = ltb→lt n (8 * d) (subst T (lt_at y decay_end n (8 * d) d dp (refl, refl) (end_is d)) (and_r (le float.zero y) (lt y decay_end) h)) in
        share-falls (div binary64 y decay_scale)
        (subst Share (sym (div-by binary64 y decay_scale n (256 * d) d dp (mul-pos (lit< tt) dp) (refl, refl) (scale-is d)))
        (at_most n (256 * d) 1 1074 (mul-pos (lit< tt) dp) (lit< tt) (lit< tt) (le_trans (mul-le-mul_right (2 ^ 1074) (omega arith)) (le_of_eq (mul_comm (256 * d) (2 ^ 1074))))))

    go : (t : Bool) → (le float.zero u && lt u decay_end) ≡ t → Share (cond t (falls (div binary64 u decay_scale)) float.zero)
    go true e = inside u (subst T (sym e) tt)
    go false e = record { at = 0; value = zero-value U; most = zero-le }

pub decay-size : (u : Float) → Size (2 ^ 30) (decay u)
decay-size u =
    let p = decay-share u in
    of-value (decay u) false p.at U (2 ^ 30) (pow_pos 1074) p.value (le_trans (mul-le-mul_right (2 ^ 30) p.most) (le_of_eq (mul_comm U (2 ^ 30))))
