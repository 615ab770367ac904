-- A sample by any of 01's formulas, narrowed, lies between -0.92 and 0.92, whatever the phases: S is at most 129 / 128, E at most 1 and the noise too,
-- and each gain and rounding keeps a bound in parts of 2 ^ -30. Ansam is the loudest, at most 0.9188. Assumes nothing.
use mathlib.Core.Path.{sym, subst}
use mathlib.Core.Bool.{Bool, true, false}
use Prim.Native.Nat.{ℕ, ◌+◌, ◌-◌, ◌*◌, ◌/◌, ◌%◌, ◌^◌, ◌≤◌, ◌<◌}
use native.Mathlib.Nat.{le_trans, le_of_lt, lt_of_lt_of_le, mul_assoc, mul-le-mul_right, div-lt_iff_lt-mul}
use native.Mathlib.Omega.{arith}
use lib.Dec.{eqb, lit<, lit≤}
use lib.Pow.{pow_pos, shl_lt}
use lib.Ieee.{Float, nan, inf, fin, binary64, add, sub, mul, div, of_bits, up, down}
use lib.Ieee.Exact.{HasValue, round_exact}
use Rattle.math.specs.Float.{one, of_nat, over}
use Rattle.math.specs.Sine.{sine}
use Rattle.math.specs.Decay.{decay}
use Rattle.math.specs.Narrow.{narrowed}
use Rattle.math.specs.Whole.{floor_of}
use Rattle.math.proofs.Values.{nat-value, one_value, div-by}
use Rattle.schedule.specs.Ansam.{reversal, sign_by, sign_at}
use Rattle.tones.specs.Samples.{click_gain, click_decay, click_sample, tone_gain, mixed, ansam_depth, ansam_gain, ansam_sample}
use Rattle.fsk.specs.declared.Modulator.{Modulator}
use Rattle.fsk.specs.Modulator.{modulator_sample}
use Rattle.accuracy.specs.Level.{InLevel}
use Rattle.math.proofs.Size.{Size, weaker, neg-size, add-size, sub-size, mul-size, narrow_size}
use Rattle.accuracy.proofs.SineSize.{peak, sine-size}
use Rattle.accuracy.proofs.DecaySize.{decay-size}

-- ---- what is claimed, by parts of 2 ^ -30
to_level : (k : ℕ) (x : Float) → 100 * k ≤ 92 * 2 ^ 30 → Size k x → InLevel x
to_level k nan h w = w
to_level k (inf s) h w = w
to_level k (fin s m e) h w = go (m * up e) (down e) w
  where
    go : (x d : ℕ) → x * 2 ^ 30 ≤ k * d → 100 * x ≤ 92 * d
    go x d w = omega (arith, mul-le-mul_right d h)

-- 0.9187628 before the narrowing
abbrev pub loudest : ℕ
loudest = 986514066

pub narrowed-level : (x : Float) → Size loudest x → InLevel (narrowed x)
narrowed-level x h = to_level (15414283 * 64) (narrowed x) (lit≤ tt) (narrow_size 15414283 loudest x (lit< tt) (lit≤ tt) h)

-- ---- the constants
tone-gain : Size 483183821 tone_gain
unfolding of_bits
tone-gain = lit≤ tt

ansam-gain : Size 751619277 ansam_gain
unfolding of_bits
ansam-gain = lit≤ tt

ansam-depth : Size 322122548 ansam_depth
unfolding of_bits
ansam-depth = lit≤ tt

click-gain : Size 429496730 click_gain
unfolding of_bits
click-gain = lit≤ tt

one_size : Size (2 ^ 30) one
unfolding of_bits
one_size = lit≤ tt

-- ---- two tones
pub mixed-size : (p q : Float) → Size loudest (mixed (sine p) (sine q))
unfolding mixed
mixed-size p q =
    weaker (mixed (sine p) (sine q)) (486958695 + 486958695) loudest (lit≤ tt)
    (add-size 486958695 486958695 (mul binary64 (sine p) tone_gain) (mul binary64 (sine q) tone_gain) (lit< tt) (one-tone p) (one-tone q))
  where
    one-tone : (p : Float) → Size 486958695 (mul binary64 (sine p) tone_gain)
    one-tone p = mul-size peak 483183821 486958695 (sine p) tone_gain (lit< tt) (lit≤ tt) (sine-size p) tone-gain

-- ---- the tone of a bit, whose gain is Ansam's
pub bit-size : (m : Modulator) → Size loudest (modulator_sample m)
bit-size m = mul-size peak 751619277 loudest (sine m.nco.phase) ansam_gain (lit< tt) (lit≤ tt) (sine-size m.nco.phase) ansam-gain

-- ---- Ansam
sign-size : (b : Bool) → Size (2 ^ 30) (sign_by b)
sign-size true = one_size
sign-size false = neg-size (2 ^ 30) one one_size

pub ansam-size : (p q t : Float) → Size loudest (ansam_sample (sine p) (sine q) (sign_at t))
unfolding ansam_sample sign_at
ansam-size p q t =
    let plus = eqb (floor_of (over t reversal) % 2) 0 in
    let carrier = mul binary64 (sine p) (sign_by plus) in
    let envelope = add binary64 one (mul binary64 ansam_depth (sine q)) in
    mul-size 1409305807 751619277 loudest (mul binary64 carrier envelope) ansam_gain (lit< tt) (lit≤ tt)
    (mul-size peak (2 ^ 30 + 324639131) 1409305807 carrier envelope (lit< tt) (lit≤ tt)
    (mul-size peak (2 ^ 30) peak (sine p) (sign_by plus) (lit< tt) (lit≤ tt) (sine-size p) (sign-size plus))
    (add-size (2 ^ 30) 324639131 one (mul binary64 ansam_depth (sine q)) (lit< tt) one_size (mul-size 322122548 peak 324639131 ansam_depth (sine q) (lit< tt) (lit≤ tt) ansam-depth (sine-size q))))
    ansam-gain

-- ---- the click: 24 bits of noise over 2 ^ 23, less 1
noise-value : (k : ℕ) → k < 2 ^ 24 → HasValue (div binary64 (of_nat k) (of_nat 8388608)) false k (2 ^ 23)
noise-value k h =
    subst (λ (z : Float). HasValue z false k (2 ^ 23)) (sym (div-by binary64 (of_nat k) (of_nat 8388608) k (2 ^ 23) 1 (lit< tt) (lit< tt) (nat-value k (le_trans (le_of_lt h) (lit≤ tt))) (nat-value 8388608 (lit≤ tt))))
    (round_exact binary64 false k (2 ^ 23) k 1051 (lit< tt) (lt_of_lt_of_le h (lit≤ tt)) (lt_of_lt_of_le (shl_lt 24 1051 h) (lit≤ tt)) (sym (mul_assoc k (2 ^ 1051) (2 ^ 23))))

pub click-size : (rng : ℕ) (t : Float) → rng < 2 ^ 64 → Size loudest (click_sample rng t)
unfolding click_sample
click-size rng t r =
    let k = rng / 2 ^ 40 in
    let h : k < 2 ^ 24 = (div-lt_iff_lt-mul (pow_pos 40)).1 (lt_of_lt_of_le r (lit≤ tt)) in
    let noise = sub binary64 (div binary64 (of_nat k) (of_nat 8388608)) one in
    mul-size 429496730 (2 ^ 30) loudest (mul binary64 noise click_gain) (decay (over t click_decay)) (lit< tt) (lit≤ tt)
    (mul-size (2 ^ 30) 429496730 429496730 noise click_gain (lit< tt) (lit≤ tt)
    (sub-size (div binary64 (of_nat k) (of_nat 8388608)) one k (2 ^ 23) (2 ^ 23) (2 ^ 30) (lit< tt) (noise-value k h) (one_value (2 ^ 23)) (lit< tt) (above k h) (below k))
    click-gain) (decay-size (over t click_decay))
  where
    above : (k : ℕ) → k < 2 ^ 24 → (k - 2 ^ 23) * 2 ^ 30 ≤ 2 ^ 30 * 2 ^ 23
    above k h = omega arith

    below : (k : ℕ) → (2 ^ 23 - k) * 2 ^ 30 ≤ 2 ^ 30 * 2 ^ 23
    below k = omega arith
