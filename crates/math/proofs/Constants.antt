-- 01's decimals are the constants by their rounding, and its proving cases on numbers hold: each is computed. Assumes nothing.
use mathlib.Core.Path.{◌≡◌, refl}
use mathlib.Core.Bool.{false}
use mathlib.Core.List.{List, [], ◌∷◌, map}
use Prim.Native.Nat.{ℕ, ◌^◌}
use lib.Ieee.{Float, binary64, mul, round, of_int, of_bits}
use Rattle.math.specs.Float.{f64, one, tau, half_turn, quarter_turn, of_nat, times}
use Rattle.math.specs.Sine.{sine_divisors}
use Rattle.math.specs.Decay.{decay_divisors, decay_end, decay_scale}
use Rattle.math.specs.Whole.{round_of}
use Rattle.math.specs.Narrow.{narrowed}

-- digits, decimal places, and the constant that they round to
pub record Decimal : Type 0 where
  pub digits : ℕ
  pub places : ℕ
  pub constant : Float

abbrev pub decimals : List Decimal
decimals =
    record { digits = 6283185307179586; places = 15; constant = tau }
    ∷ record { digits = 3141592653589793; places = 15; constant = half_turn }
    ∷ record { digits = 15707963267948966; places = 16; constant = quarter_turn }
    ∷ record { digits = 5; places = 2; constant = f64 0x3fa9_9999_9999_999a }
    ∷ record { digits = 75; places = 3; constant = f64 0x3fb3_3333_3333_3333 }
    ∷ record { digits = 2; places = 1; constant = f64 0x3fc9_9999_9999_999a }
    ∷ record { digits = 1; places = 1; constant = f64 0x3fb9_9999_9999_999a }
    ∷ record { digits = 8; places = 3; constant = f64 0x3f80_624d_d2f1_a9fc }
    ∷ record { digits = 45; places = 2; constant = f64 0x3fdc_cccc_cccc_cccd }
    ∷ record { digits = 4; places = 1; constant = f64 0x3fd9_9999_9999_999a }
    ∷ record { digits = 3; places = 1; constant = f64 0x3fd3_3333_3333_3333 }
    ∷ record { digits = 7; places = 1; constant = f64 0x3fe6_6666_6666_6666 }
    ∷ []

pub decimals-round : map (λ d. round binary64 false d.digits (10 ^ d.places)) decimals ≡ map (λ d. d.constant) decimals
unfolding round of_bits
decimals-round = refl

-- ---- the divisors of both series, and E's other whole numbers, exactly
pub sine-divisors : sine_divisors ≡ of_nat 210 ∷ of_nat 156 ∷ of_nat 110 ∷ of_nat 72 ∷ of_nat 42 ∷ of_nat 20 ∷ of_nat 6 ∷ []
unfolding of_int of_bits
sine-divisors = refl

pub decay-divisors : decay_divisors ≡ of_nat 4 ∷ of_nat 3 ∷ of_nat 2 ∷ of_nat 1 ∷ []
unfolding of_int of_bits
decay-divisors = refl

pub decay-end : decay_end ≡ of_nat 8
unfolding of_int of_bits
decay-end = refl

pub decay-scale : decay_scale ≡ of_nat 256
unfolding of_int of_bits
decay-scale = refl

-- ---- 01, "Proving cases"
-- 1 + 2^-24 narrows to 1, and 1 + 3 × 2^-24 to 1 + 2^-22
pub tie_down : narrowed (f64 0x3ff0_0000_1000_0000) ≡ one
unfolding narrowed of_bits round
tie_down = refl

pub tie_up : narrowed (f64 0x3ff0_0000_3000_0000) ≡ f64 0x3ff0_0000_4000_0000
unfolding narrowed of_bits round
tie_up = refl

-- R(0.05) at 8,000
pub click-samples : round_of (times (f64 0x3fa9_9999_9999_999a) (of_nat 8000)) ≡ 400
unfolding round_of mul of_int of_bits
click-samples = refl
