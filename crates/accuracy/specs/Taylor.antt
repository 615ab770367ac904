-- 02, E9: "S(y) lies within 2^-36 of the Taylor sum of sine up to degree 21, that sum taken as a quotient of whole numbers from y's own bits".
use Rattle.std.specs.Prelude.{ℕ, zero, suc, ◌+◌, ◌-◌, ◌*◌, ◌/◌, ◌%◌, ◌^◌, ◌≤◌, T, Float}
use Rattle.std.specs.Float.{binary64}
use Rattle.std.specs.Float.Ieee.{to_bits, le}
use Rattle.math.specs.Float as float

-- ---- a number by its own bits, the sign's left out: it is so many units of 2^-1074
-- by the exponent's field and the digits; a field of 0 is a subnormal's, or zero's
abbrev pub units_by : ℕ → ℕ → ℕ
units_by zero t = t
units_by (suc e) t = (2 ^ 52 + t) * 2 ^ e

unfoldable pub units : Float → ℕ
units x = units_by (to_bits binary64 x % 2 ^ 63 / 2 ^ 52) (to_bits binary64 x % 2 ^ 52)

-- ---- the sum y - y^3 / 3! + y^5 / 5! - .. + y^21 / 21! at y = n / d is (added n d - taken n d) / divisor d
unfoldable pub factorial : ℕ → ℕ
factorial zero = 1
factorial (suc n) = suc n * factorial n

-- (n / d)^(2 k + 1) / (2 k + 1)!, times d^21 × 21!
unfoldable pub term : ℕ → ℕ → ℕ → ℕ
unfolding factorial
term n d k = n ^ (2 * k + 1) * d ^ (20 - 2 * k) * (factorial 21 / factorial (2 * k + 1))

unfoldable pub added : ℕ → ℕ → ℕ
unfolding term
added n d = term n d 0 + term n d 2 + term n d 4 + term n d 6 + term n d 8 + term n d 10

unfoldable pub taken : ℕ → ℕ → ℕ
unfolding term
taken n d = term n d 1 + term n d 3 + term n d 5 + term n d 7 + term n d 9

unfoldable pub divisor : ℕ → ℕ
unfolding factorial
divisor d = d ^ 21 * factorial 21

-- s / t lies within 2^-36 of the sum at n / d: all multiplied out
pub record Within (s t n d : ℕ) : Type 0 where
  pub over : 2 ^ 36 * (s * divisor d + taken n d * t) ≤ 2 ^ 36 * (added n d * t) + t * divisor d
  pub under : 2 ^ 36 * (added n d * t) ≤ 2 ^ 36 * (s * divisor d + taken n d * t) + t * divisor d

-- r is a number that is not negative, and lies within 2^-36 of the sum at y (an infinity has more units than that allows)
pub record NearSine (r y : Float) : Type 0 where
  pub sign : T (le float.zero r)
  pub within : Within (units r) (2 ^ 1074) (units y) (2 ^ 1074)

-- Remark. What is proved on the way is 55,043 / 2 ^ 53, which is 0.42 of the figure. At Q, S is 0.414 of it below the sum, so 2 ^ -38 is false there.
