-- 01, "Floats": floor, and rounding half away, of a value from 0 to below 2^51; 0 of any other.
use Rattle.std.specs.Prelude.{ℕ, ◌+◌, ◌*◌, ◌/◌, ◌^◌, cond, ltb, Float}
use Rattle.std.specs.Float.{nan, inf, fin}
use Rattle.std.specs.Float.Ieee.{up, down}

-- what `of` makes of the value as a fraction, where it is in range
abbrev pub whole_by : (ℕ → ℕ → ℕ) → Float → ℕ
whole_by of nan = 0
whole_by of (inf s) = 0
whole_by of (fin s m e) = cond s 0 (cond (ltb (m * up e) (2 ^ 51 * down e)) (of (m * up e) (down e)) 0)

-- floor: n / d, cut
unfoldable pub floor_of : Float → ℕ
floor_of x = whole_by (λ n d. n / d) x

-- half away: the floor of n / d + 1/2
unfoldable pub round_of : Float → ℕ
round_of x = whole_by (λ n d. (2 * n + d) / (2 * d)) x
