-- 01, "Floats": S, the sine of one turn.
use Rattle.std.specs.Prelude.{cond, ◌&&◌, List, [], ◌∷◌, Float}
use Rattle.std.specs.Float.Ieee.{neg, lt, le}
use Rattle.math.specs.Float.{f64, zero, one, tau, half_turn, quarter_turn, minus, times, over}

-- y = x, or x - H if x >= H
abbrev pub lowered : Float → Float
lowered x = cond (le half_turn x) (minus x half_turn) x

-- if y > Q then y = H - y
unfoldable pub folded : Float → Float
folded y = cond (lt quarter_turn y) (minus half_turn y) y

-- p = 1 - (z / c) × p
abbrev pub stepped : Float → Float → Float → Float
stepped z p c = minus one (times (over z c) p)

-- the same for each c in turn
unfoldable pub series : Float → Float → List Float → Float
series z p [] = p
series z p (c ∷ cs) = series z (stepped z p c) cs

-- c = 210, 156, 110, 72, 42, 20, 6
abbrev pub sine_divisors : List Float
sine_divisors =
    f64 0x406a_4000_0000_0000
    ∷ f64 0x4063_8000_0000_0000
    ∷ f64 0x405b_8000_0000_0000
    ∷ f64 0x4052_0000_0000_0000
    ∷ f64 0x4045_0000_0000_0000
    ∷ f64 0x4034_0000_0000_0000
    ∷ f64 0x4018_0000_0000_0000
    ∷ []

-- y × p, with z = y × y and p = 1 at first
unfoldable pub quarter_wave : Float → Float
quarter_wave y = times y (series (times y y) one sine_divisors)

-- negated if x >= H
abbrev pub signed : Float → Float → Float
signed x r = cond (le half_turn x) (neg r) r

-- all of it, from y to the result
abbrev pub full_wave : Float → Float
full_wave x = signed x (quarter_wave (folded (lowered x)))

-- S(x), 0 <= x < TAU, else 0.0
unfoldable pub sine : Float → Float
sine x = cond (le zero x && lt x tau) (full_wave x) zero
