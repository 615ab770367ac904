-- 01, "Floats": E, the exponential of -u.
use Rattle.std.specs.Prelude.{ℕ, zero, suc, cond, ◌&&◌, List, [], ◌∷◌, Float}
use Rattle.std.specs.Float.Ieee.{lt, le}
use Rattle.math.specs.Float as float
use Rattle.math.specs.Float.{f64, one, times, over}
use Rattle.math.specs.Sine.{series}

-- c = 4, 3, 2, 1
abbrev pub decay_divisors : List Float
decay_divisors = f64 0x4010_0000_0000_0000 ∷ f64 0x4008_0000_0000_0000 ∷ f64 0x4000_0000_0000_0000 ∷ one ∷ []

-- 8 and 256
abbrev pub decay_end : Float
decay_end = f64 0x4020_0000_0000_0000

abbrev pub decay_scale : Float
decay_scale = f64 0x4070_0000_0000_0000

-- p = p × p, so many times
unfoldable pub squared : ℕ → Float → Float
squared zero p = p
squared (suc k) p = squared k (times p p)

-- E(u), 0 <= u < 8, else 0.0: w = u / 256, the series in w from p = 1, then squared eight times
unfoldable pub decay : Float → Float
decay u = cond (le float.zero u && lt u decay_end) (squared 8 (series (over u decay_scale) one decay_divisors)) float.zero
