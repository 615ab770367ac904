-- 01, "Stages", 3: i = floor(t / 0.2), tone exactly if t - i × 0.2 < 0.1.
use Rattle.std.specs.Prelude.{ℕ, Bool, Float}
use Rattle.std.specs.Float.Ieee.{lt}
use Rattle.math.specs.Float.{f64, of_nat, times, over, minus}
use Rattle.math.specs.Whole.{floor_of}

-- 0.2 and 0.1
abbrev pub digit_period : Float
digit_period = f64 0x3fc9_9999_9999_999a

abbrev pub digit_tone : Float
digit_tone = f64 0x3fb9_9999_9999_999a

-- i
unfoldable pub digit_at : Float → ℕ
digit_at t = floor_of (over t digit_period)

unfoldable pub in_tone : Float → Bool
in_tone t = lt (minus t (times (of_nat (digit_at t)) digit_period)) digit_tone
