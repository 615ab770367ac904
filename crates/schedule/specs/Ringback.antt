-- 01, "Stages", 4: t, or t - 3 once t >= 3 (ring 2, before that 1); tone if below 0.4 or from 0.4 + 0.2 (added in f64) to below 1.
use Rattle.std.specs.Prelude.{ℕ, Bool, true, false, ◌&&◌, ◌||◌, Float}
use Rattle.std.specs.Float.Ieee.{le, lt}
use Rattle.math.specs.Float.{f64, of_nat, one, plus, minus}

-- 3, 0.4 and 0.2
abbrev pub ring_cycle : Float
ring_cycle = of_nat 3

abbrev pub ring_on : Float
ring_on = f64 0x3fd9_9999_9999_999a

abbrev pub ring_off : Float
ring_off = f64 0x3fc9_9999_9999_999a

-- whether t is in the second ring
abbrev pub second_ring : Float → Bool
second_ring t = le ring_cycle t

abbrev pub ring_by : Bool → ℕ
ring_by true = 2
ring_by false = 1

unfoldable pub ring_at : Float → ℕ
ring_at t = ring_by (second_ring t)

abbrev pub ring_time_by : Bool → Float → Float
ring_time_by true t = minus t ring_cycle
ring_time_by false t = t

-- the time since that ring began
unfoldable pub ring_time : Float → Float
ring_time t = ring_time_by (second_ring t) t

unfoldable pub ring_tone : Float → Bool
ring_tone u = lt u ring_on || (le (plus ring_on ring_off) u && lt u one)
