-- 01, "Stages", 5, 7, 8 and 9: after a sample the symbol phase adds 300 / r; at 1 or more, less 1, and one bit is done.
use Rattle.std.specs.Prelude.{ℕ, zero, suc, Bool, true, false, ◌&&◌, Float}
use Rattle.std.specs.Float.Ieee.{le, lt}
use Rattle.math.specs.Float as float
use Rattle.math.specs.Float.{of_nat, one, plus, minus, over}

-- 300 / r
unfoldable pub symbol_step : ℕ → Float
symbol_step r = over (of_nat 300) (of_nat r)

-- whether a bit is done with this sample, of the step and the phase
unfoldable pub symbol_ends : Float → Float → Bool
symbol_ends s p = le one (plus p s)

abbrev pub next_phase_by : Bool → Float → Float
next_phase_by true x = minus x one
next_phase_by false x = x

-- the phase after this sample
unfoldable pub next_phase : Float → Float → Float
next_phase s p = next_phase_by (symbol_ends s p) (plus p s)

-- after n samples from a fresh start: the phase, and the bits done
unfoldable pub phase_after : Float → ℕ → Float
phase_after s zero = float.zero
phase_after s (suc n) = next_phase s (phase_after s n)

abbrev pub done_by : Bool → ℕ → ℕ
done_by true k = suc k
done_by false k = k

unfoldable pub done_after : Float → ℕ → ℕ
done_after s zero = 0
done_after s (suc n) = done_by (symbol_ends s (phase_after s n)) (done_after s n)

-- 01, "When a call is declined": symbol phase in [0, 1)
abbrev pub in_symbol : Float → Bool
in_symbol p = le float.zero p && lt p one
