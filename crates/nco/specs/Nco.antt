-- 01, "Floats": an oscillator is a record of three numbers, phase, step and rate.
use Rattle.std.specs.Prelude.{Bool, cond, ◌&&◌, Float}
use Rattle.std.specs.Float.Ieee.{le, lt}
use Rattle.math.specs.Float.{zero, tau, plus, minus, times, over}
use Rattle.math.specs.Sine.{sine}
use Rattle.nco.specs.declared.Nco.{Nco}

-- (TAU × frequency) / rate
abbrev pub step_of : Float → Float → Float
step_of freq rate = over (times tau freq) rate

-- phase + step, less TAU if it is at least TAU
unfoldable pub advanced : Float → Float → Float
advanced step phase = cond (le tau (plus phase step)) (minus (plus phase step) tau) (plus phase step)

-- the phase is 0 at first
abbrev pub fresh_nco : Float → Float → Nco
fresh_nco freq rate = record { phase = zero; step = step_of freq rate; rate = rate }

-- another frequency, phase kept
abbrev pub retuned : Nco → Float → Nco
retuned n freq = record { phase = n.phase; step = step_of freq n.rate; rate = n.rate }

-- one sample is S(phase)
abbrev pub sample_of : Nco → Float
sample_of n = sine n.phase

-- the oscillator after it
abbrev pub stepped_nco : Nco → Nco
stepped_nco n = record { phase = advanced n.step n.phase; step = n.step; rate = n.rate }

-- 01, "When a call is declined": a phase or a step in [0, TAU)
abbrev pub phase_in_range : Float → Bool
phase_in_range x = le zero x && lt x tau
