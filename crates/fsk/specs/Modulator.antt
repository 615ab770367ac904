-- 01, "Stages", 5, 7, 8 and 9: bits on two tones. Each sample is oscillator × 0.7; then the symbol phase adds 300 / r; at 1 or more, less 1, and one
-- bit is done. A bit sets the step, phase kept.
use Rattle.std.specs.Prelude.{ℕ, Bool, true, false, Float}
use Rattle.math.specs.Float.{f64, zero, of_nat, times}
use Rattle.nco.specs.Nco.{fresh_nco, retuned, sample_of, stepped_nco}
use Rattle.schedule.specs.Symbols.{symbol_step, symbol_ends, next_phase}
use Rattle.fsk.specs.declared.Modulator.{Modulator}

-- bit 1 at mark, bit 0 at space
abbrev pub tone_of : (mark space : Float) → Bool → Float
tone_of mark space true = mark
tone_of mark space false = space

-- before the first sample of the first bit
abbrev pub fresh_modulator : (mark space : Float) → ℕ → Bool → Modulator
fresh_modulator mark space r bit = record { nco = fresh_nco (tone_of mark space bit) (of_nat r); phase = zero; step = symbol_step r }

-- a bit sets the step, phase kept
abbrev pub keyed : Modulator → (mark space : Float) → Bool → Modulator
keyed m mark space bit = record { nco = retuned m.nco (tone_of mark space bit); phase = m.phase; step = m.step }

-- oscillator × 0.7
abbrev pub modulator_sample : Modulator → Float
modulator_sample m = times (sample_of m.nco) (f64 0x3fe6_6666_6666_6666)

-- whether a bit is done with this sample
abbrev pub bit_ends : Modulator → Bool
bit_ends m = symbol_ends m.step m.phase

-- after this sample, with no other bit set
abbrev pub next_modulator : Modulator → Modulator
next_modulator m = record { nco = stepped_nco m.nco; phase = next_phase m.step m.phase; step = m.step }
