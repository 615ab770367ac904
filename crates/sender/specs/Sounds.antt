-- 02, E10: the wave of a list of bits, each for one symbol, "mark 1270, space 1070, amplitude 0.7", "symbols run as in FSK stages". Nothing here
-- knows of bytes, frames or calls.
use Rattle.std.specs.Prelude.{ℕ, ◌≡◌, Bool, true, false, List, [], ◌∷◌, Float}
use Rattle.math.specs.Narrow.{narrowed}
use Rattle.fsk.specs.declared.Modulator.{Modulator}
use Rattle.fsk.specs.Modulator.{modulator_sample, bit_ends, next_modulator}
use Rattle.sender.specs.Sender.{fresh_modulator, keyed}

-- a modulator, and whether the next sample is an edge
pub record Keying : Type 0 where
  pub modulator : Modulator
  pub edge : Bool

-- "fresh oscillator", "the sender's first sample is an edge"
abbrev pub fresh_keying : ℕ → Keying
fresh_keying r = record { modulator = fresh_modulator r; edge = true }

-- after a sample of m
abbrev pub moved_on : Modulator → Keying
moved_on m = record { modulator = next_modulator m; edge = bit_ends m }

-- from k these bits sound as these samples: each edge takes one bit, which sets the step, phase kept; the last bit may be cut short
pub data Sounds : Keying → List Bool → List Float → Type 0 where
  silence : {k : Keying} → Sounds k [] []
  edge : {k : Keying} {bit : Bool} {bits : List Bool} {samples : List Float} → k.edge ≡ true
      → Sounds (moved_on (keyed k.modulator bit)) bits samples
      → Sounds k (bit ∷ bits) (narrowed (modulator_sample (keyed k.modulator bit)) ∷ samples)
  between : {k : Keying} {bits : List Bool} {samples : List Float} → k.edge ≡ false
      → Sounds (moved_on k.modulator) bits samples
      → Sounds k bits (narrowed (modulator_sample k.modulator) ∷ samples)
