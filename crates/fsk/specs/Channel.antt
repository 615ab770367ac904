-- 01, "Stages", 5, 7, 8 and 9: the bits of a payload on V.21's tones, 980 (bit 1) and 1180 (bit 0). Where one bit is done the next sets the step.
use Rattle.std.specs.Prelude.{ℕ, Bool, true, false, List, [], ◌∷◌, drop, Float}
use Rattle.math.specs.Float.{of_nat}
use Rattle.frame.specs.Frame.{framed, bit_at}
use Rattle.schedule.specs.Time.{inc_up_to}
use Rattle.fsk.specs.declared.Modulator.{Modulator}
use Rattle.fsk.specs.declared.FskChannel.{FskChannel}
use Rattle.fsk.specs.Modulator.{fresh_modulator, keyed, modulator_sample, bit_ends, next_modulator}

-- a payload's channel before its first sample
unfoldable pub fresh_channel : List ℕ → ℕ → FskChannel
fresh_channel payload r = record { modulator = fresh_modulator (of_nat 980) (of_nat 1180) r (bit_at payload 0); done = 0 }

abbrev pub channel_sample : FskChannel → Float
channel_sample f = modulator_sample f.modulator

-- the first of the bits that are left sets the step; where none is left it stays
abbrev pub next_keyed : List Bool → Modulator → Modulator
next_keyed [] m = m
next_keyed (bit ∷ left) m = keyed m (of_nat 980) (of_nat 1180) bit

-- 02, E5: the count of finished bits has 16 bits
abbrev pub most_done : ℕ
most_done = 0xffff

unfoldable pub one_more_done : ℕ → ℕ
one_more_done done = inc_up_to most_done done

-- after a sample with which a bit is done, or none is
abbrev pub channel_by : Bool → FskChannel → List ℕ → FskChannel
channel_by true f payload =
    record {
      modulator = next_keyed (drop (one_more_done f.done) (framed payload)) (next_modulator f.modulator);
      done = one_more_done f.done;
    }
channel_by false f payload = record { modulator = next_modulator f.modulator; done = f.done }

unfoldable pub next_channel : FskChannel → List ℕ → FskChannel
next_channel f payload = channel_by (bit_ends f.modulator) f payload
