-- 01, "Stages", 3: a sample of what is dialled, and the digit, its tone and its oscillators after it.
use Rattle.std.specs.Prelude.{ℕ, Bool, true, false, ◌&&◌, ◌||◌, List, length, ◌==◌, nat_le, slice_index, Float, Option, Some, None}
use Rattle.std.specs.Bool.{beq}
use Rattle.math.specs.Float.{zero, one, of_nat}
use Rattle.nco.specs.Nco.{fresh_nco}
use Rattle.keys.specs.declared.Tones.{Tones}
use Rattle.keys.specs.declared.Key.{Key}
use Rattle.keys.specs.Keys.{tones_of}
use Rattle.schedule.specs.Time.{time_at}
use Rattle.schedule.specs.Dialling.{digit_at, in_tone}
use Rattle.tones.specs.declared.Mixed.{Mixed}
use Rattle.tones.specs.declared.KeyTones.{KeyTones}
use Rattle.tones.specs.declared.Dial.{Dial}
use Rattle.tones.specs.declared.Dialled.{Dialled}
use Rattle.tones.specs.Mixed.{gated_of}

-- a key's two frequencies; 1 Hz where there is no key. 02, E8: and the key
abbrev pub tones_for : Option Tones → KeyTones
tones_for (Some tones) = record { low = tones.low; high = tones.high; key = Some tones.key }
tones_for None = record { low = one; high = one; key = None }

-- those of the digit at position i
unfoldable pub digit_tones : List ℕ → ℕ → KeyTones
digit_tones digits i = tones_for (tones_of (slice_index digits i))

-- 02, E8: the key of a sample is that of the digit in whose tone it is, "none in a gap"
unfoldable pub dialled_key : List ℕ → ℕ → Bool → Option Key
dialled_key digits i true = (digit_tones digits i).key
dialled_key digits i false = None

-- i >= d, or the same pair of digit and tone as before
unfoldable pub pair_stays : ℕ → ℕ → Bool → ℕ → Bool → Bool
pair_stays d i on digit tone = nat_le d i || (i == digit && beq on tone)

-- otherwise a changed pair is taken over, with fresh oscillators if in tone
unfoldable pub taken_over : Bool → ℕ → Bool → Dial → List ℕ → ℕ → Dial
taken_over true i on dial digits r = dial
taken_over false i true dial digits r =
    record {
      digit = i;
      tone = true;
      a = fresh_nco (digit_tones digits i).low (of_nat r);
      b = fresh_nco (digit_tones digits i).high (of_nat r);
    }
taken_over false i false dial digits r = record { digit = i; tone = false; a = dial.a; b = dial.b }

-- a sample, then i and tone of t, with the new n
abbrev pub dialled_at : Dial → Mixed → Float → List ℕ → ℕ → Dialled
dialled_at dial p t digits r =
    record {
      sample = p.sample;
      dial =
          taken_over (pair_stays (length digits) (digit_at t) (in_tone t) dial.digit dial.tone) (digit_at t) (in_tone t)
          (record { digit = dial.digit; tone = dial.tone; a = p.a; b = p.b })
          digits
          r;
      finished = nat_le (length digits) (digit_at t);
    }

-- no digit at the position, as with d = 0, gives one 0.0
abbrev pub dialled_by : Bool → Dial → ℕ → List ℕ → ℕ → Dialled
dialled_by true dial n digits r = record { sample = zero; dial = dial; finished = true }
dialled_by false dial n digits r = dialled_at dial (gated_of dial.tone dial.a dial.b) (time_at r n) digits r

unfoldable pub dial_step_of : Dial → ℕ → List ℕ → ℕ → Dialled
dial_step_of dial n digits r = dialled_by (nat_le (length digits) dial.digit) dial n digits r
