-- No part of 01. A run: some samples in a row over which a clock of 01's tells the same. A writer that knows a run works the clock out once for
-- all of it.
use Rattle.std.specs.Prelude.{ℕ, zero, suc, ◌+◌, ◌-◌, ◌≤◌, ◌<◌, ◌≡◌, Bool, ◌&&◌, eqb, Float}
use Rattle.std.specs.Bool.{beq}
use Rattle.std.specs.Float.Ieee.{le, lt}
use Rattle.math.specs.Float.{one, plus, over}
use Rattle.math.specs.Whole.{floor_of}
use Rattle.schedule.specs.Time.{min_rate, max_rate, time_at, saturating_inc}
use Rattle.schedule.specs.Dialling.{digit_at, in_tone}
use Rattle.schedule.specs.Ringback.{ring_on, ring_off, ring_at, ring_time, ring_tone}
use Rattle.schedule.specs.Ansam.{reversal, sign_at}

-- the count after j samples more
unfoldable pub counted : ℕ → ℕ → ℕ
counted zero n = n
counted (suc j) n = saturating_inc (counted j n)

-- no more than c and than most, and something if they are
pub record Least (c most r : ℕ) : Type 0 where
  pub few : r ≤ c
  pub fits : r ≤ most
  pub some : 0 < c → 0 < most → 0 < r

-- c samples, some if there is room, of which none but the last brings the count to the end
pub record Before (n end most c : ℕ) : Type 0 where
  pub some : 0 < most → 0 < c
  pub fits : c ≤ most
  pub early : (j : ℕ) → suc j < c → counted (suc j) n < end

-- c samples, some if there is room, with the sign of the first
pub record OneSign (r n most c : ℕ) : Type 0 where
  pub some : 0 < most → 0 < c
  pub fits : c ≤ most
  pub sign : (j : ℕ) → j < c → sign_at (time_at r (counted j n)) ≡ sign_at (time_at r n)

-- c samples, some if there is room, of one ring, all of them in tone or all in a gap
pub record OneGate (r n most c : ℕ) : Type 0 where
  pub some : 0 < most → 0 < c
  pub fits : c ≤ most
  pub ring : (j : ℕ) → j < c → ring_at (time_at r (counted j n)) ≡ ring_at (time_at r n)
  pub gate : (j : ℕ) → j < c → ring_tone (ring_time (time_at r (counted j n))) ≡ ring_tone (ring_time (time_at r n))

-- c samples after each of which digit and tone are still these
pub record OneKey (r n digit : ℕ) (tone : Bool) (most c : ℕ) : Type 0 where
  pub fits : c ≤ most
  pub digit-stays : (j : ℕ) → j < c → digit_at (time_at r (counted (suc j) n)) ≡ digit
  pub tone-stays : (j : ℕ) → j < c → in_tone (time_at r (counted (suc j) n)) ≡ tone

-- whether two times have the same count of reversals behind them
abbrev pub same_reversal : Float → Float → Bool
same_reversal s t = eqb (floor_of (over s reversal)) (floor_of (over t reversal))

-- whether two times since a ring's start are on the same side of each of the cadence's edges
abbrev pub same_part : Float → Float → Bool
same_part u v =
    beq (lt u ring_on) (lt v ring_on)
    && (beq (le (plus ring_on ring_off) u) (le (plus ring_on ring_off) v) && beq (lt u one) (lt v one))

-- that, of the same ring
unfoldable pub same_gate : Float → Float → Bool
same_gate s t = eqb (ring_at s) (ring_at t) && same_part (ring_time s) (ring_time t)

-- where runs are looked for: 01's rates, and counts far above any stage's
pub record Limits (r n c : ℕ) : Type 0 where
  pub slow : min_rate ≤ r
  pub fast : r ≤ max_rate
  pub few : n ≤ 0x4000_0000
  pub short : c ≤ 0x4000_0000

-- c samples, some if there is room; where they are more than one, the first and the last are alike
pub record EndsAgree (Alike : Float → Float → Type 0) (r n most c : ℕ) : Type 0 where
  pub some : 0 < most → 0 < c
  pub fits : c ≤ most
  pub known : 1 < c → Limits r n c
  pub ends : 1 < c → Alike (time_at r n) (time_at r (n + (c - 1)))
