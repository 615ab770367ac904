-- 01, "The set": a session. It holds the state, the digits, m, the count of samples written since the dial line, the shown stage, and the
-- stage's state.
use Rattle.std.specs.Prelude.{ℕ, Bool, true, false, List, [], eqb, take, Float, Option, None}
use Rattle.keys.specs.Keys.{held, dialled_of}
use Rattle.keys.specs.declared.Key.{Key}
use Rattle.stage.specs.declared.Shown.{Shown}
use Rattle.stage.specs.declared.StageState.{StageState}
use Rattle.stage.specs.declared.StageState.TheVariants as at
use Rattle.stage.specs.Stage.{stage_number}
use Rattle.runs.specs.Runs.{counted}
use Rattle.overture.specs.Iteration.{fresh, after, samples, shown_after, zeros}
use Rattle.session.specs.declared.SessionState.{SessionState}
use Rattle.session.specs.declared.SessionState.TheVariants.{Idle, Dialling, Answering, Connected}
use Rattle.session.specs.declared.Session.{Session}

-- states 0 Idle, 1 Dialling, 2 Answering, 3 Connected
unfoldable pub state_number : SessionState → ℕ
state_number Idle = 0
state_number Dialling = 1
state_number Answering = 2
state_number Connected = 3

-- the digits that a session holds
abbrev pub digits_held : Session → List ℕ
digits_held s = take s.digits.len s.digits.keys

-- dial, answer and hang-up set m and the shown stage to 0. Where nothing is dialled there are no digits, and no samples to come.
abbrev pub quiet_in : SessionState → Session
quiet_in state = record { state = state; digits = held []; m = 0; shown = 0; stage = at.Connected }

unfoldable pub idle : Session
idle = quiet_in Idle

unfoldable pub answering : Session
answering = quiet_in Answering

-- the line's bytes after ATDT give the digits, and with the rate r the overture
unfoldable pub dialling : List ℕ → ℕ → Session
dialling line r =
    record {
      state = Dialling;
      digits = dialled_of line;
      m = 0;
      shown = 0;
      stage = fresh (take (dialled_of line).len (dialled_of line).keys) r;
    }

-- the stage shown after a fill: if that is Connected, 10, state becomes 3 and shown stage 0
unfoldable pub connects : Shown → Bool
connects s = eqb (stage_number s.stage) 10

abbrev pub shown_state : Bool → SessionState
shown_state true = Connected
shown_state false = Dialling

abbrev pub shown_number : Bool → Shown → ℕ
shown_number true s = 0
shown_number false s = stage_number s.stage

-- a fill of b samples in Dialling; they are counted as far as there is room in m
abbrev pub showing : Session → Shown → ℕ → StageState → Session
showing s shown b next =
    record {
      state = shown_state (connects shown);
      digits = s.digits;
      m = counted b s.m;
      shown = shown_number (connects shown) shown;
      stage = next;
    }

-- the session after a fill of b samples at the rate r: in Idle or Answering m is unchanged; in Connected the set plays its sender, and no fill comes here
abbrev pub filled_in : SessionState → Session → ℕ → ℕ → Session
filled_in Dialling s b r = showing s (shown_after b s.stage (digits_held s) r) b (after b s.stage (digits_held s) r)
filled_in Idle s b r = s
filled_in Answering s b r = s
filled_in Connected s b r = s

unfoldable pub filled : Session → ℕ → ℕ → Session
filled s b r = filled_in s.state s b r

-- what it writes: the next samples in Dialling, zeros in Idle and Answering
abbrev pub written_in : SessionState → Session → ℕ → ℕ → List Float
written_in Dialling s b r = samples b s.stage (digits_held s) r
written_in Idle s b r = zeros b
written_in Answering s b r = zeros b
written_in Connected s b r = zeros b

unfoldable pub written : Session → ℕ → ℕ → List Float
written s b r = written_in s.state s b r

-- 02, E8: the "key of its last sample, none in a gap, in another stage or after an empty or declined fill": in Dialling alone
abbrev pub key_in : SessionState → Session → ℕ → ℕ → Option Key
key_in Dialling s b r = (shown_after b s.stage (digits_held s) r).key
key_in Idle s b r = None
key_in Answering s b r = None
key_in Connected s b r = None

unfoldable pub key_after : Session → ℕ → ℕ → Option Key
key_after s b r = key_in s.state s b r

-- ring is reported while the next sample is Ringback's, else 0, and in Dialling alone
abbrev pub ring_of : StageState → ℕ
ring_of (at.Ringback a b n ring) = ring
ring_of (at.OffHook rng n) = 0
ring_of (at.DialTone a b n) = 0
ring_of (at.Dialling i on a b n) = 0
ring_of (at.Ci f) = 0
ring_of (at.Ansam c e n) = 0
ring_of (at.CmJm f) = 0
ring_of (at.Cj f z) = 0
ring_of (at.Training f) = 0
ring_of at.Connected = 0

abbrev pub ring_in : SessionState → StageState → ℕ
ring_in Dialling s = ring_of s
ring_in Idle s = 0
ring_in Answering s = 0
ring_in Connected s = 0

unfoldable pub ring_number : Session → ℕ
ring_number s = ring_in s.state s.stage
