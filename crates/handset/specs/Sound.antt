-- 02, E14: "Keys, dial tone and ringback are mixed from it .. gaps and other stages give 0". What sounds is read from the state that the float
-- overture makes its own sample from, so that "stage edges and T are the float overture's".
use Rattle.std.specs.Prelude.{ℕ, zero, suc, Bool, true, false, not, ◌&&◌, ◌||◌, List, [], ◌∷◌, ℤ, pos, ◌==◌, slice_index, Option, Some, None}
use Rattle.keys.specs.declared.Key.{Key}
use Rattle.keys.specs.Keys.{rows, columns}
use Rattle.schedule.specs.Time.{time_at}
use Rattle.schedule.specs.Ringback.{ring_time, ring_tone}
use Rattle.stage.specs.declared.StageState.{StageState}
use Rattle.stage.specs.declared.StageState.TheVariants.{OffHook, DialTone, Dialling, Ringback, Ci, Ansam, CmJm, Cj, Training, Connected}
use Rattle.stage.specs.Stage.{stage_number, stage_of, key_of}
use Rattle.overture.specs.Iteration.{fresh, after}
use Rattle.handset.specs.declared.Tones.{Tones}
use Rattle.handset.specs.Tone.{step_of, phase_after, mixed_at}

-- what a sample sounds: two tones of so many hertz, or nothing
abbrev pub Sound : Type 0
Sound = Option Tones

abbrev pub sounding_tones : (low high : ℕ) → Sound
sounding_tones low high = Some (record { low = low; high = high })

-- a key sounds its row's and its column's tone; none is a gap, or no digit at all
abbrev pub key_sound : Option Key → Sound
key_sound (Some key) = sounding_tones (slice_index rows key.row) (slice_index columns key.column)
key_sound None = None

-- 01, "Stages", 4: 400 and 450 in tone
abbrev pub ring_sound : Bool → Sound
ring_sound true = sounding_tones 400 450
ring_sound false = None

-- what the next sample of a state sounds
unfoldable pub sound_of : StageState → List ℕ → ℕ → Sound
sound_of (OffHook rng n) digits r = None
sound_of (DialTone a b n) digits r = sounding_tones 350 450
sound_of (Dialling i on a b n) digits r = key_sound (key_of (Dialling i on a b n) digits)
sound_of (Ringback a b n ring) digits r = ring_sound (ring_tone (ring_time (time_at r n)))
sound_of (Ci f) digits r = None
sound_of (Ansam c e n) digits r = None
sound_of (CmJm f) digits r = None
sound_of (Cj f z) digits r = None
sound_of (Training f) digits r = None
sound_of Connected digits r = None

-- ---- fresh oscillators
-- the digit and the tone that a state of Dialling holds
abbrev pub digit_in : StageState → ℕ
digit_in (OffHook rng n) = 0
digit_in (DialTone a b n) = 0
digit_in (Dialling i on a b n) = i
digit_in (Ringback a b n ring) = 0
digit_in (Ci f) = 0
digit_in (Ansam c e n) = 0
digit_in (CmJm f) = 0
digit_in (Cj f z) = 0
digit_in (Training f) = 0
digit_in Connected = 0

abbrev pub tone_in : StageState → Bool
tone_in (OffHook rng n) = false
tone_in (DialTone a b n) = false
tone_in (Dialling i on a b n) = on
tone_in (Ringback a b n ring) = false
tone_in (Ci f) = false
tone_in (Ansam c e n) = false
tone_in (CmJm f) = false
tone_in (Cj f z) = false
tone_in (Training f) = false
tone_in Connected = false

-- 01 takes fresh oscillators where a stage begins, and in Dialling where a changed pair of digit and tone is in tone: of the states before a sample
-- and after it. Nowhere else: in Ringback they rest in gaps and go on.
unfoldable pub takes_fresh : (before after : StageState) → Bool
takes_fresh s t =
    not (stage_number (stage_of s) == stage_number (stage_of t))
    || (tone_in t && not (digit_in s == digit_in t && tone_in s))

-- ---- the wave
-- the state that the float overture's sample is made from, k samples after the first
abbrev pub state_after : List ℕ → ℕ → ℕ → StageState
state_after digits r k = after k (fresh digits r) digits r

-- what that sample sounds here
abbrev pub sound_after : List ℕ → ℕ → ℕ → Sound
sound_after digits r k = sound_of (state_after digits r k) digits r

-- a phase "steps after a sample where 01's does": in tone
abbrev pub sounding : Sound → ℕ → ℕ
sounding None steps = steps
sounding (Some tones) steps = suc steps

abbrev pub steps_by : (takes-fresh : Bool) → Sound → ℕ → ℕ
steps_by true sound steps = 0
steps_by false sound steps = sounding sound steps

-- how many samples have sounded since the last fresh oscillators, before the sample that is k samples after the first
unfoldable pub steps_after : List ℕ → ℕ → ℕ → ℕ
steps_after digits r zero = 0
steps_after digits r (suc k) = steps_by (takes_fresh (state_after digits r k) (state_after digits r (suc k))) (sound_after digits r k) (steps_after digits r k)

-- a sample, after so many steps of its phases
abbrev pub heard : Sound → ℕ → ℕ → ℤ
heard None r steps = pos 0
heard (Some tones) r steps = mixed_at (phase_after (step_of tones.low r) steps) (phase_after (step_of tones.high r) steps)

-- the wave, k samples after its first
unfoldable pub sample_after : List ℕ → ℕ → ℕ → ℤ
sample_after digits r k = heard (sound_after digits r k) r (steps_after digits r k)

-- "the samples that follow", so many, after those passed over
unfoldable pub samples_after : List ℕ → (r pass count : ℕ) → List ℤ
samples_after digits r pass zero = []
samples_after digits r pass (suc n) = sample_after digits r pass ∷ samples_after digits r (suc pass) n
