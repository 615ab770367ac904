-- 01, "Stages": the ten stages, by number, and their order; and what is shown of a sample.
use Rattle.std.specs.Prelude.{ℕ, List, Option, None}
use Rattle.keys.specs.declared.Key.{Key}
use Rattle.tones.specs.Dial.{dialled_key}
use Rattle.stage.specs.declared.Stage.{Stage}
use Rattle.stage.specs.declared.Stage.TheVariants as stage
use Rattle.stage.specs.declared.StageState.{StageState}
use Rattle.stage.specs.declared.Shown.{Shown}
use Rattle.stage.specs.declared.StageState.TheVariants.{OffHook, DialTone, Dialling, Ringback, Ci, Ansam, CmJm, Cj, Training, Connected}

abbrev pub stage_number : Stage → ℕ
stage_number stage.OffHook = 1
stage_number stage.DialTone = 2
stage_number stage.Dialling = 3
stage_number stage.Ringback = 4
stage_number stage.Ci = 5
stage_number stage.Ansam = 6
stage_number stage.CmJm = 7
stage_number stage.Cj = 8
stage_number stage.Training = 9
stage_number stage.Connected = 10

-- the stage that follows; Connected has no end
abbrev pub next_stage : Stage → Stage
next_stage stage.OffHook = stage.DialTone
next_stage stage.DialTone = stage.Dialling
next_stage stage.Dialling = stage.Ringback
next_stage stage.Ringback = stage.Ci
next_stage stage.Ci = stage.Ansam
next_stage stage.Ansam = stage.CmJm
next_stage stage.CmJm = stage.Cj
next_stage stage.Cj = stage.Training
next_stage stage.Training = stage.Connected
next_stage stage.Connected = stage.Connected

-- the stage of a state's next sample
abbrev pub stage_of : StageState → Stage
stage_of (OffHook rng n) = stage.OffHook
stage_of (DialTone a b n) = stage.DialTone
stage_of (Dialling i on a b n) = stage.Dialling
stage_of (Ringback a b n ring) = stage.Ringback
stage_of (Ci f) = stage.Ci
stage_of (Ansam c e n) = stage.Ansam
stage_of (CmJm f) = stage.CmJm
stage_of (Cj f z) = stage.Cj
stage_of (Training f) = stage.Training
stage_of Connected = stage.Connected

-- 02, E8: the key of a state's next sample, by the pair of digit and tone that the state holds; "none in a gap, in another stage"
abbrev pub key_of : StageState → List ℕ → Option Key
key_of (Dialling i on a b n) digits = dialled_key digits i on
key_of (OffHook rng n) digits = None
key_of (DialTone a b n) digits = None
key_of (Ringback a b n ring) digits = None
key_of (Ci f) digits = None
key_of (Ansam c e n) digits = None
key_of (CmJm f) digits = None
key_of (Cj f z) digits = None
key_of (Training f) digits = None
key_of Connected digits = None

-- what is shown of a state's next sample
abbrev pub shown_of : StageState → List ℕ → Shown
shown_of s digits = record { stage = stage_of s; key = key_of s digits }

-- and where no sample was made: its stage, and no key
abbrev pub waiting_of : StageState → Shown
waiting_of s = record { stage = stage_of s; key = None }
