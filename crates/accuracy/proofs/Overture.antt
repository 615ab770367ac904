-- Every narrowed sample of every overture lies between -0.92 and 0.92: by stages, each sample is one of 01's formulas or 0.0; the phases may be
-- whatever they are, and the click's generator keeps to 64 bits, which is all that is carried from sample to sample. Assumes nothing.
use Prim.Native.Nat.{ℕ, zero, suc, ◌*◌, ◌/◌, ◌%◌, ◌^◌, ◌<◌}
use native.Mathlib.Nat.{lt_of_le_of_lt, mod-lt, div-le_self}
use mathlib.Core.Bool.{Bool, true, false}
use mathlib.Core.List.{List}
use lib.Bits.{bit_xor, xor_lt}
use lib.Dec.{leb, lit<}
use lib.ListN.{length}
use lib.Pow.{pow_pos}
use Rattle.nco.specs.declared.Nco.{Nco}
use Rattle.schedule.specs.Time.{time_at, saturating_inc}
use Rattle.schedule.specs.Ringback.{ring_time, ring_tone}
use Rattle.fsk.specs.declared.FskChannel.{FskChannel}
use Rattle.tones.specs.declared.Dial.{Dial}
use Rattle.tones.specs.Samples.{shifted}
use Rattle.tones.specs.Mixed.{gated_of, answer_of}
use Rattle.tones.specs.Dial.{dial_step_of, dialled_by}
use Rattle.stage.specs.declared.Stage.{Stage}
use Rattle.stage.specs.declared.Stage.TheVariants as stage
use Rattle.stage.specs.declared.StageState.{StageState}
use Rattle.stage.specs.declared.StageState.TheVariants.{OffHook, DialTone, Dialling, Ringback, Ci, Ansam, CmJm, Cj, Training, Connected}
use Rattle.stage.specs.Stage.{stage_of, next_stage}
use Rattle.stage.specs.Enter.{enter_of}
use Rattle.stage.specs.Next.{off_hook_of, dial_tone_of, dialling_of, ringback_of, ci_of, ansam_of, cm_jm_of, cj_at, cj_of, training_of, connected_of, generate_of, onward, sample_next, state_next}
use Rattle.overture.specs.Iteration.{fresh, samples}
use Rattle.accuracy.specs.Level.{AllInLevel}
use Rattle.math.proofs.Size.{Size, zero-size}
use Rattle.accuracy.proofs.Level.{loudest, narrowed-level, mixed-size, bit-size, ansam-size, click-size}

-- ---- the generator keeps to 64 bits
abbrev pub InWord : StageState → Type 0
InWord (OffHook rng n) = rng < 2 ^ 64
InWord (DialTone a b n) = Unit {0}
InWord (Dialling i on a b n) = Unit {0}
InWord (Ringback a b n ring) = Unit {0}
InWord (Ci f) = Unit {0}
InWord (Ansam c e n) = Unit {0}
InWord (CmJm f) = Unit {0}
InWord (Cj f z) = Unit {0}
InWord (Training f) = Unit {0}
InWord Connected = Unit {0}

shifted-lt : (x : ℕ) → x < 2 ^ 64 → shifted x < 2 ^ 64
unfolding shifted
shifted-lt x h =
    let a = bit_xor x (x * 2 ^ 13 % 2 ^ 64) in
    let A : a < 2 ^ 64 = xor_lt 64 x (x * 2 ^ 13 % 2 ^ 64) h (mod-lt (x * 2 ^ 13) (pow_pos 64)) in
    let b = bit_xor a (a / 2 ^ 7) in
    let B : b < 2 ^ 64 = xor_lt 64 a (a / 2 ^ 7) A (lt_of_le_of_lt (div-le_self a (2 ^ 7)) A) in
    xor_lt 64 b (b * 2 ^ 17 % 2 ^ 64) B (mod-lt (b * 2 ^ 17) (pow_pos 64))

module _ (digits : List ℕ) (r : ℕ) where
  word-entered : (s : Stage) → InWord (enter_of s digits r)
  unfolding enter_of
  word-entered stage.OffHook = lit< tt
  word-entered stage.DialTone = tt
  word-entered stage.Dialling = tt
  word-entered stage.Ringback = tt
  word-entered stage.Ci = tt
  word-entered stage.Ansam = tt
  word-entered stage.CmJm = tt
  word-entered stage.Cj = tt
  word-entered stage.Training = tt
  word-entered stage.Connected = tt

  word-cj : (t : Bool) (f : FskChannel) (z : ℕ) → InWord (cj_at t f z r).state
  unfolding cj_at
  word-cj true f z = tt
  word-cj false f z = tt

  word-generated : (s : StageState) → InWord s → InWord (generate_of s digits r).state
  unfolding generate_of off_hook_of dial_tone_of dialling_of ringback_of ci_of ansam_of cm_jm_of cj_of training_of connected_of
  word-generated (OffHook rng n) h = shifted-lt rng h
  word-generated (DialTone a b n) h = tt
  word-generated (Dialling i on a b n) h = tt
  word-generated (Ringback a b n ring) h = tt
  word-generated (Ci f) h = tt
  word-generated (Ansam c e n) h = tt
  word-generated (CmJm f) h = tt
  word-generated (Cj f z) h = word-cj (leb 60 f.done) f z
  word-generated (Training f) h = tt
  word-generated Connected h = tt

  word-onward : (t : Bool) (s : StageState) → InWord s → InWord (onward t s digits r)
  word-onward true s h = word-entered (next_stage (stage_of s))
  word-onward false s h = h

  word_next : (s : StageState) → InWord s → InWord (state_next s digits r)
  unfolding state_next
  word_next s h = word-onward (generate_of s digits r).finished (generate_of s digits r).state (word-generated s h)

  -- ---- a sample of each stage
  gated-size : (on : Bool) (a b : Nco) → Size loudest (gated_of on a b).sample
  unfolding gated_of
  gated-size true a b = mixed-size a.phase b.phase
  gated-size false a b = zero-size loudest

  dialled-size : (t : Bool) (dial : Dial) (n : ℕ) → Size loudest (dialled_by t dial n digits r).sample
  dialled-size true dial n = zero-size loudest
  dialled-size false dial n = gated-size dial.tone dial.a dial.b

  cj-size : (t : Bool) (f : FskChannel) (z : ℕ) → Size loudest (cj_at t f z r).sample
  unfolding cj_at
  cj-size true f z = zero-size loudest
  cj-size false f z = bit-size f.modulator

  sample-size : (s : StageState) → InWord s → Size loudest (sample_next s digits r)
  unfolding sample_next generate_of off_hook_of dial_tone_of dialling_of dial_step_of ringback_of ci_of ansam_of answer_of cm_jm_of cj_of training_of connected_of
  sample-size (OffHook rng n) h = click-size (shifted rng) (time_at r n) (shifted-lt rng h)
  sample-size (DialTone a b n) h = gated-size true a b
  sample-size (Dialling i on a b n) h = dialled-size (leb (length digits) i) (record { digit = i; tone = on; a = a; b = b }) (saturating_inc n)
  sample-size (Ringback a b n ring) h = gated-size (ring_tone (ring_time (time_at r n))) a b
  sample-size (Ci f) h = bit-size f.modulator
  sample-size (Ansam c e n) h = ansam-size c.phase e.phase (time_at r n)
  sample-size (CmJm f) h = bit-size f.modulator
  sample-size (Cj f z) h = cj-size (leb 60 f.done) f z
  sample-size (Training f) h = bit-size f.modulator
  sample-size Connected h = zero-size loudest

  -- ---- all of them
  pub samples-level : (k : ℕ) (s : StageState) → InWord s → AllInLevel (samples k s digits r)
  unfolding samples AllInLevel
  samples-level zero s h = tt
  samples-level (suc k) s h = (narrowed-level (sample_next s digits r) (sample-size s h), samples-level k (state_next s digits r) (word_next s h))

  pub overture-level : (k : ℕ) → AllInLevel (samples k (fresh digits r) digits r)
  overture-level k = samples-level k (fresh digits r) (word-entered stage.OffHook)
