-- 01, "Stages": the next sample of each stage, the state after it, and whether the stage ends with it. n is the stage's samples so far.
use Rattle.std.specs.Prelude.{ℕ, Bool, true, false, List, leb, Float}
use Rattle.math.specs.Float.{zero, one}
use Rattle.nco.specs.declared.Nco.{Nco}
use Rattle.frame.specs.Frame.{ci_payload, cm_jm_payload, cj_payload, training_payload}
use Rattle.schedule.specs.Time.{time_at, samples_in, saturating_inc}
use Rattle.schedule.specs.Ringback.{ring_at, ring_time, ring_tone}
use Rattle.schedule.specs.Ansam.{sign_at}
use Rattle.schedule.specs.Length.{click_time, ringback_time, ansam_time, cj_silence, ci_bits, cm_jm_bits, cj_bits, training_bits}
use Rattle.fsk.specs.declared.FskChannel.{FskChannel}
use Rattle.fsk.specs.Channel.{channel_sample, next_channel}
use Rattle.tones.specs.declared.Dial.{Dial}
use Rattle.tones.specs.Samples.{shifted, click_sample}
use Rattle.tones.specs.Mixed.{gated_of, answer_of}
use Rattle.tones.specs.Dial.{dial_step_of}
use Rattle.stage.specs.declared.StageState.{StageState}
use Rattle.stage.specs.declared.StageState.TheVariants.{OffHook, DialTone, Dialling, Ringback, Ci, Ansam, CmJm, Cj, Training, Connected}
use Rattle.stage.specs.Stage.{stage_of, next_stage}
use Rattle.stage.specs.Enter.{enter_of}

-- a sample, the state after it, and whether it was the stage's last
pub record Generated : Type 0 where
  pub sample : Float
  pub state : StageState
  pub finished : Bool

-- 1
unfoldable pub off_hook_of : ℕ → ℕ → ℕ → Generated
off_hook_of rng n r =
    record {
      sample = click_sample (shifted rng) (time_at r n);
      state = OffHook (shifted rng) (saturating_inc n);
      finished = leb (samples_in click_time r) (saturating_inc n);
    }

-- 2
unfoldable pub dial_tone_of : Nco → Nco → ℕ → ℕ → Generated
dial_tone_of a b n r =
    let p = gated_of true a b in
    record { sample = p.sample; state = DialTone p.a p.b (saturating_inc n); finished = leb (samples_in one r) (saturating_inc n) }

-- 3
abbrev pub dial_state : Dial → ℕ → StageState
dial_state dial n = Dialling dial.digit dial.tone dial.a dial.b n

unfoldable pub dialling_of : Dial → ℕ → List ℕ → ℕ → Generated
dialling_of dial n digits r =
    let x = dial_step_of dial (saturating_inc n) digits r in
    record { sample = x.sample; state = dial_state x.dial (saturating_inc n); finished = x.finished }

-- 4
unfoldable pub ringback_of : Nco → Nco → ℕ → ℕ → Generated
ringback_of a b n r =
    let p = gated_of (ring_tone (ring_time (time_at r n))) a b in
    record {
      sample = p.sample;
      state = Ringback p.a p.b (saturating_inc n) (ring_at (time_at r n));
      finished = leb (samples_in ringback_time r) (saturating_inc n);
    }

-- 5
unfoldable pub ci_of : FskChannel → Generated
ci_of f = record { sample = channel_sample f; state = Ci (next_channel f ci_payload); finished = leb ci_bits (next_channel f ci_payload).done }

-- 6
unfoldable pub ansam_of : Nco → Nco → ℕ → ℕ → Generated
ansam_of carrier env n r =
    let p = answer_of carrier env (sign_at (time_at r n)) in
    record { sample = p.sample; state = Ansam p.a p.b (saturating_inc n); finished = leb (samples_in ansam_time r) (saturating_inc n) }

-- 7
unfoldable pub cm_jm_of : FskChannel → Generated
cm_jm_of f = record { sample = channel_sample f; state = CmJm (next_channel f cm_jm_payload); finished = leb cm_jm_bits (next_channel f cm_jm_payload).done }

-- 8: its bits, and once all are done its zeros
unfoldable pub cj_at : Bool → FskChannel → ℕ → ℕ → Generated
cj_at true f z r = record { sample = zero; state = Cj f (saturating_inc z); finished = leb (samples_in cj_silence r) (saturating_inc z) }
cj_at false f z r = record { sample = channel_sample f; state = Cj (next_channel f cj_payload) z; finished = false }

unfoldable pub cj_of : FskChannel → ℕ → ℕ → Generated
cj_of f z r = cj_at (leb cj_bits f.done) f z r

-- 9
unfoldable pub training_of : FskChannel → Generated
training_of f = record { sample = channel_sample f; state = Training (next_channel f training_payload); finished = leb training_bits (next_channel f training_payload).done }

-- 10
unfoldable pub connected_of : Generated
connected_of = record { sample = zero; state = Connected; finished = false }

unfoldable pub generate_of : StageState → List ℕ → ℕ → Generated
generate_of (OffHook rng n) digits r = off_hook_of rng n r
generate_of (DialTone a b n) digits r = dial_tone_of a b n r
generate_of (Dialling i on a b n) digits r = dialling_of (record { digit = i; tone = on; a = a; b = b }) n digits r
generate_of (Ringback a b n ring) digits r = ringback_of a b n r
generate_of (Ci f) digits r = ci_of f
generate_of (Ansam carrier env n) digits r = ansam_of carrier env n r
generate_of (CmJm f) digits r = cm_jm_of f
generate_of (Cj f z) digits r = cj_of f z r
generate_of (Training f) digits r = training_of f
generate_of Connected digits r = connected_of

-- where a stage ends, the next one begins
abbrev pub onward : Bool → StageState → List ℕ → ℕ → StageState
onward true s digits r = enter_of (next_stage (stage_of s)) digits r
onward false s digits r = s

-- the next sample, and the state after it
unfoldable pub sample_next : StageState → List ℕ → ℕ → Float
sample_next s digits r = (generate_of s digits r).sample

unfoldable pub state_next : StageState → List ℕ → ℕ → StageState
state_next s digits r = onward (generate_of s digits r).finished (generate_of s digits r).state digits r
