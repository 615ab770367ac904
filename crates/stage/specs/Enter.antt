-- 01, "Stages": how each stage begins.
use Rattle.std.specs.Prelude.{ℕ, true, List}
use Rattle.math.specs.Float.{of_nat}
use Rattle.nco.specs.declared.Nco.{Nco}
use Rattle.nco.specs.Nco.{fresh_nco}
use Rattle.frame.specs.Frame.{ci_payload, cm_jm_payload, cj_payload, training_payload}
use Rattle.fsk.specs.Channel.{fresh_channel}
use Rattle.tones.specs.Dial.{digit_tones}
use Rattle.stage.specs.declared.Stage.{Stage}
use Rattle.stage.specs.declared.Stage.TheVariants as stage
use Rattle.stage.specs.declared.StageState.{StageState}
use Rattle.stage.specs.declared.StageState.TheVariants.{OffHook, DialTone, Dialling, Ringback, Ci, Ansam, CmJm, Cj, Training, Connected}

-- a fresh oscillator at so many hertz, at the rate r
abbrev pub at : ℕ → ℕ → Nco
at hertz r = fresh_nco (of_nat hertz) (of_nat r)

-- the state before a stage's first sample
unfoldable pub enter_of : Stage → List ℕ → ℕ → StageState
enter_of stage.OffHook digits r = OffHook 0x2545_f491_4f6c_dd1d 0
enter_of stage.DialTone digits r = DialTone (at 350 r) (at 450 r) 0
enter_of stage.Dialling digits r =
    Dialling 0 true (fresh_nco (digit_tones digits 0).low (of_nat r)) (fresh_nco (digit_tones digits 0).high (of_nat r)) 0
enter_of stage.Ringback digits r = Ringback (at 400 r) (at 450 r) 0 1
enter_of stage.Ci digits r = Ci (fresh_channel ci_payload r)
enter_of stage.Ansam digits r = Ansam (at 2100 r) (at 15 r) 0
enter_of stage.CmJm digits r = CmJm (fresh_channel cm_jm_payload r)
enter_of stage.Cj digits r = Cj (fresh_channel cj_payload r) 0
enter_of stage.Training digits r = Training (fresh_channel training_payload r)
enter_of stage.Connected digits r = Connected
