-- 01, "When a call is declined": what makes the state of a stage sound, with the call's digits and the rate r.
use Rattle.std.specs.Prelude.{ℕ, Bool, true, ◌&&◌, ◌||◌, List, leb, ltb, eqb, Float, length}
use Rattle.std.specs.Float.Ieee.{eq}
use Rattle.math.specs.Float.{of_nat, one}
use Rattle.nco.specs.declared.Nco.{Nco}
use Rattle.nco.specs.Nco.{phase_in_range}
use Rattle.keys.specs.Keys.{all_keys}
use Rattle.schedule.specs.Time.{min_rate, max_rate, samples_in}
use Rattle.schedule.specs.Symbols.{symbol_step, in_symbol}
use Rattle.schedule.specs.Length.{click_time, ringback_time, ansam_time, cj_silence, ci_bits, cm_jm_bits, cj_bits, training_bits, dialling_length}
use Rattle.fsk.specs.declared.Modulator.{Modulator}
use Rattle.fsk.specs.declared.FskChannel.{FskChannel}
use Rattle.stage.specs.declared.StageState.{StageState}
use Rattle.stage.specs.declared.StageState.TheVariants.{OffHook, DialTone, Dialling, Ringback, Ci, Ansam, CmJm, Cj, Training, Connected}

-- rate in limits
unfoldable pub rate_ok : ℕ → Bool
rate_ok r = leb min_rate r && leb r max_rate

-- digits <= 76, all keys
unfoldable pub digits_ok : List ℕ → Bool
digits_ok digits = leb (length digits) 76 && all_keys digits

-- phases and steps in [0, TAU), oscillator rates r
unfoldable pub nco_ok : Nco → ℕ → Bool
nco_ok o r = phase_in_range o.phase && (phase_in_range o.step && eq o.rate (of_nat r))

-- symbol phase in [0, 1), symbol step 300 / r
unfoldable pub modulator_ok : Modulator → ℕ → Bool
modulator_ok m r = nco_ok m.nco r && (in_symbol m.phase && eq m.step (symbol_step r))

-- digit position below d, or 0 with d = 0
abbrev pub digit_ok : ℕ → ℕ → Bool
digit_ok i d = ltb i d || (eqb i 0 && eqb d 0)

-- ring 1 or 2
abbrev pub ring_ok : ℕ → Bool
ring_ok ring = eqb ring 1 || eqb ring 2

-- n below the stage's own end, R(s), and two oscillators
unfoldable pub tones_ok : Nco → Nco → ℕ → Float → ℕ → Bool
tones_ok a b n s r = nco_ok a r && (nco_ok b r && ltb n (samples_in s r))

-- n below the stage's own end for d digits
unfoldable pub dialling_ok : ℕ → Nco → Nco → ℕ → ℕ → ℕ → Bool
dialling_ok i a b n d r = digit_ok i d && (nco_ok a r && (nco_ok b r && ltb n (dialling_length r d)))

unfoldable pub ringback_ok : Nco → Nco → ℕ → ℕ → ℕ → Bool
ringback_ok a b n ring r = ring_ok ring && tones_ok a b n ringback_time r

-- bits done below the stage's own end, all N
unfoldable pub bits_ok : FskChannel → ℕ → ℕ → Bool
bits_ok f N r = modulator_ok f.modulator r && ltb f.done N

-- Cj zeros below the stage's own end, but Cj's bits may all be done
unfoldable pub cj_ok : FskChannel → ℕ → ℕ → Bool
cj_ok f z r = modulator_ok f.modulator r && (leb f.done cj_bits && ltb z (samples_in cj_silence r))

-- a state by its kind, of d digits at the rate r; the click's noise is any number
unfoldable pub state_ok : StageState → ℕ → ℕ → Bool
state_ok (OffHook rng n) d r = ltb n (samples_in click_time r)
state_ok (DialTone a b n) d r = tones_ok a b n one r
state_ok (Dialling i on a b n) d r = dialling_ok i a b n d r
state_ok (Ringback a b n ring) d r = ringback_ok a b n ring r
state_ok (Ci f) d r = bits_ok f ci_bits r
state_ok (Ansam carrier env n) d r = tones_ok carrier env n ansam_time r
state_ok (CmJm f) d r = bits_ok f cm_jm_bits r
state_ok (Cj f z) d r = cj_ok f z r
state_ok (Training f) d r = bits_ok f training_bits r
state_ok Connected d r = true

-- with the digits and the rate that it is judged by
unfoldable pub sound_state : StageState → List ℕ → ℕ → Bool
sound_state s digits r = rate_ok r && (digits_ok digits && state_ok s (length digits) r)
