-- 01, "Cue", and 02, E2: for a digit position, the first sample number in that digit's tone; 02, E8: with the digit's key. And the causes for
-- which it is declined.
use Rattle.std.specs.Prelude.{ℕ, Bool, true, false, ◌&&◌, ltb, eqb, Result, Ok, Err, Option, None}
use Rattle.keys.specs.declared.Key.{Key}
use Rattle.tones.specs.Dial.{dialled_key}
use Rattle.passage.specs.Cue.{first_in_tone}
use Rattle.session.specs.Session.{state_number, digits_held}
use Rattle.set.specs.declared.Set.{Set}
use Rattle.set.specs.Sound.{sound}
use Rattle.refusal.specs.declared.Refusal.{Refusal}
use Rattle.refusal.specs.declared.Refusal.TheVariants.{Unsound, Position}
use Rattle.set.specs.Refusals.{Checked, answered, told}
use Rattle.cue.specs.declared.Cued.{Cued}

-- state 1, and a position below d
abbrev pub cuable : Set → ℕ → Bool
cuable s p = eqb (state_number s.session.state) 1 && ltb p s.session.digits.len

-- 6, 7
abbrev pub cause_of_cue : (ok able : Bool) → Checked
cause_of_cue false able = Err Unsound
cause_of_cue true false = Err Position
cause_of_cue true true = Ok tt

unfoldable pub cue_cause : Set → ℕ → Checked
cue_cause s p = cause_of_cue (sound s) (cuable s p)

-- 02, E2: "the cue now gives the first sample of that digit's tone"; 02, E8: and the key of its digit
abbrev pub found : Set → ℕ → Cued
found s p = record { sample = first_in_tone (digits_held s.session) s.rate p; key = dialled_key (digits_held s.session) p true }

unfoldable pub cued : Set → ℕ → Result Cued Refusal
cued s p = answered (cue_cause s p) (found s p)

-- what is told of it: sample 0, and 02, E8, "none if declined"
abbrev pub sample_cued : Result Cued Refusal → ℕ
sample_cued answer = told (λ (c : Cued). c.sample) 0 answer

abbrev pub key_cued : Result Cued Refusal → Option Key
key_cued answer = told (λ (c : Cued). c.key) None answer
