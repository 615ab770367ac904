-- An accepted cue: its numbers are in limits, and the sample after click, dial tone and the digits before is the first in the digit's tone.
-- Assumes nothing.
use Prim.Native.Nat.{ℕ, ◌+◌, ◌≤◌, ◌<◌}
use native.Mathlib.Omega.{arith}
use mathlib.Core.Path.{◌≡◌, refl}
use mathlib.Core.Bool.{Bool, true, false, and-eq-true_iff}
use lib.Dec.{eqb}
use lib.ListN.{length}
use lib.Seq.{length-take-le}
use borrow.Author.Tests.{ltb-true, eqb-true}
use Rattle.math.specs.Float.{one}
use Rattle.schedule.specs.Time.{samples_in}
use Rattle.schedule.specs.Length.{click_time}
use Rattle.passage.specs.Lengths.{samples_of_digits}
use Rattle.passage.specs.Cue.{FirstInTone, first_in_tone}
use Rattle.passage.proofs.Cue.{first-sample, first-sample-is}
use Rattle.session.specs.Session.{state_number, digits_held}
use Rattle.set.specs.declared.Set.{Set}
use Rattle.set.specs.Sound.{sound}
use Rattle.refusal.specs.Refusal.{answer_number}
use Rattle.std.specs.Prelude.{Ok, Err, None}
use Rattle.set.specs.Refusals.{Checked, Declined, answered, checked}
use Rattle.cue.specs.declared.Cued.{Cued}
use Rattle.cue.specs.Cue.{cuable, cause_of_cue, cue_cause, sample_cued, key_cued}
use Rattle.set.proofs.Ranges.{sound-digits, sound-rate}

-- a cue that is declined has its cause, sample 0 and no key
pub declined-cued : (c : Checked) (found : Cued) → Declined c
    → (checked (answered c found) ≡ c) × (sample_cued (answered c found) ≡ 0) × (key_cued (answered c found) ≡ None)
declined-cued (Ok done) found declined = absurd (declined refl)
declined-cued (Err cause) found declined = (refl, refl, refl)

module _ (s : Set) (p : ℕ) (accepted : answer_number (cue_cause s p) ≡ 0) where
  able : (sound s ≡ true) × (cuable s p ≡ true)
  unfolding cue_cause
  able = go (sound s) (cuable s p) accepted
    where
      go : (ok able : Bool) → answer_number (cause_of_cue ok able) ≡ 0 → (ok ≡ true) × (able ≡ true)
      go false able e = let no : ⊥ = omega arith in absurd no
      go true false e = let no : ⊥ = omega arith in absurd no
      go true true e = (refl, refl)

  -- an accepted cue is of a call that is being dialled, and of one of its digits
  pub in-state-1 : state_number s.session.state ≡ 1
  in-state-1 = eqb-true _ 1 ((and-eq-true_iff (eqb (state_number s.session.state) 1) _).0 able.1).0

  below : p < s.session.digits.len
  below = ltb-true _ _ ((and-eq-true_iff (eqb (state_number s.session.state) 1) _).0 able.1).1

  -- the set's rate is in limits, and the position that of a digit
  pub in-limits : (p < 76) × (8000 ≤ s.rate) × (s.rate ≤ 192000)
  in-limits =
      let few = sound-digits s able.0 in
      let r = sound-rate s able.0 in
      (omega (arith, below), r.0, r.1)

  -- the digit's first sample is the one after click, dial tone and the digits before
  module _ (keys : length s.session.digits.keys ≡ 76) where
    held : length (digits_held s.session) ≡ s.session.digits.len
    held =
        let few = sound-digits s able.0 in
        length-take-le s.session.digits.len s.session.digits.keys (omega arith)

    within : p < length (digits_held s.session)
    within = rw held below

    few-held : length (digits_held s.session) ≤ 76
    few-held = rw held (sound-digits s able.0)

    pub first-of-digit : FirstInTone (digits_held s.session) s.rate p (samples_in click_time s.rate + samples_in one s.rate + samples_of_digits s.rate p + 1)
    first-of-digit = first-sample (digits_held s.session) s.rate in-limits.1 in-limits.2 few-held p within

    pub first-of-digit-is : first_in_tone (digits_held s.session) s.rate p ≡ samples_in click_time s.rate + samples_in one s.rate + samples_of_digits s.rate p + 1
    first-of-digit-is = first-sample-is (digits_held s.session) s.rate in-limits.1 in-limits.2 few-held p within
