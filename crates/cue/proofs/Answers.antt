-- What the contract of `cue` tells of every set: its refusal is 01's cause, a refused cue is 0 and has no key, and another lies in the digit's tone,
-- which no smaller number does, and has the key of that sample. A contract that says less is refused here. And the example of 01's table: "12" at position 2. Assumes nothing.
use Prim.Native.Nat.{ℕ, suc, ◌≤◌}
use mathlib.Core.Path.{◌≡◌, refl, sym, ap, ◌∙◌}
use mathlib.Core.Bool.{true}
use lib.Dec.{lit≤}
use Rattle.math.specs.Float.{of_nat}
use Rattle.nco.specs.Nco.{step_of}
use Rattle.stage.specs.declared.StageState.TheVariants.{Dialling}
use Rattle.stage.specs.declared.StageState.{StageState}
use Rattle.stage.specs.Stage.{key_of}
use Rattle.tones.specs.Dial.{digit_tones, dialled_key}
use Rattle.overture.specs.Iteration.{after}
use Rattle.overture.specs.Iteration as overture
use Rattle.ascii.specs.Ascii.{ascii}
use Rattle.keys.proofs.Line.{dials-12}
use Rattle.passage.specs.Cue.{InDigitTone}
use Rattle.soundness.specs.Sound.{rate_ok}
use Rattle.std.specs.Prelude.{Some}
use Rattle.at.specs.declared.Control.TheVariants.{Dial}
use Rattle.at.specs.Processor.{fresh}
use Rattle.at.proofs.Sound.{sound-fresh}
use Rattle.session.specs.Session.{state_number, digits_held, dialling}
use Rattle.control.specs.Control.{controlled}
use Rattle.sender.specs.Sender.{fresh_sending}
use Rattle.set.specs.declared.Set.{Set}
use Rattle.set.specs.Sound.{sound}
use Rattle.set.specs.Set.{fresh_set, moved}
use Rattle.set.proofs.Soundness.{fresh-sound, control-sound}
use Rattle.set.proofs.Cases.{ones, unsound-81}
use Rattle.std.specs.Prelude.{Result, Ok, Err, None}
use Rattle.refusal.specs.declared.Refusal.{Refusal}
use Rattle.refusal.specs.Refusal.{answer_number}
use Rattle.set.specs.Refusals.{Checked, Declined, answered, checked}
use Rattle.set.proofs.Unchanged.{checked-is}
use Rattle.cue.specs.declared.Cued.{Cued}
use Rattle.cue.specs.Cue.{cue_cause, found, cued, sample_cued, key_cued}
use Rattle.cue.proofs.Cueing.{declined-cued}
use Rattle.cue.proofs.cue.Reads as cue

pub cued-answers : (s : Set) (p : ℕ) (answer : Result Cued Refusal) → answer ≡ cued s p
    → (checked answer ≡ cue_cause s p) × (Declined (checked answer) → (sample_cued answer ≡ 0) × (key_cued answer ≡ None))
unfolding cued
cued-answers s p answer is =
    let refused = checked-is (cue_cause s p) (found s p) in
    rw is (
      refused,
      λ no.
          let declined : Declined (cue_cause s p) = rw (← refused) no in
          let zeros = declined-cued (cue_cause s p) (found s p) declined in
          (zeros.1, zeros.2),
    )

-- an answer that is no cause is what is found
taken-is : (s : Set) (p : ℕ) (answer : Cued) → Ok answer ≡ cued s p → answer ≡ found s p
unfolding cued
taken-is s p answer is = go (cue_cause s p) is
  where
    go : (cause : Checked) → Ok answer ≡ answered cause (found s p) → answer ≡ found s p
    go (Ok done) e = cc
    go (Err cause) e = absurd (cc)

module _ (s : Set) (p : ℕ) where
  module _ (answer : Result Cued Refusal) (d : cue.Learnt tt (s, (p, tt)) answer (s, (p, tt))) where
    -- the definition's answer
    pub cue-is : answer ≡ cued s p
    cue-is = d.0

    pub cue-answers : (checked answer ≡ cue_cause s p) × (Declined (checked answer) → (sample_cued answer ≡ 0) × (key_cued answer ≡ None))
    cue-answers = cued-answers s p answer cue-is

  module _ (answer : Cued) (d : cue.Learnt tt (s, (p, tt)) (Ok answer) (s, (p, tt))) where
    pub in-tone : InDigitTone (digits_held s.session) s.rate p answer.sample
    in-tone = d.1.in_tone

    pub no-smaller : (k : ℕ) → InDigitTone (digits_held s.session) s.rate p k → answer.sample ≤ k
    no-smaller = d.1.least

    pub cue-number : answer.sample ≡ suc in-tone.before
    cue-number = in-tone.number

    pub cue-plays :
        after in-tone.before (overture.fresh (digits_held s.session) s.rate) (digits_held s.session) s.rate
        ≡ Dialling p true in-tone.a in-tone.b in-tone.n
    cue-plays = in-tone.state

    pub cue-key : answer.key ≡ dialled_key (digits_held s.session) p true
    cue-key = ap (λ (c : Cued). c.key) (taken-is s p answer d.0)

    -- which is the key of the cue's sample
    pub cue-lights :
        answer.key
        ≡ key_of (after in-tone.before (overture.fresh (digits_held s.session) s.rate) (digits_held s.session) s.rate) (digits_held s.session)
    cue-lights = cue-key ∙ sym (ap (λ (x : StageState). key_of x (digits_held s.session)) cue-plays)

    pub cue-low : in-tone.a.step ≡ step_of (digit_tones (digits_held s.session) p).low (of_nat s.rate)
    cue-low = in-tone.low

    pub cue-high : in-tone.b.step ≡ step_of (digit_tones (digits_held s.session) p).high (of_nat s.rate)
    cue-high = in-tone.high

-- a call to 12
abbrev pub call-12 : Set
call-12 = moved (fresh_set 8000) fresh (dialling (ascii "12") 8000) (fresh_sending 8000)

sound-12 : sound call-12 ≡ true
unfolding controlled rate_ok
sound-12 = control-sound (fresh_set 8000) (fresh-sound 8000 refl) (Some Dial) (ascii "12") fresh (lit≤ tt) sound-fresh

-- 7
pub position-2 : answer_number (cue_cause call-12 2) ≡ 7
unfolding cue_cause dialling state_number
position-2 = rw (sound-12, dials-12)

-- 6 before 7: a line of 81 bytes on a set that is Idle
pub unsound-and-idle : (p : ℕ) → answer_number (cue_cause (ones 81) p) ≡ 6
unfolding cue_cause
unsound-and-idle p = rw unsound-81
