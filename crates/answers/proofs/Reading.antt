-- Demand 1 read off the contract of `is_sound`, part by part, so that a contract that leaves a call out, or says less of it, is refused here.
-- Assumes nothing.
use mathlib.Core.Path.{◌≡◌}
use mathlib.Core.Bool.{Bool}
use Rattle.std.specs.declared.option.Option.TheVariants as option
use Rattle.reply.specs.declared.Reply.TheVariants.{None}
use Rattle.set.specs.declared.Set.{Set}
use Rattle.refusal.specs.Refusal.{answer_number}
use Rattle.set.specs.Refusals.{Checked}
use Rattle.set.specs.Event.{Event, Unchanged, ByCause, StringEvent, StringUnchanged, StringByCause}
use Rattle.answers.proofs.Contracts as contracts
use Rattle.set.specs.Sound.{sound}
use Rattle.answers.specs.Answers.{Answers}
use Rattle.answers.proofs.is_sound.Reads as is-sound

-- what a call does by its cause
module _ {s : Set} {cause : Checked} {e : Event} (b : ByCause s cause e) where
  pub refusal_is : e.refusal ≡ cause
  refusal_is = b.refusal

  module _ (declined : answer_number e.refusal ≡ 0 → ⊥) where
    unchanged : Unchanged s e
    unchanged = b.unchanged declined

    pub declined-set : e.set ≡ s
    declined-set = unchanged.set

    pub declined-lent : e.left ≡ e.lent
    declined-lent = unchanged.lent

    pub declined-reply : e.reply ≡ None
    declined-reply = unchanged.reply

    pub declined-sent : e.sent ≡ 0
    declined-sent = unchanged.sent

    pub declined-key : e.key ≡ option.None
    declined-key = unchanged.key

-- and a string by its own
module _ {s : Set} {cause : Checked} {e : StringEvent} (b : StringByCause s cause e) where
  pub string-refusal-is : e.refusal ≡ cause
  string-refusal-is = b.refusal

  module _ (declined : answer_number e.refusal ≡ 0 → ⊥) where
    string-unchanged : StringUnchanged s e
    string-unchanged = b.unchanged declined

    pub declined-string-set : e.set ≡ s
    declined-string-set = string-unchanged.set

    pub declined-string-outbox : e.outbox_left ≡ e.outbox
    declined-string-outbox = string-unchanged.outbox

    pub declined-string-codes : e.codes_left ≡ e.codes
    declined-string-codes = string-unchanged.codes

    pub declined-string-sent : e.sent ≡ 0
    declined-string-sent = string-unchanged.sent

-- of every set
module _ (s : Set) (r : Bool) (d : is-sound.Learnt tt (s, tt) r (s, tt)) where
  pub reads-sound : r ≡ sound s
  reads-sound = d.0

  told : Answers s
  told = d.1

  -- and so for each call's own contract
  pub tells-contracts : contracts.Answers s
  tells-contracts = record {
    creation = λ r. (tt, λ answer d. told.creation r answer d);
    typing = λ byte carrier κs out. (tt, λ left answer d. told.typing byte carrier out.now left answer d);
    string = λ κs bytes carrier out codes. (tt, λ left codes_left answer d. told.string bytes.now carrier out.now left codes.now codes_left answer d);
    time = λ ns carrier. (tt, λ answer d. told.time ns carrier answer d);
    forcing = (tt, λ answer d. told.forcing answer d);
    filling = λ κs out. (tt, λ left answer d. told.filling out.now left answer d);
    queuing = λ byte. (tt, λ answer d. told.queuing byte answer d);
    ring = (tt, λ answer d. told.ring answer d);
    cue = λ p. (tt, λ answer d. told.cue p answer d.0);
    never4 = told.never4;
    never5 = told.never5;
    writer = λ code s12 κs out. (tt, λ left n d. told.writer code s12 out.now left n d);
    oscillator = told.oscillator;
  }
