-- 02, E6: on a set whose S12 is 50 a byte that ends no S12 line, and a lapse, are answered as before S12; and only an S12 line makes it another. By the
-- processor's laws. Assumes nothing.
use Prim.Native.Nat.{ℕ}
use mathlib.Core.Path.{◌≡◌, refl}
use mathlib.Core.List.{List}
use Rattle.std.specs.Prelude.{Result, Ok, Err}
use Rattle.refusal.specs.declared.Refusal.{Refusal}
use mathlib.Core.Bool.{Bool, true, false}
use mathlib.Core.Logic.{◌⊎◌, inl}
use lib.ListN.{length}
use Rattle.ascii.specs.Front.{put}
use Rattle.at.specs.Processor.{fresh_s12}
use Rattle.at.specs.declared.Fed.{Fed}
use Rattle.at.specs.declared.Outcome.{Outcome}
use Rattle.at.specs.Before.{typed_byte_before, sent_before, lapse_before, ends_s12_line}
use Rattle.at.proofs.Before as processor
use Rattle.control.specs.Control.{heard}
use Rattle.set.specs.declared.Set.{Set}
use Rattle.set.specs.declared.Typed.{Typed}
use Rattle.set.specs.declared.Lapsed.{Lapsed}
use Rattle.set.specs.declared.Filled.{Filled}
use Rattle.set.specs.Refusals.{Checked, accepted, answered, told}
use Rattle.set.specs.Set.{s12_of, typing_cause, byte_typed, typed, outbox, lapse_cause, time_lapsed, lapsed, forced_cause, forced, fill_cause, samples_filled, fill, queuing_cause, byte_queued, set_typed, reply_typed, sent_typed, set_lapsed, reply_lapsed, set_filled, set_left}
use Rattle.set.specs.Before.{byte_typed_before, typed_before, outbox_before, time_lapsed_before, lapsed_before}
use Rattle.set.proofs.Unchanged.{taken-answer}

module _ (s : Set) (e : s12_of s ≡ fresh_s12) where
  pub typed-as-before : (byte : ℕ) (carrier : Bool) (n : ℕ) → ends_s12_line s.processor byte ≡ false → typed s byte carrier n ≡ typed_before s byte carrier n
  unfolding typed typed_before
  typed-as-before byte carrier n none = rw (processor.typed-as-before s.processor e byte (heard s.session carrier) n none)

  pub outbox-as-before : (byte : ℕ) (was : List ℕ) → outbox s byte was ≡ outbox_before s byte was
  unfolding outbox outbox_before
  outbox-as-before byte was = rw (processor.sent-as-before s.processor e byte)

  pub lapsed-as-before : (ns : ℕ) (carrier : Bool) → lapsed s ns carrier ≡ lapsed_before s ns carrier
  unfolding lapsed lapsed_before
  lapsed-as-before ns carrier = rw (processor.lapse-as-before s.processor e ns (heard s.session carrier))

-- ---- an accepted call of before is 01's processor's, which reads no S12
module _ (s : Set) where
  module _ (byte : ℕ) (carrier : Bool) (n : ℕ) (taken : accepted (typing_cause s n) ≡ true) where
    abbrev fed : Fed
    fed = typed_byte_before s.processor byte (heard s.session carrier) n

    pub typed-is-01s : ((set_typed s (typed_before s byte carrier n)).processor ≡ fed.outcome.processor) × (reply_typed (typed_before s byte carrier n) ≡ fed.outcome.reply) × (sent_typed (typed_before s byte carrier n) ≡ fed.sent)
    unfolding typed_before
    typed-is-01s = let e = taken-answer (typing_cause s n) (byte_typed_before s byte carrier n) taken in (rw e, rw e, rw e)

  pub outbox-is-01s : (byte : ℕ) (was : List ℕ) → accepted (typing_cause s (length was)) ≡ true → outbox_before s byte was ≡ put (sent_before s.processor byte) was
  unfolding outbox_before
  outbox-is-01s byte was taken = rw taken

  module _ (ns : ℕ) (carrier : Bool) (taken : accepted (lapse_cause s) ≡ true) where
    abbrev after : Outcome
    after = lapse_before s.processor ns (heard s.session carrier)

    pub lapsed-is-01s : ((set_lapsed s (lapsed_before s ns carrier)).processor ≡ after.processor) × (reply_lapsed (lapsed_before s ns carrier) ≡ after.reply)
    unfolding lapsed_before
    lapsed-is-01s = let e = taken-answer (lapse_cause s) (time_lapsed_before s ns carrier) taken in (rw e, rw e)

-- ---- only an S12 line makes it another
module _ (s : Set) where
  abbrev Kept : Set → Type 0
  Kept next = (s12_of next ≡ s12_of s) ⊎ (s12_of next ≡ fresh_s12)

  kept_told : {X : Type 0} (cause : Checked) (set_of : X → Set) (x : X) → Kept (set_of x) → Kept (told set_of s (answered cause x))
  kept_told (Ok done) set_of x k = k
  kept_told (Err cause) set_of x k = inl refl

  same_told : {X : Type 0} (cause : Checked) (set_of : X → Set) (x : X) → s12_of (set_of x) ≡ s12_of s → s12_of (told set_of s (answered cause x)) ≡ s12_of s
  same_told (Ok done) set_of x k = k
  same_told (Err cause) set_of x k = refl

  pub typed-keeps-s12 : (byte : ℕ) (carrier : Bool) (n : ℕ) → ends_s12_line s.processor byte ≡ false → Kept (set_typed s (typed s byte carrier n))
  unfolding typed
  typed-keeps-s12 byte carrier n none =
      kept_told (typing_cause s n) (λ (a : Typed). a.set) (byte_typed s byte carrier n) (processor.typed-keeps-s12 s.processor byte (heard s.session carrier) n none)

  pub lapsed-keeps-s12 : (ns : ℕ) (carrier : Bool) → s12_of (set_lapsed s (lapsed s ns carrier)) ≡ s12_of s
  unfolding lapsed
  lapsed-keeps-s12 ns carrier = same_told (lapse_cause s) (λ (a : Lapsed). a.set) (time_lapsed s ns carrier) (processor.lapse-keeps-s12 s.processor ns (heard s.session carrier))

  pub forced-keeps-s12 : s12_of (set_left s (forced s)) ≡ s12_of s
  unfolding forced
  forced-keeps-s12 = same_told (forced_cause s) (λ (a : Set). a) _ (processor.forced-keeps-s12 s.processor)

  pub fill-keeps-s12 : (b : ℕ) → s12_of (set_filled s (fill s b)) ≡ s12_of s
  unfolding fill
  fill-keeps-s12 b = same_told (fill_cause s b) (λ (a : Filled). a.set) (samples_filled s b) refl

  pub queued-keeps-s12 : (byte : ℕ) → s12_of (set_left s (byte_queued s byte)) ≡ s12_of s
  unfolding byte_queued
  queued-keeps-s12 byte = same_told (queuing_cause s) (λ (a : Set). a) _ refl
