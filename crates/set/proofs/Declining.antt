-- Demand 1 in the fields of the contracts, of every set: a call that answers a cause leaves what was lent to it as it was at entry, whatever the cause; and a
-- set that is not sound gets 6, whatever is handed in. Assumes nothing.
use Prim.Native.Nat.{ℕ}
use mathlib.Core.Path.{◌≡◌, refl, ◌∙◌}
use mathlib.Core.Bool.{Bool, false}
use mathlib.Core.List.{List}
use contract.Lifetimes.{Lfts}
use denote.Bor.{Bor}
use denote.Ref.{MutBor, at_last}
use lib.Ieee.{Float}
use lib.ListN.{length}
use Rattle.std.specs.Prelude.{Result, Ok, Err}
use Rattle.refusal.specs.declared.Refusal.{Refusal}
use Rattle.refusal.specs.declared.Refusal.TheVariants.{Unsound}
use Rattle.refusal.specs.Refusal.{answer_number}
use Rattle.set.specs.declared.Set.{Set}
use Rattle.set.specs.declared.Typed.{Typed}
use Rattle.set.specs.declared.TypedAll.{TypedAll}
use Rattle.set.specs.declared.Lapsed.{Lapsed}
use Rattle.set.specs.declared.Filled.{Filled}
use Rattle.set.specs.Refusals.{Checked, accepted, if_accepted, answered}
use Rattle.set.specs.Sound.{sound}
use Rattle.set.specs.Set.{typing_cause, typed, outbox, lapse_cause, lapsed, forced_cause, forced, fill_cause, fill, buffer, queuing_cause, byte_queued, ring_cause, rung}
use Rattle.set.specs.String.{string_cause, typed_all, outbox_all, codes_all}
use Rattle.set.proofs.Set.feed.Reads as feed
use Rattle.set.proofs.Set.feed_all.Reads as feed-all
use Rattle.set.proofs.Set.advance_time.Reads as advance-time
use Rattle.set.proofs.Set.force_data_mode.Reads as force-data-mode
use Rattle.set.proofs.Set.process_out.Reads as process-out
use Rattle.set.proofs.Set.queue_byte.Reads as queue-byte
use Rattle.set.proofs.Set.ring_number.Reads as ring-number

-- an answer that is a cause has kept what was there
stays : {X Y : Type 0} (checked : Checked) (x : X) (cause : Refusal) (next was : Y) → Err cause ≡ answered checked x → if_accepted checked next was ≡ was
unfolding accepted
stays (Ok done) x cause next was is = absurd (cc)
stays (Err other) x cause next was is = refl

module _ (s : Set) (cause : Refusal) where
  pub declined-byte-stays : (byte : ℕ) (carrier : Bool) (κs : Lfts 1) (out : MutBor (List ℕ)) (left : List ℕ)
      → feed.Learnt κs (s, (byte, (carrier, (out, tt)))) (Err cause) (s, (byte, (carrier, (at_last out left, tt))))
      → left ≡ out.now
  unfolding typed outbox
  declined-byte-stays byte carrier κs out left d = d.1 ∙ stays (typing_cause s (length out.now)) _ cause _ _ d.0

  pub declined-string-stays : (κs : Lfts 3) (bytes : Bor (List ℕ)) (carrier : Bool) (out codes : MutBor (List ℕ)) (left codes_left : List ℕ)
      → feed-all.Learnt κs (s, (bytes, (carrier, (out, (codes, tt))))) (Err cause)
      (s, (bytes, (carrier, (at_last out left, (at_last codes codes_left, tt)))))
      → (left ≡ out.now) × (codes_left ≡ codes.now)
  unfolding typed_all outbox_all codes_all
  declined-string-stays κs bytes carrier out codes left codes_left d =
      let checked : Checked = string_cause s (length bytes.now) (length out.now) (length codes.now) in
      (d.1.0 ∙ stays checked _ cause _ _ d.0, d.1.1 ∙ stays checked _ cause _ _ d.0)

  pub declined-fill-stays : (κs : Lfts 1) (out : MutBor (List Float)) (left : List Float)
      → process-out.Learnt κs (s, (out, tt)) (Err cause) (s, (at_last out left, tt))
      → left ≡ out.now
  unfolding fill buffer
  declined-fill-stays κs out left d = d.1 ∙ stays (fill_cause s (length out.now)) _ cause _ _ d.0

-- the number is written out
is-6 : {X : Type 0} (answer : Result X Refusal) → answer ≡ Err Unsound → answer_number answer ≡ 6
is-6 answer is = rw is

module _ (s : Set) (unsound : sound s ≡ false) where
  pub unsound-byte : (byte : ℕ) (carrier : Bool) (κs : Lfts 1) (out : MutBor (List ℕ)) (left : List ℕ) (answer : Result Typed Refusal)
      → feed.Learnt κs (s, (byte, (carrier, (out, tt)))) answer (s, (byte, (carrier, (at_last out left, tt))))
      → answer_number answer ≡ 6
  unfolding typed typing_cause
  unsound-byte byte carrier κs out left answer d = is-6 answer (rw unsound at d.0)

  pub unsound-string : (κs : Lfts 3) (bytes : Bor (List ℕ)) (carrier : Bool) (out codes : MutBor (List ℕ)) (left codes_left : List ℕ) (answer : Result TypedAll Refusal)
      → feed-all.Learnt κs (s, (bytes, (carrier, (out, (codes, tt))))) answer
      (s, (bytes, (carrier, (at_last out left, (at_last codes codes_left, tt)))))
      → answer_number answer ≡ 6
  unfolding typed_all string_cause
  unsound-string κs bytes carrier out codes left codes_left answer d = is-6 answer (rw unsound at d.0)

  pub unsound-lapse : (ns : ℕ) (carrier : Bool) (answer : Result Lapsed Refusal)
      → advance-time.Learnt tt (s, (ns, (carrier, tt))) answer (s, (ns, (carrier, tt)))
      → answer_number answer ≡ 6
  unfolding lapsed lapse_cause
  unsound-lapse ns carrier answer d = is-6 answer (rw unsound at d)

  pub unsound-forcing : (answer : Result Set Refusal) → force-data-mode.Learnt tt (s, tt) answer (s, tt) → answer_number answer ≡ 6
  unfolding forced forced_cause
  unsound-forcing answer d = is-6 answer (rw unsound at d)

  pub unsound-fill : (κs : Lfts 1) (out : MutBor (List Float)) (left : List Float) (answer : Result Filled Refusal)
      → process-out.Learnt κs (s, (out, tt)) answer (s, (at_last out left, tt))
      → answer_number answer ≡ 6
  unfolding fill fill_cause
  unsound-fill κs out left answer d = is-6 answer (rw unsound at d.0)

  pub unsound-queuing : (byte : ℕ) (answer : Result Set Refusal) → queue-byte.Learnt tt (s, (byte, tt)) answer (s, (byte, tt)) → answer_number answer ≡ 6
  unfolding byte_queued queuing_cause
  unsound-queuing byte answer d = is-6 answer (rw unsound at d)

  pub unsound-ring : (answer : Result ℕ Refusal) → ring-number.Learnt tt (s, tt) answer (s, tt) → answer_number answer ≡ 6
  unfolding rung ring_cause
  unsound-ring answer d = is-6 answer (rw unsound at d)
