-- What the contract of each call tells, made on a set that follows the book: the set that comes back follows the book's next entry, and is
-- sound; number and key are the book's; a declined call changes nothing; and a fill in Dialling writes the overture on, one
-- in Connected what the sender plays. Assumes nothing.
use Prim.Native.Nat.{ℕ}
use mathlib.Core.Path.{◌≡◌}
use mathlib.Core.Bool.{Bool}
use mathlib.Core.List.{List}
use lib.Ieee.{Float}
use lib.ListN.{length}
use Rattle.std.specs.Prelude.{Result}
use Rattle.refusal.specs.declared.Refusal.{Refusal}
use Rattle.set.specs.declared.Set.{Set}
use Rattle.set.specs.declared.Typed.{Typed}
use Rattle.set.specs.declared.Lapsed.{Lapsed}
use Rattle.set.specs.declared.Filled.{Filled}
use Rattle.set.specs.Refusals.{Declined}
use Rattle.set.specs.Set.{typed, lapsed, forced, fill, buffer, byte_queued}
use Rattle.set.specs.Book.{Book, entry_of}
use Rattle.set.specs.Event.{Event, typed_event, lapsed_event, forced_event, filled_event, queued_event, Unchanged}
use Rattle.set.specs.Promises.{IsTyped, IsLapsed, IsForced, IsFilled, IsQueued}
use Rattle.set.proofs.Answers.{typed-answers, advance-time-answers, force-data-mode-answers, filled-answers, queue-byte-answers}
use Rattle.set.proofs.Follows.{Effect, Invariant, typing-effect, time-effect, forcing-effect, filling-effect, queuing-effect}

pub record Stepped (r : ℕ) (k : Book) (s : Set) (e : Event) : Type 0 where
  pub effect : Effect r k (entry_of k e.call) e.set e.refusal e.key e.left.samples
  pub unchanged : Declined e.refusal → Unchanged s e

module _ (r : ℕ) (k : Book) (s : Set) (inv : Invariant r k s) where
  pub feed-steps : (byte : ℕ) (carrier : Bool) (was left : List ℕ) (answer : Result Typed Refusal) → IsTyped s byte carrier was left answer
      → Stepped r k s (typed_event s byte carrier was left answer)
  feed-steps byte carrier was left answer d =
      let told : answer ≡ typed s byte carrier (length was) = d.0 in
      record {
        effect = rw told (typing-effect r k s inv byte carrier (length was));
        unchanged = (typed-answers s byte carrier was left answer d).unchanged;
      }

  pub advance-time-steps : (ns : ℕ) (carrier : Bool) (answer : Result Lapsed Refusal) → IsLapsed s ns carrier answer
      → Stepped r k s (lapsed_event s ns carrier answer)
  advance-time-steps ns carrier answer d =
      let told : answer ≡ lapsed s ns carrier = d in
      record { effect = rw told (time-effect r k s inv ns carrier); unchanged = (advance-time-answers s ns carrier answer d).unchanged }

  pub force-data-mode-steps : (answer : Result Set Refusal) → IsForced s answer → Stepped r k s (forced_event s answer)
  force-data-mode-steps answer d =
      let told : answer ≡ forced s = d in
      record { effect = rw told (forcing-effect r k s inv); unchanged = (force-data-mode-answers s answer d).unchanged }

  pub process-out-steps : (was left : List Float) (answer : Result Filled Refusal) → IsFilled s was left answer → Stepped r k s (filled_event s was left answer)
  process-out-steps was left answer d =
      let told : answer ≡ fill s (length was) = d.0 in
      let wrote : left ≡ buffer s was = d.1 in
      record {
        effect = rw (told, wrote) (filling-effect r k s inv was);
        unchanged = (filled-answers s was left answer d).unchanged;
      }

  pub queue-byte-steps : (byte : ℕ) (answer : Result Set Refusal) → IsQueued s byte answer → Stepped r k s (queued_event s byte answer)
  queue-byte-steps byte answer d =
      let told : answer ≡ byte_queued s byte = d in
      record { effect = rw told (queuing-effect r k s inv byte); unchanged = (queue-byte-answers s byte answer d).unchanged }
