-- Each call asks nothing, and what its contract tells is what specs/Promises.antt says, no more and no less. `Asked` and `Learnt` are made by the
-- toolchain from the call's own `requires` and `ensures`. Assumes nothing.
use Rattle.std.proofs.Common.{ℕ, Bool, List, Float, ◌↔◌}
use Rattle.std.specs.Prelude.{Result}
use Rattle.refusal.specs.declared.Refusal.{Refusal}
use contract.Lifetimes.{Lfts}
use denote.Bor.{Bor}
use denote.MutBor.{MutBor}
use denote.Ref.{at_last}
use Rattle.set.specs.declared.Set.{Set}
use Rattle.set.specs.declared.Made.{Made}
use Rattle.set.specs.declared.Typed.{Typed}
use Rattle.set.specs.declared.TypedAll.{TypedAll}
use Rattle.set.specs.declared.Lapsed.{Lapsed}
use Rattle.set.specs.declared.Filled.{Filled}
use Rattle.set.specs.Promises.{IsMade, IsTyped, IsTypedAll, IsLapsed, IsForced, IsFilled, IsQueued, IsRung}
use Rattle.set.proofs.Set.new.Reads as new
use Rattle.set.proofs.Set.feed.Reads as feed
use Rattle.set.proofs.Set.feed_all.Reads as feed-all
use Rattle.set.proofs.Set.advance_time.Reads as advance-time
use Rattle.set.proofs.Set.force_data_mode.Reads as force-data-mode
use Rattle.set.proofs.Set.process_out.Reads as process-out
use Rattle.set.proofs.Set.queue_byte.Reads as queue-byte
use Rattle.set.proofs.Set.ring_number.Reads as ring-number

pub new-promises : (rate : ℕ) (answer : Made) → new.Asked tt (rate, tt) × (new.Learnt tt (rate, tt) answer (rate, tt) ↔ IsMade rate answer)
new-promises rate answer = (tt, (λ d. d, λ d. d))

module _ (s : Set) where
  pub feed-promises : (byte : ℕ) (carrier : Bool) (κs : Lfts 1) (out : MutBor (List ℕ)) (left : List ℕ) (answer : Result Typed Refusal)
      → feed.Asked κs (s, (byte, (carrier, (out, tt))))
      × (feed.Learnt κs (s, (byte, (carrier, (out, tt)))) answer (s, (byte, (carrier, (at_last out left, tt))))
      ↔ IsTyped s byte carrier out.now left answer)
  feed-promises byte carrier κs out left answer = (tt, (λ d. d, λ d. d))

  pub feed-all-promises : (κs : Lfts 3) (bytes : Bor (List ℕ)) (carrier : Bool) (out codes : MutBor (List ℕ)) (left codes_left : List ℕ) (answer : Result TypedAll Refusal)
      → feed-all.Asked κs (s, (bytes, (carrier, (out, (codes, tt)))))
      × (feed-all.Learnt κs (s, (bytes, (carrier, (out, (codes, tt))))) answer
      (s, (bytes, (carrier, (at_last out left, (at_last codes codes_left, tt)))))
      ↔ IsTypedAll s bytes.now carrier out.now left codes.now codes_left answer)
  feed-all-promises κs bytes carrier out codes left codes_left answer = (tt, (λ d. d, λ d. d))

  pub advance-time-promises : (ns : ℕ) (carrier : Bool) (answer : Result Lapsed Refusal)
      → advance-time.Asked tt (s, (ns, (carrier, tt)))
      × (advance-time.Learnt tt (s, (ns, (carrier, tt))) answer (s, (ns, (carrier, tt))) ↔ IsLapsed s ns carrier answer)
  advance-time-promises ns carrier answer = (tt, (λ d. d, λ d. d))

  pub force-data-mode-promises : (answer : Result Set Refusal)
      → force-data-mode.Asked tt (s, tt) × (force-data-mode.Learnt tt (s, tt) answer (s, tt) ↔ IsForced s answer)
  force-data-mode-promises answer = (tt, (λ d. d, λ d. d))

  pub process-out-promises : (κs : Lfts 1) (out : MutBor (List Float)) (left : List Float) (answer : Result Filled Refusal)
      → process-out.Asked κs (s, (out, tt))
      × (process-out.Learnt κs (s, (out, tt)) answer (s, (at_last out left, tt)) ↔ IsFilled s out.now left answer)
  process-out-promises κs out left answer = (tt, (λ d. d, λ d. d))

  pub queue-byte-promises : (byte : ℕ) (answer : Result Set Refusal)
      → queue-byte.Asked tt (s, (byte, tt)) × (queue-byte.Learnt tt (s, (byte, tt)) answer (s, (byte, tt)) ↔ IsQueued s byte answer)
  queue-byte-promises byte answer = (tt, (λ d. d, λ d. d))

  pub ring-number-promises : (answer : Result ℕ Refusal)
      → ring-number.Asked tt (s, tt) × (ring-number.Learnt tt (s, tt) answer (s, tt) ↔ IsRung s answer)
  ring-number-promises answer = (tt, (λ d. d, λ d. d))
