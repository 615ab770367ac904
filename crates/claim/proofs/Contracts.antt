-- The claim over the calls' own contracts: `Asked` and `Learnt` are made by the toolchain from a function's `requires` and `ensures`, so that a
-- contract that says less is refused here. A list of calls that did what those promise is one of Trace.antt and Strings.antt. Assumes nothing.
use Rattle.std.proofs.Common.{ℕ, Bool, List, [], ◌∷◌, Float}
use Rattle.std.specs.Prelude.{Result}
use Rattle.refusal.specs.declared.Refusal.{Refusal}
use contract.Lifetimes.{Lfts}
use denote.Bor.{Bor}
use denote.MutBor.{MutBor}
use denote.Ref.{at_last}
use Rattle.set.specs.declared.Set.{Set}
use Rattle.set.specs.declared.Typed.{Typed}
use Rattle.set.specs.declared.TypedAll.{TypedAll}
use Rattle.set.specs.declared.Lapsed.{Lapsed}
use Rattle.set.specs.declared.Filled.{Filled}
use Rattle.set.specs.Set as set
use Rattle.set.specs.Event.{Event, typed_event, lapsed_event, forced_event, filled_event, queued_event, string_event}
use Rattle.set.proofs.Set.feed.Reads as feed
use Rattle.set.proofs.Set.feed_all.Reads as feed-all
use Rattle.set.proofs.Set.advance_time.Reads as advance-time
use Rattle.set.proofs.Set.force_data_mode.Reads as force-data-mode
use Rattle.set.proofs.Set.process_out.Reads as process-out
use Rattle.set.proofs.Set.queue_byte.Reads as queue-byte
use Rattle.set.proofs.Promises.{feed-promises, feed-all-promises, advance-time-promises, force-data-mode-promises, process-out-promises, queue-byte-promises}
use Rattle.claim.specs.Expand as expand
use Rattle.claim.specs.Trace as trace
use Rattle.claim.specs.Strings as strings
use Rattle.claim.specs.Strings.{Step, single, string, set_of, all_singles, Holds}
use Rattle.claim.specs.Before.{NoS12Line, AllAsBefore}
use Rattle.claim.proofs.Strings.{claim}
use Rattle.claim.proofs.Before.{unset}
use Rattle.claim.proofs.Lists.{Act, every-list}
use Rattle.claim.proofs.Worked as worked
use Rattle.claim.proofs.WorkedSent as sent

-- the event is that of a call on the set s, which was allowed, and did what its contract promises
pub data Did (s : Set) : Event → Type 0 where
  typed : (byte : ℕ) (carrier : Bool) (κs : Lfts 1) (out : MutBor (List ℕ)) (left : List ℕ) (answer : Result Typed Refusal)
      → feed.Asked κs (s, (byte, (carrier, (out, tt))))
      → feed.Learnt κs (s, (byte, (carrier, (out, tt)))) answer (s, (byte, (carrier, (at_last out left, tt))))
      → Did s (typed_event s byte carrier out.now left answer)
  lapsed : (ns : ℕ) (carrier : Bool) (answer : Result Lapsed Refusal)
      → advance-time.Asked tt (s, (ns, (carrier, tt)))
      → advance-time.Learnt tt (s, (ns, (carrier, tt))) answer (s, (ns, (carrier, tt)))
      → Did s (lapsed_event s ns carrier answer)
  forced : (answer : Result Set Refusal)
      → force-data-mode.Asked tt (s, tt)
      → force-data-mode.Learnt tt (s, tt) answer (s, tt)
      → Did s (forced_event s answer)
  filled : (κs : Lfts 1) (out : MutBor (List Float)) (left : List Float) (answer : Result Filled Refusal)
      → process-out.Asked κs (s, (out, tt))
      → process-out.Learnt κs (s, (out, tt)) answer (s, (at_last out left, tt))
      → Did s (filled_event s out.now left answer)
  queued : (byte : ℕ) (answer : Result Set Refusal)
      → queue-byte.Asked tt (s, (byte, tt))
      → queue-byte.Learnt tt (s, (byte, tt)) answer (s, (byte, tt))
      → Did s (queued_event s byte answer)

-- the step is a call on the set s, which was allowed, and did what its contract promises
pub data Happened (s : Set) : Step → Type 0 where
  called : (e : Event) → Did s e → Happened s (single e)
  typed_all : (κs : Lfts 3) (bytes : Bor (List ℕ)) (carrier : Bool) (out codes : MutBor (List ℕ)) (left codes_left : List ℕ) (answer : Result TypedAll Refusal)
      → feed-all.Asked κs (s, (bytes, (carrier, (out, (codes, tt)))))
      → feed-all.Learnt κs (s, (bytes, (carrier, (out, (codes, tt))))) answer
      (s, (bytes, (carrier, (at_last out left, (at_last codes codes_left, tt)))))
      → Happened s (string (string_event s bytes.now carrier out.now left codes.now codes_left answer))

-- each is made on the set that the one before returned
abbrev pub History : Set → List Step → Type 0
History s xs = expand.History set_of Happened s xs

did : (s : Set) (e : Event) → Did s e → trace.Did s e
did s e (typed byte carrier κs out left answer asked learnt) =
    trace.typed byte carrier out.now left answer ((feed-promises s byte carrier κs out left answer).1.0 learnt)
did s e (lapsed ns carrier answer asked learnt) = trace.lapsed ns carrier answer ((advance-time-promises s ns carrier answer).1.0 learnt)
did s e (forced answer asked learnt) = trace.forced answer ((force-data-mode-promises s answer).1.0 learnt)
did s e (filled κs out left answer asked learnt) = trace.filled out.now left answer ((process-out-promises s κs out left answer).1.0 learnt)
did s e (queued byte answer asked learnt) = trace.queued byte answer ((queue-byte-promises s byte answer).1.0 learnt)

happened : (s : Set) (x : Step) → Happened s x → strings.Happened s x
happened s x (called e d) = strings.called e (did s e d)
happened s x (typed_all κs bytes carrier out codes left codes_left answer asked learnt) =
    strings.typed_all bytes.now carrier out.now left codes.now codes_left answer
    ((feed-all-promises s κs bytes carrier out codes left codes_left answer).1.0 learnt)

pub history : (s : Set) (xs : List Step) → History s xs → strings.History s xs
history s [] h = tt
history s (x ∷ xs) (h, t) = (happened s x h, history (set_of x) xs t)

-- demand 3, and what was before S12, of every list of calls that did what their contracts promise
pub claim-of-contracts : (rate : ℕ) (xs : List Step) → History (set.made rate).set xs → Holds (set.made rate).set xs
claim-of-contracts rate xs h = claim rate xs (history _ xs h)

pub unset-of-contracts : (rate : ℕ) (xs : List Step) → History (set.made rate).set xs → NoS12Line (set.made rate).set (all_singles (set.made rate).set xs)
    → AllAsBefore (set.made rate).set (all_singles (set.made rate).set xs)
unset-of-contracts rate xs h none = unset rate xs (history _ xs h) none

-- ---- and back: each list of Strings.antt is one of calls that are allowed and did what their contracts promise, whatever memory is lent
abbrev pub shown : {X : Type 0} → List X → Bor (List X)
shown values = record { ref_ptr = (0, 0); now = values }

abbrev pub lent : {X : Type 0} → List X → MutBor (List X)
lent values = record { ref_ptr = (0, 0); ghost_name = 0; now = values }

did-back : Lfts 1 → (s : Set) (e : Event) → trace.Did s e → Did s e
did-back κs s e (trace.typed byte carrier was left answer d) =
    typed byte carrier κs (lent was) left answer (feed-promises s byte carrier κs (lent was) left answer).0 ((feed-promises s byte carrier κs (lent was) left answer).1.1 d)
did-back κs s e (trace.lapsed ns carrier answer d) =
    lapsed ns carrier answer (advance-time-promises s ns carrier answer).0 ((advance-time-promises s ns carrier answer).1.1 d)
did-back κs s e (trace.forced answer d) = forced answer (force-data-mode-promises s answer).0 ((force-data-mode-promises s answer).1.1 d)
did-back κs s e (trace.filled was left answer d) =
    filled κs (lent was) left answer (process-out-promises s κs (lent was) left answer).0 ((process-out-promises s κs (lent was) left answer).1.1 d)
did-back κs s e (trace.queued byte answer d) = queued byte answer (queue-byte-promises s byte answer).0 ((queue-byte-promises s byte answer).1.1 d)

happened-back : Lfts 3 → (s : Set) (x : Step) → strings.Happened s x → Happened s x
happened-back κs s x (strings.called e d) = called e (did-back (κs.0, tt) s e d)
happened-back κs s x (strings.typed_all bytes carrier was left codes codes_left answer d) =
    let promises = feed-all-promises s κs (shown bytes) carrier (lent was) (lent codes) left codes_left answer in
    typed_all κs (shown bytes) carrier (lent was) (lent codes) left codes_left answer promises.0 (promises.1.1 d)

pub history-back : Lfts 3 → (s : Set) (xs : List Step) → strings.History s xs → History s xs
history-back κs s [] h = tt
history-back κs s (x ∷ xs) (h, t) = (happened-back κs s x h, history-back κs (set_of x) xs t)

-- so the claim over the contracts is not empty: every list of calls can be made, and the worked lists are some
pub every-list-of-contracts : (κs : Lfts 3) (s : Set) (acts : List Act) → History s (every-list s acts).steps
every-list-of-contracts κs s acts = history-back κs s (every-list s acts).steps (every-list s acts).history

pub worked-of-contracts : Lfts 3 → History (set.fresh_set 8000) worked.steps
worked-of-contracts κs = history-back κs (set.fresh_set 8000) worked.steps worked.worked.history

pub worked-sent-of-contracts : Lfts 3 → History (set.fresh_set 8000) sent.steps
worked-sent-of-contracts κs = history-back κs (set.fresh_set 8000) sent.steps sent.worked-sent.history
