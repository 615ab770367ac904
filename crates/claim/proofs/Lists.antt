-- The claim is not empty: every list of calls, strings among them and whatever is lent to them, can be made, from every set. By the calls'
-- definitions. Assumes nothing.
use Prim.Native.Nat.{ℕ}
use mathlib.Core.Path.{◌≡◌, refl, ap}
use mathlib.Core.Bool.{Bool, true}
use mathlib.Core.List.{List, [], ◌∷◌, ◌++◌}
use lib.Ieee.{Float, binary32, of_bits}
use lib.ListN.{length, replicate, length-replicate}
use Rattle.set.specs.declared.Set.{Set}
use Rattle.set.specs.Refusals.{if_accepted}
use Rattle.set.specs.Set as set
use Rattle.set.specs.String.{cause_by_lengths, typed_all, outbox_all, codes_all}
use Rattle.set.specs.Book.{Call, typing, time, forcing, filling, queuing}
use Rattle.set.specs.Event.{Event, typed_event, lapsed_event, forced_event, filled_event, queued_event, string_event}
use Rattle.claim.specs.Trace.{Did, typed, lapsed, forced, filled, queued}
use Rattle.claim.specs.Claim.{call_of}
use Rattle.claim.specs.Strings as step
use Rattle.claim.specs.Strings.{Step, set_of, Happened, called, History, typings, calls_of, all_calls}

-- what is lent to a call that asks for so many bytes or so many samples
pub record Lender : Type 0 where
  pub bytes : ℕ → List ℕ
  pub all-bytes : (n : ℕ) → length (bytes n) ≡ n
  pub samples : ℕ → List Float
  pub all-samples : (n : ℕ) → length (samples n) ≡ n

abbrev pub zeros : Lender
zeros =
    record {
      bytes = λ n. replicate n 0;
      all-bytes = λ n. length-replicate n 0;
      samples = λ n. replicate n (of_bits binary32 0);
      all-samples = λ n. length-replicate n (of_bits binary32 0);
    }

-- ---- what comes of a call, made on the set s
pub record Made (s : Set) (call : Call) : Type 0 where
  pub event : Event
  pub did : Did s event
  pub asked : call_of event ≡ call

pub makes : Lender → (s : Set) (call : Call) → Made s call
makes l s (typing byte carrier room) =
    let was = l.bytes room in
    record {
      event = typed_event s byte carrier was (set.outbox s byte was) (set.typed s byte carrier (length was));
      did = typed byte carrier was (set.outbox s byte was) (set.typed s byte carrier (length was)) (refl, refl);
      asked = ap (typing byte carrier) (l.all-bytes room);
    }
makes l s (time ns carrier) =
    record { event = lapsed_event s ns carrier (set.lapsed s ns carrier); did = lapsed ns carrier (set.lapsed s ns carrier) refl; asked = refl }
makes l s forcing = record { event = forced_event s (set.forced s); did = forced (set.forced s) refl; asked = refl }
makes l s (filling b) =
    let was = l.samples b in
    record {
      event = filled_event s was (set.buffer s was) (set.fill s (length was));
      did = filled was (set.buffer s was) (set.fill s (length was)) (refl, refl);
      asked = ap filling (l.all-samples b);
    }
makes l s (queuing byte) =
    record { event = queued_event s byte (set.byte_queued s byte); did = queued byte (set.byte_queued s byte) refl; asked = refl }

-- ---- and of a list of them, strings among them
pub data Act : Type 0 where
  single : (call : Call) (lender : Lender) → Act
  string : (bytes : List ℕ) (carrier : Bool) (outbox codes : List ℕ) → Act

-- what it counts as
abbrev pub asked_by : Act → List Call
asked_by (single call lender) = call ∷ []
asked_by (string bytes carrier outbox codes) =
    if_accepted (cause_by_lengths true (length bytes) (length outbox) (length codes)) (typings bytes carrier) []

abbrev pub all_asked : List Act → List Call
all_asked [] = []
all_asked (act ∷ acts) = asked_by act ++ all_asked acts

pub record Acted (s : Set) (act : Act) : Type 0 where
  pub step : Step
  pub happened : Happened s step
  pub asked : calls_of step ≡ asked_by act

pub acts-on : (s : Set) (act : Act) → Acted s act
acts-on s (single call lender) =
    let one = makes lender s call in
    record { step = step.single one.event; happened = called one.event one.did; asked = ap (λ (call : Call). call ∷ []) one.asked }
acts-on s (string bytes carrier outbox codes) =
    let answer = typed_all s bytes carrier (length outbox) (length codes) in
    let left = outbox_all s bytes carrier outbox (length codes) in
    let codes_left = codes_all s bytes carrier (length outbox) codes in
    record {
      step = step.string (string_event s bytes carrier outbox left codes codes_left answer);
      happened = step.typed_all bytes carrier outbox left codes codes_left answer (refl, (refl, refl));
      asked = refl;
    }

pub record Listed (s : Set) (acts : List Act) : Type 0 where
  pub steps : List Step
  pub history : History s steps
  pub asked : all_calls steps ≡ all_asked acts

pub every-list : (s : Set) (acts : List Act) → Listed s acts
every-list s [] = record { steps = []; history = tt; asked = refl }
every-list s (act ∷ acts) =
    let one = acts-on s act in
    let rest = every-list (set_of one.step) acts in
    record { steps = one.step ∷ rest.steps; history = (one.happened, rest.history); asked = rw (one.asked, rest.asked) }
