-- 02, E13 read off the contract of `start`, each part at its full strength, so that a contract or a statement that says less is refused here: of every call
-- in the middle of a list what it answers and leaves, and of the whole list what the set inside did and played. Assumes nothing.
use Prim.Native.Nat.{ℕ}
use mathlib.Core.Path.{◌≡◌, refl, ap}
use mathlib.Core.Bool.{Bool, true}
use mathlib.Core.List.{List, [], ◌∷◌, ◌++◌, map}
use Rattle.std.specs.Prelude.{None, Result}
use Rattle.queue.specs.Queue.{waiting}
use Rattle.set.specs.declared.Set.{Set}
use Rattle.set.specs.Book.{Call, Book, blank, length_of}
use Rattle.set.specs.Event as inner
use Rattle.claim.specs.Trace as claim
use Rattle.claim.specs.Claim.{not_called, Reports, call_of, book_after, since_after, Played}
use Rattle.claim.specs.Claim as calls
use Rattle.claim.specs.Sent.{Sends}
use Rattle.claim.specs.Strings.{single, last_set, all_singles, all_calls, AllStepsAnswered, Holds}
use Rattle.uart.specs.declared.Start.{Start}
use Rattle.uart.specs.declared.Chip.{Chip}
use Rattle.refusal.specs.declared.Refusal.{Refusal}
use Rattle.refusal.specs.Refusal.{answer_number}
use Rattle.set.specs.Refusals.{checked}
use Rattle.uart.specs.Chip.{started}
use Rattle.wired.specs.Table.{Ask, Table, reset, declined_by, value_by, sent_by, outbox_by, key_by, next, table_after}
use Rattle.wired.specs.Trace.{Event, wait_event, Trace, chip_after, all_inside, Unchanged}
use Rattle.wired.specs.Wired.{Answered, AllAnswered, Serves, Served}
use Rattle.wired.proofs.start.Reads as start

abbrev pub ask_of : Event → Ask
ask_of e = e.ask

-- a call in the middle of a list
at_call : (r : ℕ) (c : Chip) (t : Table) (es : List Event) (e : Event) (later : List Event) → AllAnswered r c t (es ++ e ∷ later)
    → Answered r (chip_after c es) (table_after r t (map ask_of es)) e
at_call r c t [] e later (answered, rest) = answered
at_call r c t (x ∷ es) e later (answered, rest) = at_call r x.chip (next r t x.ask) es e later rest

-- a list of single calls, as the claim has it: its calls are they, and so are its last set and what the book is told
singles-are : (s : Set) (es : List inner.Event) → all_singles s (map single es) ≡ es
singles-are s [] = refl
singles-are s (e ∷ es) = ap (λ (l : List inner.Event). e ∷ l) (singles-are e.set es)

calls_are : (es : List inner.Event) → all_calls (map single es) ≡ map call_of es
calls_are [] = refl
calls_are (e ∷ es) = ap (λ (l : List Call). e.call ∷ l) (calls_are es)

last-is : (s : Set) (es : List inner.Event) → last_set s (map single es) ≡ claim.set_after s es
last-is s [] = refl
last-is s (e ∷ es) = last-is e.set es

each-is : (r : ℕ) (s : Set) (k : Book) (es : List inner.Event) → AllStepsAnswered r s k (map single es) → calls.AllAnswered r s k es
each-is r s k [] told = tt
each-is r s k (e ∷ es) (answered, rest) = (answered, each-is r e.set _ es rest)

-- a lapse is told with its own refusal, which the table then says is none
pub wait-told : (c : Chip) (ns : ℕ) (carrier : Bool) (a : Result Chip Refusal) → (wait_event c ns carrier a).refusal ≡ checked a
wait-told c ns carrier a = refl

-- `start` asks nothing of the rate
pub asks_nothing : (rate : ℕ) → start.Asked tt (rate, tt)
asks_nothing rate = tt

-- from the chip that `start` hands out
module _ (rate : ℕ) (answer : Start) (d : start.Learnt tt (rate, tt) answer (rate, tt)) where
  abbrev c : Chip
  c = answer.chip

  abbrev r : ℕ
  r = c.set.rate

  pub starts : answer ≡ started rate
  starts = d.0

  serves : Serves c
  serves = d.1

  module _ (es : List Event) (e : Event) (later : List Event) (tr : Trace c (es ++ e ∷ later)) where
    abbrev before : Table
    before = table_after r (reset r) (map ask_of es)

    answered : Answered r (chip_after c es) before e
    answered = at_call r c (reset r) es e later (serves (es ++ e ∷ later) tr).answered

    pub number_is : answer_number e.refusal ≡ declined_by before e.ask
    number_is = answered.number

    pub never-unsound : answer_number e.refusal ≡ 6 → ⊥
    never-unsound = answered.sound

    module _ (declined : answer_number e.refusal ≡ 0 → ⊥) where
      unchanged : Unchanged (chip_after c es) e
      unchanged = answered.unchanged declined

      pub declined-chip : e.chip ≡ chip_after c es
      declined-chip = unchanged.chip

      pub declined-lent : e.left ≡ e.lent
      declined-lent = unchanged.lent

      pub declined-value : e.value ≡ 0
      declined-value = unchanged.value

      pub declined-sent : e.sent ≡ 0
      declined-sent = unchanged.sent

      pub declined-key : e.key ≡ None
      declined-key = unchanged.key

    pub value-is : e.value ≡ value_by before e.ask
    value-is = answered.value

    pub sent_is : e.sent ≡ sent_by before e.ask
    sent_is = answered.sent

    pub outbox-is : e.left.bytes ≡ outbox_by before e.ask e.lent.bytes
    outbox-is = answered.outbox

    pub key-is : e.key ≡ key_by r before e.ask
    key-is = answered.key

    reports : Reports e.chip.set (next r before e.ask).book
    reports = answered.reports

    pub count-is : e.chip.set.session.m ≡ (next r before e.ask).book.count
    count-is = reports.count

    pub state-is : e.chip.set.session.state ≡ (next r before e.ask).book.state
    state-is = reports.state

    pub stage_is : e.chip.set.session.shown ≡ (next r before e.ask).book.shown
    stage_is = reports.stage

  -- the set inside: its calls, each with the outbox or the buffer that was lent to the chip, and what is claimed of them
  module _ (es : List Event) (tr : Trace c es) where
    served : Served c es
    served = serves es tr

    abbrev made : List inner.Event
    made = all_inside c es

    pub set-called : claim.Trace c.set made
    set-called = served.calls

    pub set-left : claim.set_after c.set made ≡ (chip_after c es).set
    set-left = served.last

    pub claim-holds : Holds c.set (map single made)
    claim-holds = served.claimed

    pub calls-answered : calls.AllAnswered r c.set (blank r) made
    calls-answered = each-is r c.set (blank r) made served.claimed.answered

    -- the wave, the count, the stages and the line-up rule, of the set that the chip then holds
    pub played : (since_after r (blank r) not_called made).called ≡ true
        → Played r (chip_after c es).set (book_after r (blank r) (map call_of made)).digits (length_of (book_after r (blank r) (map call_of made)).digits r) (since_after r (blank r) not_called made)
    played = rw (singles-are c.set made, calls_are made, last-is c.set made, served.last) at served.claimed.played

    -- 02, E10: and what it sent
    pub sent : Sends r (waiting (chip_after c es).set.sending.queue) (since_after r (blank r) not_called made).sent
    sent = rw (singles-are c.set made, last-is c.set made, served.last) at served.claimed.sent
