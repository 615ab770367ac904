-- 01, "The list of demand 3": the book, kept from the rate r, the calls and their arguments alone. It never reads the set.
use Rattle.std.specs.Prelude.{ℕ, zero, suc, ◌+◌, Bool, true, false, List, [], Ok, Err, leb, ltb, eqb, Float, length, Option, Some, None}
use Rattle.keys.specs.Keys.{digits_of}
use Rattle.keys.specs.declared.Key.{Key}
use Rattle.schedule.specs.Length.{total}
use Rattle.stage.specs.Stage.{stage_of, stage_number, key_of}
use Rattle.overture.specs.Iteration as iteration
use Rattle.at.specs.declared.AtProcessor.{AtProcessor}
use Rattle.at.specs.declared.Control.{Control}
use Rattle.at.specs.declared.Control.TheVariants.{Dial, Answer, Hangup}
use Rattle.at.specs.declared.Fed.{Fed}
use Rattle.at.specs.declared.Outcome.{Outcome}
use Rattle.at.specs.Processor.{fresh}
use Rattle.at.specs.At.{typed_byte, after_atdt, lapse, forced_data}
use Rattle.session.specs.declared.SessionState.{SessionState}
use Rattle.session.specs.declared.SessionState.TheVariants.{Idle, Dialling, Answering, Connected}
use Rattle.control.specs.Control.{heard_in}
use Rattle.queue.specs.Queue.{is_full}
use Rattle.sender.specs.declared.Sending.{Sending}
use Rattle.sender.specs.Sender.{fresh_sending, queued, emptied}
use Rattle.sender.specs.Wave as wave
use Rattle.refusal.specs.declared.Refusal.{Refusal}
use Rattle.refusal.specs.Refusal as refusal
use Rattle.set.specs.Refusals.{cause_of_typing, cause_of_fill, cause_of_queuing, Checked}
use Rattle.set.specs.Set.{raised_if}

-- for typing, byte, carrier flag and outbox length; for time, nanoseconds and carrier flag; for a fill, buffer length; for forced data, none; 02, E10:
-- for a byte that is queued, the byte
pub data Call : Type 0 where
  typing : (byte : ℕ) (carrier : Bool) (room : ℕ) → Call
  time : (ns : ℕ) (carrier : Bool) → Call
  forcing : Call
  filling : (b : ℕ) → Call
  queuing : (byte : ℕ) → Call

pub record Book : Type 0 where
  pub processor : AtProcessor
  pub state : SessionState
  pub digits : List ℕ
  pub count : ℕ
  pub shown : ℕ
  -- 02, E10: the sender, and the bytes that wait for it
  pub sending : Sending

-- the book starts Idle with the fresh AT processor, and no byte waits
abbrev pub blank : ℕ → Book
blank r = record { processor = fresh; state = Idle; digits = []; count = 0; shown = 0; sending = fresh_sending r }

-- ---- the digits and r fix the overture: its first m samples, T, and the stage of its sample i, from 1
abbrev pub overture : List ℕ → ℕ → ℕ → List Float
overture digits r m = iteration.samples m (iteration.fresh digits r) digits r

abbrev pub length_of : List ℕ → ℕ → ℕ
length_of digits r = total r (length digits)

unfoldable pub stage_of_sample : List ℕ → ℕ → ℕ → ℕ
stage_of_sample digits r zero = 0
stage_of_sample digits r (suc i) = stage_number (stage_of (iteration.after i (iteration.fresh digits r) digits r))

-- 02, E8: and the key of its sample i
unfoldable pub key_of_sample : List ℕ → ℕ → ℕ → Option Key
key_of_sample digits r zero = None
key_of_sample digits r (suc i) = key_of (iteration.after i (iteration.fresh digits r) digits r) digits

-- ---- typing, time and forced data step its AT processor
abbrev pub fed_by : Book → ℕ → Bool → ℕ → Fed
fed_by k byte carrier room = typed_byte k.processor byte (heard_in k.state carrier) room

abbrev pub lapsed_by : Book → ℕ → Bool → Outcome
lapsed_by k ns carrier = lapse k.processor ns (heard_in k.state carrier)

-- an answer makes the state Answering; a hang-up and a lost carrier make it Idle; all three set count and shown stage to 0, and so does a dial
-- line, which makes it Dialling and notes the digits. 02, E10: all four empty the queue
abbrev pub applied : Option Control → List ℕ → AtProcessor → Book → Book
applied None line p k = record { processor = p; state = k.state; digits = k.digits; count = k.count; shown = k.shown; sending = k.sending }
applied (Some Answer) line p k = record { processor = p; state = Answering; digits = []; count = 0; shown = 0; sending = emptied k.sending }
applied (Some Hangup) line p k = record { processor = p; state = Idle; digits = []; count = 0; shown = 0; sending = emptied k.sending }
applied (Some Dial) line p k = record { processor = p; state = Dialling; digits = digits_of line; count = 0; shown = 0; sending = emptied k.sending }

-- ---- a fill of b samples in Dialling
-- the shown stage is then that of sample count, or, with b = 0, that of sample count + 1
abbrev pub shown_by : List ℕ → ℕ → ℕ → ℕ → ℕ
shown_by digits r count zero = stage_of_sample digits r (suc count)
shown_by digits r count (suc b) = stage_of_sample digits r (count + suc b)

-- if that is 10, the line is up: state 3, shown stage 0
abbrev pub state_if : (up : Bool) → SessionState
state_if true = Connected
state_if false = Dialling

abbrev pub shown_if : (up : Bool) → ℕ → ℕ
shown_if true stage = 0
shown_if false stage = stage

-- 02, E10: and the sender is fresh
abbrev pub after_fill : (up : Bool) → (r stage count : ℕ) → Book → Book
after_fill up r stage count k =
    record { processor = k.processor; state = state_if up; digits = k.digits; count = count; shown = shown_if up stage; sending = raised_if up k.sending r }

-- 02, E10: the sender and what waits for it change, and nothing else; "m stops when the line goes up"
abbrev pub sending_now : Sending → Book → Book
sending_now x k = record { processor = k.processor; state = k.state; digits = k.digits; count = k.count; shown = k.shown; sending = x }

-- a fill in Connected plays the sender; any other fill leaves the book as it is
abbrev pub filled_in : SessionState → ℕ → Book → ℕ → Book
filled_in Dialling r k b =
    after_fill (eqb (shown_by k.digits r k.count b) 10) r (shown_by k.digits r k.count b) (k.count + b) k
filled_in Idle r k b = k
filled_in Answering r k b = k
filled_in Connected r k b = sending_now (wave.after b k.sending) k

-- ---- what a call comes to in the book: it is declined; the AT processor steps and asks for something; samples are filled; or a byte
-- is queued
pub data Entry : Type 0 where
  declined : (cause : Refusal) → Entry
  asks : (control : Option Control) (line : List ℕ) (p : AtProcessor) → Entry
  fills : (b : ℕ) → Entry
  queues : (byte : ℕ) → Entry

abbrev pub unless_declined : Checked → Entry → Entry
unless_declined (Ok done) entry = entry
unless_declined (Err cause) entry = declined cause

-- by the causes of 01's table, but that 6 cannot come
unfoldable pub entry_of : Book → Call → Entry
entry_of k (typing byte carrier room) =
    let fed = fed_by k byte carrier room in
    unless_declined (cause_of_typing true (leb 4 room)) (asks fed.outcome.control (after_atdt fed) fed.outcome.processor)
entry_of k (time ns carrier) = asks (lapsed_by k ns carrier).control [] (lapsed_by k ns carrier).processor
entry_of k forcing = asks None [] (forced_data k.processor)
entry_of k (filling b) = unless_declined (cause_of_fill true (ltb 65536 b)) (fills b)
entry_of k (queuing byte) = unless_declined (cause_of_queuing true (is_full k.sending.queue)) (queues byte)

-- 02, E8: the key that it answers: of a fill in Dialling that of sample count, which is its last; an empty one has none, and so has any other call
abbrev pub key_by : List ℕ → ℕ → ℕ → ℕ → Option Key
key_by digits r count zero = None
key_by digits r count (suc b) = key_of_sample digits r (count + suc b)

abbrev pub key_in : SessionState → ℕ → Book → ℕ → Option Key
key_in Dialling r k b = key_by k.digits r k.count b
key_in Idle r k b = None
key_in Answering r k b = None
key_in Connected r k b = None

abbrev pub key_of_entry : ℕ → Book → Entry → Option Key
key_of_entry r k (declined cause) = None
key_of_entry r k (asks control line p) = None
key_of_entry r k (fills b) = key_in k.state r k b
key_of_entry r k (queues byte) = None

-- the number that it is declined with; 0 for none
abbrev pub number_of : Entry → ℕ
number_of (declined cause) = refusal.number_of cause
number_of (asks control line p) = 0
number_of (fills b) = 0
number_of (queues byte) = 0

-- a call declined with 2, 3 or 12 changes nothing in the book
abbrev pub next_book : ℕ → Book → Entry → Book
next_book r k (declined cause) = k
next_book r k (asks control line p) = applied control line p k
next_book r k (fills b) = filled_in k.state r k b
next_book r k (queues byte) = sending_now (queued k.sending byte) k

abbrev pub declined_with : Book → Call → ℕ
declined_with k call = number_of (entry_of k call)

abbrev pub key_answered : ℕ → Book → Call → Option Key
key_answered r k call = key_of_entry r k (entry_of k call)

unfoldable pub entered : ℕ → Book → Call → Book
entered r k call = next_book r k (entry_of k call)
