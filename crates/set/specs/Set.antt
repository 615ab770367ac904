-- 01, "The set" and "When a call is declined": the public calls. Each has its cause; a declined call has no reply, sends 0 bytes, and leaves the
-- set and what is lent to it as they were.
use Rattle.std.specs.Prelude.{ℕ, Bool, true, false, List, [], leb, ltb, eqb, length, Float, Result, Option, Some, None}
use Rattle.ascii.specs.Front.{put}
use Rattle.keys.specs.declared.Key.{Key}
use Rattle.reply.specs.declared.Reply.{Reply}
use Rattle.reply.specs.declared.Reply.TheVariants as reply
use Rattle.at.specs.declared.AtProcessor.{AtProcessor}
use Rattle.at.specs.declared.Control.{Control}
use Rattle.at.specs.declared.Outcome.{Outcome}
use Rattle.at.specs.declared.Control.TheVariants.{Dial, Answer, Hangup}
use Rattle.at.specs.Processor.{fresh}
use Rattle.at.specs.At.{typed_byte, sent, after_atdt, lapse, forced_data}
use Rattle.session.specs.declared.Session.{Session}
use Rattle.session.specs.declared.SessionState.{SessionState}
use Rattle.session.specs.Session.{state_number, idle, filled, written, key_after, ring_number}
use Rattle.control.specs.Control.{heard, controlled}
use Rattle.soundness.specs.Sound.{rate_ok}
use Rattle.queue.specs.Queue.{is_full}
use Rattle.sender.specs.declared.Sending.{Sending}
use Rattle.sender.specs.Sender.{fresh_sending, queued, emptied, raised}
use Rattle.sender.specs.Wave as wave
use Rattle.refusal.specs.declared.Refusal.{Refusal}
use Rattle.set.specs.declared.Set.{Set}
use Rattle.set.specs.declared.Made.{Made}
use Rattle.set.specs.declared.Typed.{Typed}
use Rattle.set.specs.declared.Lapsed.{Lapsed}
use Rattle.set.specs.declared.Filled.{Filled}
use Rattle.set.specs.Sound.{sound}
use Rattle.set.specs.Refusals.{cause_of_creation, cause_of_sound, cause_of_typing, cause_of_fill, cause_of_queuing, Checked, if_accepted, answered, told}

-- 02, E6: the S12 that a set holds
abbrev pub s12_of : Set → ℕ
s12_of s = s.processor.s12

-- a fresh set: Idle, with the fresh AT processor; 02, E10: and a fresh sender, for which no byte waits
abbrev pub fresh_set : ℕ → Set
fresh_set r = record { rate = r; processor = fresh; session = idle; sending = fresh_sending r }

-- what is typed and what time brings changes the AT processor, the session and the bytes that wait, and nothing else
abbrev pub moved : Set → AtProcessor → Session → Sending → Set
moved s processor session sending = record { rate = s.rate; processor = processor; session = session; sending = sending }

-- 02, E10: "dial, answer and hang-up empty the queue"; a lost carrier is a hang-up
abbrev pub sending_for : Option Control → Sending → Sending
sending_for None x = x
sending_for (Some Dial) x = emptied x
sending_for (Some Answer) x = emptied x
sending_for (Some Hangup) x = emptied x

-- the processor after a call, and what it asks of the call control done; a dial line has these bytes after ATDT
abbrev pub obeyed : Set → Outcome → List ℕ → Set
obeyed s o dialled = moved s o.processor (controlled o.control s.session dialled s.rate) (sending_for o.control s.sending)

-- creation: a rate outside limits gives a fresh set at 8,000
unfoldable pub creation_cause : ℕ → Checked
creation_cause r = cause_of_creation (rate_ok r)

unfoldable pub made : ℕ → Made
made r = record { set = fresh_set (if_accepted (creation_cause r) r 8000); checked = creation_cause r }

-- a typed byte: of the set, the byte, the carrier flag, and the outbox's length, 4 bytes at least
unfoldable pub typing_cause : Set → ℕ → Checked
typing_cause s n = cause_of_typing (sound s) (leb 4 n)

abbrev pub byte_taken : Set → ℕ → Bool → ℕ → Set
byte_taken s byte carrier n =
    let fed = typed_byte s.processor byte (heard s.session carrier) n in
    obeyed s fed.outcome (after_atdt fed)

abbrev pub byte_typed : Set → ℕ → Bool → ℕ → Typed
byte_typed s byte carrier n =
    let fed = typed_byte s.processor byte (heard s.session carrier) n in
    record { set = byte_taken s byte carrier n; reply = fed.outcome.reply; sent = fed.sent }

unfoldable pub typed : Set → ℕ → Bool → ℕ → Result Typed Refusal
typed s byte carrier n = answered (typing_cause s n) (byte_typed s byte carrier n)

-- the outbox: the bytes sent at its front, later ones as they were
unfoldable pub outbox : Set → ℕ → List ℕ → List ℕ
outbox s byte was = if_accepted (typing_cause s (length was)) (put (sent s.processor byte) was) was

-- a lapse of time
unfoldable pub lapse_cause : Set → Checked
lapse_cause s = cause_of_sound (sound s)

abbrev pub time_taken : Set → ℕ → Bool → Set
time_taken s ns carrier =
    let o = lapse s.processor ns (heard s.session carrier) in
    obeyed s o []

abbrev pub time_lapsed : Set → ℕ → Bool → Lapsed
time_lapsed s ns carrier = record { set = time_taken s ns carrier; reply = (lapse s.processor ns (heard s.session carrier)).reply }

unfoldable pub lapsed : Set → ℕ → Bool → Result Lapsed Refusal
lapsed s ns carrier = answered (lapse_cause s) (time_lapsed s ns carrier)

-- forced data mode
unfoldable pub forced_cause : Set → Checked
forced_cause s = cause_of_sound (sound s)

unfoldable pub forced : Set → Result Set Refusal
forced s = answered (forced_cause s) (moved s (forced_data s.processor) s.session s.sending)

-- a fill: of the set and the buffer's length, at most 65,536
unfoldable pub fill_cause : Set → ℕ → Checked
fill_cause s b = cause_of_fill (sound s) (ltb 65536 b)

-- state 3 is the line up
abbrev pub is_up_in : SessionState → Bool
is_up_in state = eqb (state_number state) 3

abbrev pub is_up : Session → Bool
is_up s = is_up_in s.state

-- 02, E10: "fresh oscillator at the moment the line goes up"
abbrev pub raised_if : (up : Bool) → Sending → ℕ → Sending
raised_if true x r = raised x r
raised_if false x r = x

-- "In Connected a fill now plays our own originate sender", and the session stays as it is. By whether the line was up before the fill, and is after it
abbrev pub sending_after : (was is : Bool) → Sending → (b r : ℕ) → Sending
sending_after true is x b r = wave.after b x
sending_after false is x b r = raised_if is x r

abbrev pub filled_set : Set → ℕ → Set
filled_set s b =
    let next = filled s.session b s.rate in
    moved s s.processor next (sending_after (is_up s.session) (is_up next) s.sending b s.rate)

-- 02, E8: with the key of its last sample
abbrev pub samples_filled : Set → ℕ → Filled
samples_filled s b = record { set = filled_set s b; key = key_after s.session b s.rate }

unfoldable pub fill : Set → ℕ → Result Filled Refusal
fill s b = answered (fill_cause s b) (samples_filled s b)

abbrev pub written_if : (up : Bool) → Set → ℕ → List Float
written_if true s b = wave.samples b s.sending
written_if false s b = written s.session b s.rate

unfoldable pub buffer : Set → List Float → List Float
buffer s was = if_accepted (fill_cause s (length was)) (written_if (is_up s.session) s (length was)) was

-- 02, E10: "A new call queues a byte in any state, up to 256 waiting"
unfoldable pub queuing_cause : Set → Checked
queuing_cause s = cause_of_queuing (sound s) (is_full s.sending.queue)

unfoldable pub byte_queued : Set → ℕ → Result Set Refusal
byte_queued s byte = answered (queuing_cause s) (moved s s.processor s.session (queued s.sending byte))

-- the ring reported: it is worked out, so the set is checked
unfoldable pub ring_cause : Set → Checked
ring_cause s = cause_of_sound (sound s)

unfoldable pub rung : Set → Result ℕ Refusal
rung s = answered (ring_cause s) (ring_number s.session)

-- ---- the set that a call leaves: the one that it hands out, or the caller's own where it is declined; and what else is told of its answer
abbrev pub set_typed : Set → Result Typed Refusal → Set
set_typed s answer = told (λ (a : Typed). a.set) s answer

abbrev pub reply_typed : Result Typed Refusal → Reply
reply_typed answer = told (λ (a : Typed). a.reply) reply.None answer

abbrev pub sent_typed : Result Typed Refusal → ℕ
sent_typed answer = told (λ (a : Typed). a.sent) 0 answer

abbrev pub set_lapsed : Set → Result Lapsed Refusal → Set
set_lapsed s answer = told (λ (a : Lapsed). a.set) s answer

abbrev pub reply_lapsed : Result Lapsed Refusal → Reply
reply_lapsed answer = told (λ (a : Lapsed). a.reply) reply.None answer

abbrev pub set_filled : Set → Result Filled Refusal → Set
set_filled s answer = told (λ (a : Filled). a.set) s answer

abbrev pub key_filled : Result Filled Refusal → Option Key
key_filled answer = told (λ (a : Filled). a.key) None answer

abbrev pub set_left : Set → Result Set Refusal → Set
set_left s answer = told (λ (a : Set). a) s answer
