-- 02, E10: "our own originate sender: mark 1270, space 1070, amplitude 0.7, .. mark outside frames". One sample of it, and what it has
-- become after that sample, with the bytes that wait for it.
use Rattle.std.specs.Prelude.{ℕ, ◌+◌, Bool, true, false, ◌&&◌, ltb, Float, get_or}
use Rattle.math.specs.Float.{of_nat}
use Rattle.frame.specs.Frame.{frame_of}
use Rattle.fsk.specs.declared.Modulator.{Modulator}
use Rattle.fsk.specs.Modulator as fsk
use Rattle.queue.specs.declared.Queue.{Queue}
use Rattle.queue.specs.Queue.{empty_queue, is_empty, oldest, popped, pushed}
use Rattle.sender.specs.declared.Sender.{Sender}
use Rattle.sender.specs.declared.Sending.{Sending}

-- a modulator of bits on these two tones, of amplitude 0.7 as in FSK stages
abbrev pub mark : Float
mark = of_nat 1270

abbrev pub space : Float
space = of_nat 1070

abbrev pub fresh_modulator : ℕ → Modulator
fresh_modulator r = fsk.fresh_modulator mark space r true

abbrev pub keyed : Modulator → Bool → Modulator
keyed m bit = fsk.keyed m mark space bit

-- "fresh oscillator at the moment the line goes up"; "the sender's first sample is an edge"; no frame is begun
unfoldable pub fresh_sender : ℕ → Sender
fresh_sender r = record { modulator = fresh_modulator r; byte = 0; begun = 0; edge = true }

-- that sender, and no byte waiting
abbrev pub fresh_sending : ℕ → Sending
fresh_sending r = record { sender = fresh_sender r; queue = empty_queue }

-- ---- an edge
-- some of its frame's ten bits are begun, and not all
abbrev pub unfinished : ℕ → Bool
unfinished begun = ltb 0 begun && ltb begun 10

-- "A frame begins at each symbol edge that finds a byte waiting and no frame unfinished, and only there": so an edge sends the next bit of
-- the unfinished frame, or the first bit of a new one, or mark
pub data Choice : Type 0 where
  onward : Choice
  anew : Choice
  idle : Choice

abbrev pub choice_by : (unfinished empty : Bool) → Choice
choice_by true empty = onward
choice_by false false = anew
choice_by false true = idle

unfoldable pub choice_of : Sending → Choice
choice_of x = choice_by (unfinished x.sender.begun) (is_empty x.queue)

-- bit k of a byte's frame, from 0
abbrev pub frame_bit : ℕ → ℕ → Bool
frame_bit byte k = get_or (frame_of byte) k true

-- the bit that the edge sends
abbrev pub bit_by : Choice → Sending → Bool
bit_by onward x = frame_bit x.sender.byte x.sender.begun
bit_by anew x = frame_bit (oldest x.queue) 0
bit_by idle x = true

-- the byte whose frame is then being sent, and how many of its bits are begun
abbrev pub byte_by : Choice → Sending → ℕ
byte_by onward x = x.sender.byte
byte_by anew x = oldest x.queue
byte_by idle x = x.sender.byte

abbrev pub begun_by : Choice → Sending → ℕ
begun_by onward x = x.sender.begun + 1
begun_by anew x = 1
begun_by idle x = 0

-- "a byte's place is free when its frame begins"
abbrev pub queue_by : Choice → Sending → Queue
queue_by onward x = x.queue
queue_by anew x = popped x.queue
queue_by idle x = x.queue

-- the bit sets the oscillator's step, phase kept
abbrev pub tuned : Sender → Bool → (byte begun : ℕ) → Sender
tuned s bit byte begun = record { modulator = keyed s.modulator bit; byte = byte; begun = begun; edge = s.edge }

abbrev pub chosen_by : Choice → Sending → Sending
chosen_by c x = record { sender = tuned x.sender (bit_by c x) (byte_by c x) (begun_by c x); queue = queue_by c x }

unfoldable pub chosen : Sending → Sending
chosen x = chosen_by (choice_of x) x

-- "when that edge's sample is made": the bit is chosen first
abbrev pub ready_if : Bool → Sending → Sending
ready_if true x = chosen x
ready_if false x = x

unfoldable pub ready : Sending → Sending
ready x = ready_if x.sender.edge x

-- ---- one sample
unfoldable pub sample_next : Sending → Float
sample_next x = fsk.modulator_sample (ready x).sender.modulator

-- then the oscillator steps and, "symbols run as in FSK stages", the symbol clock; where a symbol ends, the next sample is an edge
unfoldable pub ticked : Sender → Sender
ticked s = record { modulator = fsk.next_modulator s.modulator; byte = s.byte; begun = s.begun; edge = fsk.bit_ends s.modulator }

unfoldable pub next : Sending → Sending
next x = record { sender = ticked (ready x).sender; queue = (ready x).queue }

-- ---- a byte is queued
-- "A new call queues a byte in any state": the sender stays as it is
unfoldable pub queued : Sending → ℕ → Sending
queued x byte = record { sender = x.sender; queue = pushed x.queue byte }

-- "dial, answer and hang-up empty the queue"
abbrev pub emptied : Sending → Sending
emptied x = record { sender = x.sender; queue = empty_queue }

-- "fresh oscillator at the moment the line goes up"; what waits, waits on
abbrev pub raised : Sending → ℕ → Sending
raised x r = record { sender = fresh_sender r; queue = x.queue }
