-- A set in memory that a C program lends: seven arrays of plain numbers. 01 does not speak of it; what it owes is that loading what was
-- stored gives the set back, and that memory which holds no set is an unsound set.
use Rattle.std.specs.Prelude.{ℕ, Bool, true, false, ◌&&◌, ◌||◌, cond, List, [], ◌∷◌, leb, ltb, eqb, Float, get_or, Result, Ok, Err}
use Rattle.std.specs.Float.{nan}
use Rattle.math.specs.Float.{zero}
use Rattle.nco.specs.declared.Nco.{Nco}
use Rattle.fsk.specs.declared.FskChannel.{FskChannel}
use Rattle.fsk.specs.Channel.{most_done}
use Rattle.stage.specs.declared.StageState.{StageState}
use Rattle.stage.specs.declared.StageState.TheVariants as at
use Rattle.command.specs.Line.{ran_over}
use Rattle.at.specs.declared.AtProcessor.{AtProcessor}
use Rattle.at.specs.Processor.{command_mode, line_of, pluses, seen, down_time}
use Rattle.sender.specs.declared.Sending.{Sending}
use Rattle.session.specs.declared.SessionState.{SessionState}
use Rattle.session.specs.declared.SessionState.TheVariants.{Idle, Dialling, Answering, Connected}
use Rattle.session.specs.Session.{state_number}
use Rattle.refusal.specs.declared.Refusal.{Refusal}
use Rattle.set.specs.declared.Set.{Set}
use Rattle.set.specs.Set.{s12_of, fresh_set}
use Rattle.gibbonplate.specs.declared.memory.Memory.{Memory}
use Rattle.gibbonplate.specs.declared.plain.PlainStage.{PlainStage}

-- longs: the line's length, the idle time, the down time, the number of digits, the stage's own number, the bytes waiting
-- counts: the rate, m, the stage's samples or bits done, Cj's zeros
-- reals: two oscillators; the sender's, and its symbol clock's phase and step
-- marks: the mode, pluses held, the carrier-seen mark, the state, the shown stage; the stage, its ring, whether in tone; whether the line ran over; S12;
--   the sender's byte, its bits begun, whether the next sample is an edge
-- line: its 80 bytes; keys: the 76 places of the digits; queue: the 256 of the bytes that wait
abbrev pub memory : List ℕ → List ℕ → List Float → List ℕ → List ℕ → List ℕ → List ℕ → Memory
memory longs counts reals marks line keys queue =
    record { longs = longs; counts = counts; reals = reals; marks = marks; line = line; keys = keys; queue = queue }

-- ---- the state of a stage, as numbers
abbrev pub no_nco : Nco
no_nco = record { phase = zero; step = zero; rate = zero }

abbrev pub blank : ℕ → PlainStage
blank number = record { number = number; own = 0; count = 0; zeros = 0; ring = 0; tone = false; a = no_nco; b = no_nco }

-- the symbol clock stands where a second oscillator would
abbrev pub bits_plain : ℕ → FskChannel → ℕ → PlainStage
bits_plain number f zeros =
    record { number = number; own = 0; count = f.done; zeros = zeros; ring = 0; tone = false; a = f.modulator.nco; b = record { phase = f.modulator.phase; step = f.modulator.step; rate = zero } }

abbrev pub tones_plain : ℕ → Nco → Nco → ℕ → ℕ → PlainStage
tones_plain number a b n ring = record { number = number; own = 0; count = n; zeros = 0; ring = ring; tone = false; a = a; b = b }

abbrev pub plain : StageState → PlainStage
plain (at.OffHook rng n) = record { number = 1; own = rng; count = n; zeros = 0; ring = 0; tone = false; a = no_nco; b = no_nco }
plain (at.DialTone a b n) = tones_plain 2 a b n 0
plain (at.Dialling i on a b n) = record { number = 3; own = i; count = n; zeros = 0; ring = 0; tone = on; a = a; b = b }
plain (at.Ringback a b n ring) = tones_plain 4 a b n ring
plain (at.Ci f) = bits_plain 5 f 0
plain (at.Ansam c e n) = tones_plain 6 c e n 0
plain (at.CmJm f) = bits_plain 7 f 0
plain (at.Cj f z) = bits_plain 8 f z
plain (at.Training f) = bits_plain 9 f 0
plain at.Connected = tones_plain 10 no_nco no_nco 0 0

-- 02, E5: bits done have 16 bits. What these cannot hold is taken for their largest, which is above the end of every stage.
unfoldable pub done_in : ℕ → ℕ
done_in count = cond (leb count most_done) count most_done

abbrev pub bits_of : PlainStage → FskChannel
bits_of p = record { modulator = record { nco = p.a; phase = p.b.phase; step = p.b.step }; done = done_in p.count }

-- the states that a stage's number may name
abbrev pub stages : PlainStage → List StageState
stages p =
    at.Connected
    ∷ at.OffHook p.own p.count
    ∷ at.DialTone p.a p.b p.count
    ∷ at.Dialling p.own p.tone p.a p.b p.count
    ∷ at.Ringback p.a p.b p.count p.ring
    ∷ at.Ci (bits_of p)
    ∷ at.Ansam p.a p.b p.count
    ∷ at.CmJm (bits_of p)
    ∷ at.Cj (bits_of p) p.zeros
    ∷ at.Training (bits_of p)
    ∷ []

-- by the stage's number; another number is taken for 10
unfoldable pub staged : PlainStage → StageState
staged p = get_or (stages p) p.number at.Connected

-- by the state's number; another number is taken for 0
abbrev pub state_at : ℕ → SessionState
state_at number = get_or (Idle ∷ Dialling ∷ Answering ∷ Connected ∷ []) number Idle

-- ---- the set as numbers
abbrev pub flag : Bool → ℕ
flag on = cond on 1 0

abbrev pub marks_of : Set → List ℕ
marks_of s =
    flag (command_mode s.processor)
    ∷ pluses s.processor
    ∷ flag (seen s.processor)
    ∷ state_number s.session.state
    ∷ s.session.shown
    ∷ (plain s.session.stage).number
    ∷ (plain s.session.stage).ring
    ∷ flag (plain s.session.stage).tone
    ∷ flag (ran_over (line_of s.processor))
    ∷ s12_of s
    ∷ s.sending.sender.byte
    ∷ s.sending.sender.begun
    ∷ flag s.sending.sender.edge
    ∷ []

unfoldable pub stored : Set → Memory
stored s =
    record {
      longs = (line_of s.processor).len ∷ s.processor.idle ∷ down_time s.processor ∷ s.session.digits.len ∷ (plain s.session.stage).own ∷ s.sending.queue.len ∷ [];
      counts = s.rate ∷ s.session.m ∷ (plain s.session.stage).count ∷ (plain s.session.stage).zeros ∷ [];
      reals =
          (plain s.session.stage).a.phase ∷ (plain s.session.stage).a.step ∷ (plain s.session.stage).a.rate
          ∷ (plain s.session.stage).b.phase ∷ (plain s.session.stage).b.step ∷ (plain s.session.stage).b.rate
          ∷ s.sending.sender.modulator.nco.phase ∷ s.sending.sender.modulator.nco.step ∷ s.sending.sender.modulator.nco.rate
          ∷ s.sending.sender.modulator.phase ∷ s.sending.sender.modulator.step ∷ [];
      marks = marks_of s;
      line = (line_of s.processor).bytes;
      keys = s.session.digits.keys;
      queue = s.sending.queue.bytes;
    }

-- ---- the set that memory holds
-- flags are 0 or 1, the state is 0 to 3, the stage 1 to 10
abbrev pub holds_set : List ℕ → Bool
holds_set marks =
    leb (get_or marks 0 0) 1
    && (leb (get_or marks 2 0) 1
    && (leb (get_or marks 3 0) 3
    && (leb 1 (get_or marks 5 0)
    && (leb (get_or marks 5 0) 10
    && (leb (get_or marks 7 0) 1
    && (leb (get_or marks 8 0) 1 && leb (get_or marks 12 0) 1))))))

-- the stage is Ci, CmJm, Cj or Training, and its bits done are more than 16 bits can hold: an unsound set
abbrev pub sends_bits : ℕ → Bool
sends_bits number = eqb number 5 || (eqb number 7 || (eqb number 8 || eqb number 9))

abbrev pub too_many_bits : List ℕ → List ℕ → Bool
too_many_bits counts marks = sends_bits (get_or marks 5 0) && ltb most_done (get_or counts 2 0)

abbrev pub plain_in : List ℕ → List ℕ → List Float → List ℕ → PlainStage
plain_in longs counts reals marks =
    record {
      number = get_or marks 5 0;
      own = get_or longs 4 0;
      count = get_or counts 2 0;
      zeros = get_or counts 3 0;
      ring = get_or marks 6 0;
      tone = eqb (get_or marks 7 0) 1;
      a = record { phase = get_or reals 0 nan; step = get_or reals 1 nan; rate = get_or reals 2 nan };
      b = record { phase = get_or reals 3 nan; step = get_or reals 4 nan; rate = get_or reals 5 nan };
    }

abbrev pub processor_in : List ℕ → List ℕ → List ℕ → AtProcessor
processor_in longs marks line =
    record {
      in_command_mode = eqb (get_or marks 0 0) 1;
      cmd_buf = record { bytes = line; len = get_or longs 0 0; ran_over = eqb (get_or marks 8 0) 1 };
      idle = get_or longs 1 0;
      plus_count = get_or marks 1 0;
      carrier_up = eqb (get_or marks 2 0) 1;
      carrier_down_for = get_or longs 2 0;
      s12 = get_or marks 9 0;
    }

abbrev pub sending_in : List ℕ → List Float → List ℕ → List ℕ → Sending
sending_in longs reals marks queue =
    record {
      sender =
          record {
            modulator =
                record {
                  nco = record { phase = get_or reals 6 nan; step = get_or reals 7 nan; rate = get_or reals 8 nan };
                  phase = get_or reals 9 nan;
                  step = get_or reals 10 nan;
                };
            byte = get_or marks 10 0;
            begun = get_or marks 11 0;
            edge = eqb (get_or marks 12 0) 1;
          };
      queue = record { bytes = queue; len = get_or longs 5 0 };
    }

unfoldable pub set_in : Memory → Set
set_in m =
    record {
      rate = get_or m.counts 0 0;
      processor = processor_in m.longs m.marks m.line;
      session =
          record {
            state = state_at (get_or m.marks 3 0);
            digits = record { keys = m.keys; len = get_or m.longs 3 0 };
            m = get_or m.counts 1 0;
            shown = get_or m.marks 4 0;
            stage = staged (plain_in m.longs m.counts m.reals m.marks);
          };
      sending = sending_in m.longs m.reals m.marks m.queue;
    }

-- memory that holds no set is a fresh set at rate 0, which is unsound
abbrev pub loaded_if : Bool → Memory → Set
loaded_if false m = fresh_set 0
loaded_if true m = set_in m

unfoldable pub loaded : Memory → Set
loaded m = loaded_if (holds_set m.marks) m

-- after a call: where it is accepted, the set that it answers; where it is declined, as it was
abbrev pub kept : {X : Type 0} → (X → Set) → Result X Refusal → Memory → Memory
kept set_of (Ok answer) was = stored (set_of answer)
kept set_of (Err cause) was = was
