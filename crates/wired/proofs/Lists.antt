-- The theorem is not empty: every list of register calls, lapses and fills, whatever is lent to them, has a trace, from every chip. And a worked list: AT
-- and CR through the transmit register, the answer read by data interrupts, and a dial line with the carrier up. By the calls' definitions and the theorem.
-- Assumes nothing.
use Prim.Native.String.{String}
use Prim.Native.Nat.{ℕ}
use mathlib.Core.Path.{◌≡◌, refl, ap, subst, ◌∙◌}
use mathlib.Core.Bool.{Bool, true, false}
use mathlib.Core.List.{List, [], ◌∷◌, ◌++◌, map}
use lib.Ieee.{Float}
use lib.ListN.{length, replicate}
use Rattle.ascii.specs.Ascii.{ascii}
use Rattle.ascii.specs.Upper.{upper}
use Rattle.keys.specs.Keys.{digits_of, keys_of, is_key, key_row}
use Rattle.command.specs.Line.{pushed, uppercased}
use Rattle.command.specs.Command.{begins, is, command_of}
use Rattle.reply.specs.Texts.{text_of}
use Rattle.at.specs.Command.{executed}
use Rattle.at.specs.At.{ended, command_byte, typed_byte}
use Rattle.set.specs.Refusals.{accepted}
use Rattle.soundness.specs.Sound.{rate_ok}
use Rattle.set.specs.Set as set
use Rattle.set.specs.Book.{entry_of, entered}
use Rattle.uart.specs.declared.Chip.{Chip}
use Rattle.uart.specs.Inbox.{text_of_reply}
use Rattle.uart.specs.Registers.{identification, line_status, modem_status, with_enable, stored, value_at}
use Rattle.uart.specs.Chip as uart
use Rattle.wired.specs.Table.{Ask, to_read, to_write, to_wait, to_fill, Table, reset, value_by, after_read, next}
use Rattle.wired.specs.Trace.{Event, read_event, write_event, wait_event, fill_event, reading, writing, waiting, filling, Trace}
use Rattle.wired.specs.Wired.{AllAnswered}
use Rattle.wired.proofs.Reading.{ask_of}
use Rattle.wired.proofs.Wired.{serves}

-- a call to be made, with what is lent to it
pub data Act : Type 0 where
  read : (address : ℕ) → Act
  write : (address value : ℕ) (carrier : Bool) (outbox : List ℕ) → Act
  wait : (ns : ℕ) (carrier : Bool) → Act
  fill : (buffer : List Float) → Act

-- what comes of the calls, made on the chip c
abbrev pub made_by : Chip → Act → Event
made_by c (read address) = read_event c address (uart.read c address)
made_by c (write address value carrier was) =
    write_event c address value carrier was (uart.outbox c address value was) (uart.write c address value carrier (length was))
made_by c (wait ns carrier) = wait_event c ns carrier (uart.lapsed c ns carrier)
made_by c (fill was) = fill_event c was (uart.buffer c was) (uart.filled c (length was))

abbrev pub made : Chip → List Act → List Event
made c [] = []
made c (act ∷ acts) = made_by c act ∷ made (made_by c act).chip acts

pub every-list : (c : Chip) (acts : List Act) → Trace c (made c acts)
every-list c [] = tt
every-list c (read address ∷ acts) = (reading address (uart.read c address) refl, every-list (made_by c (read address)).chip acts)
every-list c (write address value carrier was ∷ acts) = (
  writing address value carrier was (uart.outbox c address value was) (uart.write c address value carrier (length was)) (refl, refl),
  every-list (made_by c (write address value carrier was)).chip acts,
)
every-list c (wait ns carrier ∷ acts) = (waiting ns carrier (uart.lapsed c ns carrier) refl, every-list (made_by c (wait ns carrier)).chip acts)
every-list c (fill was ∷ acts) =
    (filling was (uart.buffer c was) (uart.filled c (length was)) (refl, refl), every-list (made_by c (fill was)).chip acts)

-- what the table is told of it
abbrev pub asked_by : Act → Ask
asked_by (read address) = to_read address
asked_by (write address value carrier was) = to_write address value carrier (length was)
asked_by (wait ns carrier) = to_wait ns carrier
asked_by (fill was) = to_fill (length was)

asked_of : (c : Chip) (acts : List Act) → map ask_of (made c acts) ≡ map asked_by acts
asked_of c [] = refl
asked_of c (read address ∷ acts) = ap (λ (l : List Ask). to_read address ∷ l) (asked_of (made_by c (read address)).chip acts)
asked_of c (write address value carrier was ∷ acts) =
    ap (λ (l : List Ask). to_write address value carrier (length was) ∷ l) (asked_of (made_by c (write address value carrier was)).chip acts)
asked_of c (wait ns carrier ∷ acts) = ap (λ (l : List Ask). to_wait ns carrier ∷ l) (asked_of (made_by c (wait ns carrier)).chip acts)
asked_of c (fill was ∷ acts) = ap (λ (l : List Ask). to_fill (length was) ∷ l) (asked_of (made_by c (fill was)).chip acts)

-- the values of a list's calls, and the table's
abbrev value_of : Event → ℕ
value_of e = e.value

abbrev pub values_by : ℕ → Table → List Ask → List ℕ
values_by r t [] = []
values_by r t (ask ∷ asks) = value_by t ask ∷ values_by r (next r t ask) asks

values-are : (r : ℕ) (c : Chip) (t : Table) (es : List Event) → AllAnswered r c t es → map value_of es ≡ values_by r t (map ask_of es)
values-are r c t [] told = refl
values-are r c t (e ∷ es) (answered, rest) = rw (answered.value, values-are r e.chip (next r t e.ask) es rest)

-- ---- the worked list, at 8,000, each byte with an outbox of four
abbrev typing : String → Bool → List Act
typing text carrier = map (λ (byte : ℕ). write 0 byte carrier (replicate 4 0)) (ascii text)

-- all four interrupts enabled; AT and CR; OK, CR and LF read, each by a data interrupt; then transmitter empty is given once, and nothing waits; a dial
-- line with the carrier up raises DCD, which modem status tells once
abbrev pub acts : List Act
acts =
    write 1 15 false []
    ∷ typing "AT\r" false
    ++ (read 2
    ∷ read 0
    ∷ read 0
    ∷ read 0
    ∷ read 0
    ∷ read 2
    ∷ read 2
    ∷ read 0
    ∷ typing "ATDT1\r" true
    ++ (read 6 ∷ read 6 ∷ read 5 ∷ read 2 ∷ read 9 ∷ []))

table-reads : values_by 8000 (reset 8000) (map asked_by acts) ≡ 0 ∷ 0 ∷ 0 ∷ 0 ∷ 4 ∷ 79 ∷ 75 ∷ 13 ∷ 10 ∷ 2 ∷ 1 ∷ 0 ∷ 0 ∷ 0 ∷ 0 ∷ 0 ∷ 0 ∷ 0 ∷ 184 ∷ 176 ∷ 97 ∷ 4 ∷ 0 ∷ []
unfolding after_read entered entry_of typed_byte command_byte ended pushed upper uppercased begins is command_of executed digits_of keys_of is_key key_row accepted text_of text_of_reply identification line_status modem_status with_enable stored value_at
table-reads = refl

pub record Worked : Type 0 where
  pub trace : Trace (uart.started 8000).chip (made (uart.started 8000).chip acts)
  pub reads : map value_of (made (uart.started 8000).chip acts)
      ≡ 0 ∷ 0 ∷ 0 ∷ 0 ∷ 4 ∷ 79 ∷ 75 ∷ 13 ∷ 10 ∷ 2 ∷ 1 ∷ 0 ∷ 0 ∷ 0 ∷ 0 ∷ 0 ∷ 0 ∷ 0 ∷ 184 ∷ 176 ∷ 97 ∷ 4 ∷ 0 ∷ []

-- at 8,000, as creation hands it out
rate-is : (uart.started 8000).chip.set.rate ≡ 8000
unfolding uart.started set.made set.creation_cause rate_ok accepted
rate-is = refl

pub worked : Worked
worked =
    let c = (uart.started 8000).chip in
    record {
      trace = every-list c acts;
      reads =
          let told : AllAnswered 8000 c (reset 8000) (made c acts) = subst (λ (r : ℕ). AllAnswered r c (reset r) (made c acts)) rate-is (serves 8000 (made c acts) (every-list c acts)).answered in
          values-are 8000 c (reset 8000) (made c acts) told ∙ ap (values_by 8000 (reset 8000)) (asked_of c acts) ∙ table-reads;
    }
