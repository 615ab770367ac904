-- 02, E13: "that register table", kept from the rate r, the calls and their arguments alone, over the claim's book. It never reads the chip.
use Rattle.std.specs.Prelude.{ℕ, zero, suc, Bool, true, false, not, ◌||◌, List, [], ◌∷◌, ◌++◌, leb, ltb, eqb, length, take, drop, get_or, Option}
use Rattle.ascii.specs.Front.{put}
use Rattle.std.specs.declared.option.Option.TheVariants as option
use Rattle.keys.specs.declared.Key.{Key}
use Rattle.reply.specs.declared.Reply.{Reply}
use Rattle.reply.specs.declared.Reply.TheVariants.{None}
use Rattle.at.specs.At.{sent}
use Rattle.control.specs.Control.{heard_in}
use Rattle.set.specs.Refusals.{either}
use Rattle.set.specs.Book.{Call, typing, time, filling, Book, blank, declined_with, key_answered, fed_by, lapsed_by, entered}
use Rattle.uart.specs.declared.Registers.{Registers}
use Rattle.uart.specs.Inbox.{text_of_reply}
use Rattle.uart.specs.Registers.{reset_registers, identification, pending_after, settled, with_pending, delta_read, stored, value_at}

-- a read's address; a write's address, value, carrier flag and outbox length; a lapse's nanoseconds and carrier flag; a fill's buffer length
pub data Ask : Type 0 where
  to_read : (address : ℕ) → Ask
  to_write : (address value : ℕ) (carrier : Bool) (room : ℕ) → Ask
  to_wait : (ns : ℕ) (carrier : Bool) → Ask
  to_fill : (b : ℕ) → Ask

-- the claim's book of the set inside; what the registers hold; the text that waits, and whether some was lost
pub record Table : Type 0 where
  pub book : Book
  pub registers : Registers
  pub text : List ℕ
  pub overrun : Bool

-- "at first all is as after the sheet's master reset"
abbrev pub reset : (r : ℕ) → Table
reset r = record { book = blank r; registers = reset_registers; text = []; overrun = false }

-- ---- what a call makes of the set: a write to 0 types, a lapse lapses, a fill fills; no other call reaches it
abbrev pub calls_of : Ask → List Call
calls_of (to_read address) = []
calls_of (to_write zero value carrier room) = typing value carrier room ∷ []
calls_of (to_write (suc address) value carrier room) = []
calls_of (to_wait ns carrier) = time ns carrier ∷ []
calls_of (to_fill b) = filling b ∷ []

-- ---- the number that a call is declined with, 0 for none: "an address above 7 gives 15", then what a typed byte or a fill declines
abbrev pub unless_above7 : (address number : ℕ) → ℕ
unless_above7 address number = either (leb address 7) number 15

abbrev pub write_number : (address : ℕ) → Table → ℕ → Bool → ℕ → ℕ
write_number zero t value carrier room = declined_with t.book (typing value carrier room)
write_number (suc address) t value carrier room = 0

abbrev pub declined_by : Table → Ask → ℕ
declined_by t (to_read address) = unless_above7 address 0
declined_by t (to_write address value carrier room) = unless_above7 address (write_number address t value carrier room)
declined_by t (to_wait ns carrier) = 0
declined_by t (to_fill b) = declined_with t.book (filling b)

-- ---- what is read: of the first byte waiting, whether text waits, overrun, and DCD, "the carrier flag last handed in .., false in Idle"; above 7 it is 0
abbrev pub waits : Table → Bool
waits t = not (eqb (length t.text) 0)

abbrev pub value_in : Table → ℕ → ℕ
value_in t address =
    value_at t.registers (get_or t.text 0 0) (waits t) t.overrun (heard_in t.book.state t.registers.flag) address

abbrev pub value_by : Table → Ask → ℕ
value_by t (to_read address) = value_in t address
value_by t (to_write address value carrier room) = 0
value_by t (to_wait ns carrier) = 0
value_by t (to_fill b) = 0

-- ---- what else a call answers: a byte that is typed and not declined sends what the book's AT processor sends, into the front of the outbox; 02, E8: a
-- fill has the book's key
abbrev pub if_typed : {X : Type 0} → Table → ℕ → Bool → ℕ → X → X → X
if_typed t value carrier room next was = either (eqb (declined_with t.book (typing value carrier room)) 0) next was

abbrev pub sent_by : Table → Ask → ℕ
sent_by t (to_read address) = 0
sent_by t (to_write zero value carrier room) = if_typed t value carrier room (fed_by t.book value carrier room).sent 0
sent_by t (to_write (suc address) value carrier room) = 0
sent_by t (to_wait ns carrier) = 0
sent_by t (to_fill b) = 0

abbrev pub outbox_by : Table → Ask → List ℕ → List ℕ
outbox_by t (to_read address) was = was
outbox_by t (to_write zero value carrier room) was = if_typed t value carrier room (put (sent t.book.processor value) was) was
outbox_by t (to_write (suc address) value carrier room) was = was
outbox_by t (to_wait ns carrier) was = was
outbox_by t (to_fill b) was = was

abbrev pub key_by : ℕ → Table → Ask → Option Key
key_by r t (to_read address) = option.None
key_by r t (to_write address value carrier room) = option.None
key_by r t (to_wait ns carrier) = option.None
key_by r t (to_fill b) = key_answered r t.book (filling b)

-- ---- what a read leaves: the first byte waiting leaves; transmitter empty is given; overrun ends; DCD's delta ends
abbrev pub given : Table → ℕ
given t = identification t.registers.enable t.overrun (waits t) t.registers.pending t.registers.delta

abbrev pub with_registers : Registers → Table → Table
with_registers g t = record { book = t.book; registers = g; text = t.text; overrun = t.overrun }

unfoldable pub after_read : Table → ℕ → Table
after_read t address =
    get_or
    (record { book = t.book; registers = t.registers; text = drop 1 t.text; overrun = t.overrun }
    ∷ t
    ∷ with_registers (with_pending (pending_after (given t) t.registers.pending) t.registers) t
    ∷ t
    ∷ t
    ∷ record { book = t.book; registers = t.registers; text = t.text; overrun = false }
    ∷ with_registers (delta_read t.registers) t
    ∷ t
    ∷ [])
    address
    t

-- ---- the set moved on: the book's next entry; its reply's text, by the S12 of then, "waits in 256 places ..; where it would run over, its last bytes are
-- lost and overrun is set"
abbrev pub joined_by : Table → Reply → Book → List ℕ
joined_by t reply k = t.text ++ text_of_reply reply k.processor.s12

abbrev pub moved_on : Table → Book → Reply → Bool → Table
moved_on t k reply flag =
    record {
      book = k;
      registers = settled t.registers t.book.state k.state flag;
      text = take 256 (joined_by t reply k);
      overrun = t.overrun || ltb 256 (length (joined_by t reply k));
    }

-- ---- what a write leaves: a byte that is typed makes transmitter empty pending; a declined one hands in no flag
abbrev pub now_pending : Table → Table
now_pending t = with_registers (with_pending true t.registers) t

abbrev pub typed_on : ℕ → Table → ℕ → Bool → ℕ → Table
typed_on r t value carrier room =
    now_pending (moved_on t (entered r t.book (typing value carrier room)) (fed_by t.book value carrier room).outcome.reply carrier)

abbrev pub written_to : (address : ℕ) → ℕ → Table → ℕ → Bool → ℕ → Table
written_to zero r t value carrier room = if_typed t value carrier room (typed_on r t value carrier room) t
written_to (suc address) r t value carrier room = with_registers (stored t.registers (suc address) value) t

abbrev pub next : ℕ → Table → Ask → Table
next r t (to_read address) = after_read t address
next r t (to_write address value carrier room) = either (leb address 7) (written_to address r t value carrier room) t
next r t (to_wait ns carrier) = moved_on t (entered r t.book (time ns carrier)) (lapsed_by t.book ns carrier).reply carrier
next r t (to_fill b) = moved_on t (entered r t.book (filling b)) None t.registers.flag

abbrev pub table_after : ℕ → Table → List Ask → Table
table_after r t [] = t
table_after r t (ask ∷ asks) = table_after r (next r t ask) asks
