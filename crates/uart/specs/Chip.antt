-- 02, E13: the chip, and its calls: read, write, lapse, fill. Causes are checked in 02's order; a declined call changes nothing.
use Rattle.std.specs.Prelude.{ℕ, zero, suc, Bool, true, false, not, ◌&&◌, List, [], ◌∷◌, leb, get_or, Float, Option, Result, Ok, Err}
use Rattle.std.specs.declared.option.Option.TheVariants as option
use Rattle.keys.specs.declared.Key.{Key}
use Rattle.queue.specs.Queue.{is_empty, oldest, queue_ok}
use Rattle.reply.specs.declared.Reply.{Reply}
use Rattle.reply.specs.declared.Reply.TheVariants.{None}
use Rattle.control.specs.Control.{heard_in}
use Rattle.refusal.specs.declared.Refusal.{Refusal}
use Rattle.refusal.specs.declared.Refusal.TheVariants.{Unsound, Address}
use Rattle.set.specs.declared.Set.{Set}
use Rattle.set.specs.declared.Typed.{Typed}
use Rattle.set.specs.declared.Lapsed.{Lapsed}
use Rattle.set.specs.declared.Filled.{Filled}
use Rattle.set.specs.Refusals.{told}
use Rattle.set.specs.Sound as soundness
use Rattle.set.specs.Set as set
use Rattle.uart.specs.declared.Chip.{Chip}
use Rattle.uart.specs.declared.Start.{Start}
use Rattle.uart.specs.declared.Read.{Read}
use Rattle.uart.specs.declared.Written.{Written}
use Rattle.uart.specs.declared.Fill.{Fill}
use Rattle.uart.specs.Inbox.{text_of_reply, empty_inbox, received, read_out, overrun_read}
use Rattle.uart.specs.Registers.{reset_registers, identification, pending_after, settled, with_pending, delta_read, stored, value_at}

-- ---- "at first all is as after the sheet's master reset"; a rate outside limits gives 1 and a fresh set at 8,000, as creation does
abbrev pub fresh : Set → Chip
fresh s = record { set = s; registers = reset_registers; inbox = empty_inbox }

unfoldable pub started : ℕ → Start
started r = record { chip = fresh (set.made r).set; checked = (set.made r).checked }

-- ---- "More than 256 text bytes waiting is unsound"; and so is a chip whose set is
unfoldable pub sound : Chip → Bool
sound c = soundness.sound c.set && queue_ok c.inbox.queue

-- ---- "After each call DCD is the carrier flag last handed in with a typed byte or lapse, false in Idle"
abbrev pub dcd : Chip → Bool
dcd c = heard_in c.set.session.state c.registers.flag

-- ---- the set moved on, with its reply, whose text is by the S12 that it then holds, and with the flag last handed in
abbrev pub moved : Chip → Set → Reply → Bool → Chip
moved c s reply flag =
    record {
      set = s;
      registers = settled c.registers c.set.session.state s.session.state flag;
      inbox = received c.inbox (text_of_reply reply (set.s12_of s));
    }

-- ---- a read: 6, 15; "a declined read gives 0"
abbrev pub waits : Chip → Bool
waits c = not (is_empty c.inbox.queue)

-- what identification reads
abbrev pub identification_of : Chip → ℕ
identification_of c = identification c.registers.enable c.inbox.overrun (waits c) c.registers.pending c.registers.delta

abbrev pub value_of : Chip → ℕ → ℕ
value_of c address = value_at c.registers (oldest c.inbox.queue) (waits c) c.inbox.overrun (dcd c) address

-- what reading does: text leaves; transmitter empty is given; overrun ends; DCD's delta ends
abbrev pub text_read : Chip → Chip
text_read c = record { set = c.set; registers = c.registers; inbox = read_out c.inbox }

abbrev pub identified : Chip → Chip
identified c =
    record {
      set = c.set;
      registers = with_pending (pending_after (identification_of c) c.registers.pending) c.registers;
      inbox = c.inbox;
    }

abbrev pub line_status_read : Chip → Chip
line_status_read c = record { set = c.set; registers = c.registers; inbox = overrun_read c.inbox }

abbrev pub modem_status_read : Chip → Chip
modem_status_read c = record { set = c.set; registers = delta_read c.registers; inbox = c.inbox }

unfoldable pub chip_after : Chip → ℕ → Chip
chip_after c address =
    get_or
    (text_read c
    ∷ c
    ∷ identified c
    ∷ c
    ∷ c
    ∷ line_status_read c
    ∷ modem_status_read c
    ∷ c
    ∷ [])
    address
    c

abbrev pub read_if : (ok known : Bool) → Chip → ℕ → Result Read Refusal
read_if false known c address = Err Unsound
read_if true false c address = Err Address
read_if true true c address = Ok (record { chip = chip_after c address; value = value_of c address })

unfoldable pub read : Chip → ℕ → Result Read Refusal
read c address = read_if (sound c) (leb address 7) c address

-- ---- a write: 6, 15; to 0, "a transmitted byte is typed into the set, with a carrier flag and outbox as in any typed call": its causes
-- "the transmit holding register is empty when that call returns; its interrupt is then pending"
abbrev pub emptied : Chip → Chip
emptied c = record { set = c.set; registers = with_pending true c.registers; inbox = c.inbox }

abbrev pub transmitted : Chip → Bool → Result Typed Refusal → Result Written Refusal
transmitted c carrier (Ok t) = Ok (record { chip = emptied (moved c t.set t.reply carrier); sent = t.sent })
transmitted c carrier (Err cause) = Err cause

-- to 1 to 7; "the flag handed in" with such a write is none
abbrev pub written : Chip → (address value : ℕ) → Written
written c address value =
    record {
      chip = record { set = c.set; registers = stored c.registers address value; inbox = c.inbox };
      sent = 0;
    }

abbrev pub write_to : (address : ℕ) → Chip → (value : ℕ) → Bool → (room : ℕ) → Result Written Refusal
write_to zero c value carrier n = transmitted c carrier (set.typed c.set value carrier n)
write_to (suc address) c value carrier n = Ok (written c (suc address) value)

abbrev pub write_if : (ok known : Bool) → Chip → (address value : ℕ) → Bool → (room : ℕ) → Result Written Refusal
write_if false known c address value carrier n = Err Unsound
write_if true false c address value carrier n = Err Address
write_if true true c address value carrier n = write_to address c value carrier n

unfoldable pub write : Chip → (address value : ℕ) → Bool → (room : ℕ) → Result Written Refusal
write c address value carrier n = write_if (sound c) (leb address 7) c address value carrier n

-- the outbox: as the typed call leaves it, else as it was
abbrev pub outbox_to : (address : ℕ) → Chip → (value : ℕ) → List ℕ → List ℕ
outbox_to zero c value was = set.outbox c.set value was
outbox_to (suc address) c value was = was

abbrev pub outbox_if : (ok known : Bool) → Chip → (address value : ℕ) → List ℕ → List ℕ
outbox_if false known c address value was = was
outbox_if true false c address value was = was
outbox_if true true c address value was = outbox_to address c value was

unfoldable pub outbox : Chip → (address value : ℕ) → List ℕ → List ℕ
outbox c address value was = outbox_if (sound c) (leb address 7) c address value was

-- ---- a lapse: 6
abbrev pub lapse_taken : Chip → Bool → Result Lapsed Refusal → Result Chip Refusal
lapse_taken c carrier (Ok l) = Ok (moved c l.set l.reply carrier)
lapse_taken c carrier (Err cause) = Err cause

abbrev pub lapse_if : (ok : Bool) → Chip → ℕ → Bool → Result Chip Refusal
lapse_if false c ns carrier = Err Unsound
lapse_if true c ns carrier = lapse_taken c carrier (set.lapsed c.set ns carrier)

unfoldable pub lapsed : Chip → ℕ → Bool → Result Chip Refusal
lapsed c ns carrier = lapse_if (sound c) c ns carrier

-- ---- a fill: 6, then the set's causes; no flag is handed in. 02, E8: with the key of its last sample
abbrev pub fill_taken : Chip → Result Filled Refusal → Result Fill Refusal
fill_taken c (Ok f) = Ok (record { chip = moved c f.set None c.registers.flag; key = f.key })
fill_taken c (Err cause) = Err cause

abbrev pub fill_if : (ok : Bool) → Chip → ℕ → Result Fill Refusal
fill_if false c b = Err Unsound
fill_if true c b = fill_taken c (set.fill c.set b)

unfoldable pub filled : Chip → ℕ → Result Fill Refusal
filled c b = fill_if (sound c) c b

abbrev pub buffer_if : (ok : Bool) → Chip → List Float → List Float
buffer_if false c was = was
buffer_if true c was = set.buffer c.set was

unfoldable pub buffer : Chip → List Float → List Float
buffer c was = buffer_if (sound c) c was

-- ---- the chip that a call leaves: the one that it hands out, or the caller's own where it is declined; and what else is told: "a declined read gives 0"
abbrev pub chip_read : Chip → Result Read Refusal → Chip
chip_read c answer = told (λ (a : Read). a.chip) c answer

abbrev pub value_read : Result Read Refusal → ℕ
value_read answer = told (λ (a : Read). a.value) 0 answer

abbrev pub chip_written : Chip → Result Written Refusal → Chip
chip_written c answer = told (λ (a : Written). a.chip) c answer

abbrev pub sent_written : Result Written Refusal → ℕ
sent_written answer = told (λ (a : Written). a.sent) 0 answer

abbrev pub chip_left : Chip → Result Chip Refusal → Chip
chip_left c answer = told (λ (a : Chip). a) c answer

abbrev pub chip_filled : Chip → Result Fill Refusal → Chip
chip_filled c answer = told (λ (a : Fill). a.chip) c answer

abbrev pub key_filled : Result Fill Refusal → Option Key
key_filled answer = told (λ (a : Fill). a.key) option.None answer
