-- 02, E13: "every list of register calls with lapses and fills between". Each call is made on the chip that the one before returned, and did what its own
-- contract promises. And the calls of the set inside that such a list makes.
use Rattle.std.specs.Prelude.{ℕ, zero, suc, ◌≡◌, Bool, List, [], ◌∷◌, Float, length, Option, None, Result}
use Rattle.keys.specs.declared.Key.{Key}
use Rattle.refusal.specs.declared.Refusal.{Refusal}
use Rattle.set.specs.Refusals.{Checked, checked}
use Rattle.set.specs.Set as set
use Rattle.set.specs.Event as inner
use Rattle.set.specs.Event.{Lent, nothing, outbox_of, buffer_of, typed_event, lapsed_event, filled_event}
use Rattle.claim.specs.Expand as expand
use Rattle.uart.specs.declared.Chip.{Chip}
use Rattle.uart.specs.declared.Read.{Read}
use Rattle.uart.specs.declared.Written.{Written}
use Rattle.uart.specs.declared.Fill.{Fill}
use Rattle.uart.specs.Chip as uart
use Rattle.wired.specs.Table.{Ask, to_read, to_write, to_wait, to_fill}

-- a call that was made: as the table is told of it, its answer, and of what was lent to it what it held before and what it was left with. A call that
-- reads, sends or lends nothing says so, and so does a declined one, which hands no chip out: the caller has the one that it had.
pub record Event : Type 0 where
  pub ask : Ask
  pub chip : Chip
  pub refusal : Checked
  pub value : ℕ
  pub sent : ℕ
  pub key : Option Key
  pub lent : Lent
  pub left : Lent

-- a call on the chip c
abbrev pub read_event : Chip → ℕ → Result Read Refusal → Event
read_event c address a =
    record { ask = to_read address; chip = uart.chip_read c a; refusal = checked a; value = uart.value_read a; sent = 0; key = None; lent = nothing; left = nothing }

abbrev pub write_event : Chip → (address value : ℕ) → Bool → (was left : List ℕ) → Result Written Refusal → Event
write_event c address value carrier was left a =
    record {
      ask = to_write address value carrier (length was);
      chip = uart.chip_written c a;
      refusal = checked a;
      value = 0;
      sent = uart.sent_written a;
      key = None;
      lent = outbox_of was;
      left = outbox_of left;
    }

abbrev pub wait_event : Chip → ℕ → Bool → Result Chip Refusal → Event
wait_event c ns carrier a =
    record { ask = to_wait ns carrier; chip = uart.chip_left c a; refusal = checked a; value = 0; sent = 0; key = None; lent = nothing; left = nothing }

abbrev pub fill_event : Chip → (was left : List Float) → Result Fill Refusal → Event
fill_event c was left a =
    record {
      ask = to_fill (length was);
      chip = uart.chip_filled c a;
      refusal = checked a;
      value = 0;
      sent = 0;
      key = uart.key_filled a;
      lent = buffer_of was;
      left = buffer_of left;
    }

-- the event is that of a call on the chip c, which did what its contract promises
pub data Did (c : Chip) : Event → Type 0 where
  reading : (address : ℕ) (answer : Result Read Refusal)
      → answer ≡ uart.read c address
      → Did c (read_event c address answer)
  writing : (address value : ℕ) (carrier : Bool) (was left : List ℕ) (answer : Result Written Refusal)
      → (answer ≡ uart.write c address value carrier (length was)) × (left ≡ uart.outbox c address value was)
      → Did c (write_event c address value carrier was left answer)
  waiting : (ns : ℕ) (carrier : Bool) (answer : Result Chip Refusal)
      → answer ≡ uart.lapsed c ns carrier
      → Did c (wait_event c ns carrier answer)
  filling : (was left : List Float) (answer : Result Fill Refusal)
      → (answer ≡ uart.filled c (length was)) × (left ≡ uart.buffer c was)
      → Did c (fill_event c was left answer)

abbrev pub chip_of : Event → Chip
chip_of e = e.chip

-- each call gets the chip that the one before returned
abbrev pub Trace : Chip → List Event → Type 0
Trace c es = expand.History chip_of Did c es

abbrev pub chip_after : Chip → List Event → Chip
chip_after c es = expand.after chip_of c es

-- ---- the set's calls, with the very outbox and the very buffer that were lent to the chip
abbrev pub inside_by : Ask → Chip → Event → List inner.Event
inside_by (to_read address) c e = []
inside_by (to_write zero value carrier room) c e = typed_event c.set value carrier e.lent.bytes e.left.bytes (set.typed c.set value carrier room) ∷ []
inside_by (to_write (suc address) value carrier room) c e = []
inside_by (to_wait ns carrier) c e = lapsed_event c.set ns carrier (set.lapsed c.set ns carrier) ∷ []
inside_by (to_fill b) c e = filled_event c.set e.lent.samples e.left.samples (set.fill c.set b) ∷ []

abbrev pub inside : Chip → Event → List inner.Event
inside c e = inside_by e.ask c e

abbrev pub all_inside : Chip → List Event → List inner.Event
all_inside c es = expand.all_singles chip_of inside c es

-- "nothing changed, a declined read gives 0"; 0 bytes sent, no key
pub record Unchanged (c : Chip) (e : Event) : Type 0 where
  pub chip : e.chip ≡ c
  pub lent : e.left ≡ e.lent
  pub value : e.value ≡ 0
  pub sent : e.sent ≡ 0
  pub key : e.key ≡ None
