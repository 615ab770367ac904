-- A declined call changes nothing: chip, outbox and buffer stay, and a declined read gives 0. A fill that the set declines hands in no flag, so DCD
-- does not change either. By cases on the causes. Assumes nothing.
use Prim.Native.Nat.{ℕ, zero, suc}
use mathlib.Core.Path.{◌≡◌, refl, sym, ap, ◌∙◌}
use mathlib.Core.Bool.{Bool, true, false, or-false, true≢false, and-eq-true_iff}
use mathlib.Core.List.{List}
use lib.Dec.{leb}
use borrow.Author.Tests.{eq-eqb}
use lib.ListN.{length}
use lib.Ieee.{Float}
use Rattle.std.specs.declared.option.Option.TheVariants as option
use Rattle.reply.specs.declared.Reply.TheVariants.{None}
use Rattle.control.specs.Control.{heard_in}
use Rattle.set.specs.declared.Set.{Set}
use Rattle.refusal.specs.declared.Refusal.{Refusal}
use Rattle.set.specs.declared.Typed.{Typed}
use Rattle.set.specs.declared.Filled.{Filled}
use Rattle.std.specs.Prelude.{Result, Ok, Err}
use Rattle.set.specs.Refusals.{Checked, Declined, answered, checked}
use Rattle.set.specs.Sound as soundness
use Rattle.set.specs.Set as set
use Rattle.set.proofs.Unchanged.{unchanged}
use Rattle.uart.specs.declared.Chip.{Chip}
use Rattle.uart.specs.Inbox.{text_of_reply, received}
use Rattle.uart.specs.Registers.{differ}
use Rattle.uart.specs.Chip.{sound, moved, read_if, read, transmitted, write_if, write, outbox_if, outbox, lapse_if, lapsed, fill_taken, fill_if, filled, buffer_if, buffer, chip_read, value_read, chip_written, sent_written, chip_left, chip_filled, key_filled}

same_flag : (b : Bool) → differ b b ≡ false
same_flag true = refl
same_flag false = refl

-- the set stays, and no flag comes
pub at_rest : (c : Chip) → moved c c.set None c.registers.flag ≡ c
unfolding text_of_reply received
at_rest c = rw (same_flag (heard_in c.set.session.state c.registers.flag), or-false c.registers.delta)

-- so where a fill is declined the chip is as if the set had moved on, and no flag had come
pub fill-moves : (c : Chip) (answer : Result Filled Refusal) → chip_filled c (fill_taken c answer) ≡ moved c (set.set_filled c.set answer) None c.registers.flag
fill-moves c (Ok f) = refl
fill-moves c (Err cause) = sym (at_rest c)

module _ (c : Chip) where
  read_by : (ok known : Bool) (address : ℕ) → Declined (checked (read_if ok known c address)) → (chip_read c (read_if ok known c address) ≡ c) × (value_read (read_if ok known c address) ≡ 0)
  read_by false known address cause = (refl, refl)
  read_by true false address cause = (refl, refl)
  read_by true true address cause = absurd (cause refl)

  pub read-declined : (address : ℕ) → Declined (checked (read c address)) → (chip_read c (read c address) ≡ c) × (value_read (read c address) ≡ 0)
  unfolding read
  read-declined address cause = read_by (sound c) (leb address 7) address cause

  transmit_told : (carrier : Bool) (t : Result Typed Refusal) → Declined (checked (transmitted c carrier t))
      → (chip_written c (transmitted c carrier t) ≡ c) × (sent_written (transmitted c carrier t) ≡ 0)
  transmit_told carrier (Ok t) cause = absurd (cause refl)
  transmit_told carrier (Err e) cause = (refl, refl)

  not_taken : (carrier : Bool) (cause : Checked) (t : Typed) → Declined (checked (transmitted c carrier (answered cause t))) → Declined cause
  not_taken carrier (Ok done) t declined = declined
  not_taken carrier (Err e) t declined = declined

  transmit-by : (value : ℕ) (carrier : Bool) (was : List ℕ) → Declined (checked (transmitted c carrier (set.typed c.set value carrier (length was)))) → set.outbox c.set value was ≡ was
  unfolding set.typed set.outbox
  transmit-by value carrier was declined = unchanged (set.typing_cause c.set (length was)) (not_taken carrier (set.typing_cause c.set (length was)) _ declined) _ was

  write-by : (ok known : Bool) (address value : ℕ) (carrier : Bool) (was : List ℕ) → Declined (checked (write_if ok known c address value carrier (length was)))
      → (chip_written c (write_if ok known c address value carrier (length was)) ≡ c)
      × (sent_written (write_if ok known c address value carrier (length was)) ≡ 0)
      × (outbox_if ok known c address value was ≡ was)
  write-by false known address value carrier was cause = (refl, refl, refl)
  write-by true false address value carrier was cause = (refl, refl, refl)
  write-by true true zero value carrier was cause =
      let q = transmit_told carrier (set.typed c.set value carrier (length was)) cause in (q.0, q.1, transmit-by value carrier was cause)
  write-by true true (suc address) value carrier was cause = absurd (cause refl)

  -- a write: no bytes sent, the chip and the outbox as they were
  pub write-declined : (address value : ℕ) (carrier : Bool) (was : List ℕ) → Declined (checked (write c address value carrier (length was)))
      → (chip_written c (write c address value carrier (length was)) ≡ c) × (sent_written (write c address value carrier (length was)) ≡ 0) × (outbox c address value was ≡ was)
  unfolding write outbox
  write-declined address value carrier was cause = write-by (sound c) (leb address 7) address value carrier was cause

  fill_told : (cause : Checked) (f : Filled) → Declined (checked (fill_taken c (answered cause f)))
      → Declined cause × (chip_filled c (fill_taken c (answered cause f)) ≡ c) × (key_filled (fill_taken c (answered cause f)) ≡ option.None)
  fill_told (Ok done) f cause = absurd (cause refl)
  fill_told (Err e) f cause = (cause, refl, refl)

  fill-by : (ok : Bool) (was : List Float) → Declined (checked (fill_if ok c (length was)))
      → (chip_filled c (fill_if ok c (length was)) ≡ c) × (key_filled (fill_if ok c (length was)) ≡ option.None) × (buffer_if ok c was ≡ was)
  unfolding set.fill set.buffer
  fill-by false was cause = (refl, refl, refl)
  fill-by true was cause =
      let q = fill_told (set.fill_cause c.set (length was)) (set.samples_filled c.set (length was)) cause in (q.1, q.2, unchanged (set.fill_cause c.set (length was)) q.0 _ was)

  -- a fill: no key, the chip and the buffer as they were
  pub fill-declined : (was : List Float) → Declined (checked (filled c (length was)))
      → (chip_filled c (filled c (length was)) ≡ c) × (key_filled (filled c (length was)) ≡ option.None) × (buffer c was ≡ was)
  unfolding filled buffer
  fill-declined was cause = fill-by (sound c) was cause

  -- a lapse: the chip as it was; only an unsound one is declined
  lapse-by : (ok : Bool) → sound c ≡ ok → (ns : ℕ) (carrier : Bool) → Declined (checked (lapse_if ok c ns carrier)) → chip_left c (lapse_if ok c ns carrier) ≡ c
  unfolding sound set.lapsed set.lapse_cause
  lapse-by false e ns carrier cause = refl
  lapse-by true e ns carrier cause = absurd ((rw ((and-eq-true_iff (soundness.sound c.set) _).0 e).0 at cause) refl)

  pub lapse-declined : (ns : ℕ) (carrier : Bool) → Declined (checked (lapsed c ns carrier)) → chip_left c (lapsed c ns carrier) ≡ c
  unfolding lapsed
  lapse-declined ns carrier cause = lapse-by (sound c) refl ns carrier cause
