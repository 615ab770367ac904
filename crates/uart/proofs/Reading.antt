-- 02, E13 read off the public calls of the chip, each promise at its full strength, so that one that says less is refused here; and some of the sheet's
-- registers, computed for every chip. Assumes nothing.
use Prim.Native.Nat.{ℕ}
use mathlib.Core.Path.{◌≡◌, refl}
use mathlib.Core.Bool.{Bool, true, false}
use mathlib.Core.List.{List, [], ◌∷◌, map}
use contract.Lifetimes.{Lfts}
use denote.Ref.{MutBor, at_last}
use lib.Ieee.{Float}
use lib.ListN.{length}
use Rattle.at.specs.Processor.{command_mode}
use Rattle.session.specs.declared.SessionState.{SessionState}
use Rattle.session.specs.declared.SessionState.TheVariants.{Idle}
use Rattle.control.specs.Control.{heard_in}
use Rattle.set.specs.declared.Typed.{Typed}
use Rattle.std.specs.Prelude.{Result, Ok, Err}
use Rattle.refusal.specs.declared.Refusal.{Refusal}
use Rattle.refusal.specs.declared.Refusal.TheVariants.{Address}
use Rattle.refusal.specs.Refusal.{number_of}
use Rattle.uart.specs.declared.Registers.{Registers}
use Rattle.uart.specs.declared.Chip.{Chip}
use Rattle.uart.specs.declared.Start.{Start}
use Rattle.uart.specs.declared.Read.{Read}
use Rattle.uart.specs.declared.Written.{Written}
use Rattle.uart.specs.declared.Fill.{Fill}
use Rattle.uart.specs.Registers.{reset_registers, identification, line_status, modem_status, settled, with_enable, stored, value_at}
use Rattle.uart.specs.Chip as chip
use Rattle.uart.proofs.Chip.new.Reads as new
use Rattle.uart.proofs.Chip.sound.Reads as sound
use Rattle.uart.proofs.Chip.dcd.Reads as dcd
use Rattle.uart.proofs.Chip.in_command_mode.Reads as in-command-mode
use Rattle.uart.proofs.Chip.state.Reads as state
use Rattle.uart.proofs.Chip.stage.Reads as stage
use Rattle.uart.proofs.Chip.m.Reads as m
use Rattle.uart.proofs.Chip.read.Reads as read
use Rattle.uart.proofs.Chip.write.Reads as write
use Rattle.uart.proofs.Chip.lapse.Reads as lapse
use Rattle.uart.proofs.Chip.fill.Reads as fill

pub above-7-is-15 : number_of Address ≡ 15
above-7-is-15 = refl

pub starts : (rate : ℕ) → new.Asked tt (rate, tt) × ((a : Start) → new.Learnt tt (rate, tt) a (rate, tt) → a ≡ chip.started rate)
starts rate = (tt, λ a d. d)

-- ---- of every chip, sound or not; no call asks anything
module _ (c : Chip) where
  pub sound-is : sound.Asked tt (c, tt) × ((a : Bool) → sound.Learnt tt (c, tt) a (c, tt) → a ≡ chip.sound c)
  sound-is = (tt, λ a d. d)

  pub dcd-is : dcd.Asked tt (c, tt) × ((a : Bool) → dcd.Learnt tt (c, tt) a (c, tt) → a ≡ heard_in c.set.session.state c.registers.flag)
  dcd-is = (tt, λ a d. d)

  pub mode-is : in-command-mode.Asked tt (c, tt) × ((a : Bool) → in-command-mode.Learnt tt (c, tt) a (c, tt) → a ≡ command_mode c.set.processor)
  mode-is = (tt, λ a d. d)

  pub state-is : state.Asked tt (c, tt) × ((a : SessionState) → state.Learnt tt (c, tt) a (c, tt) → a ≡ c.set.session.state)
  state-is = (tt, λ a d. d)

  pub stage_is : stage.Asked tt (c, tt) × ((a : ℕ) → stage.Learnt tt (c, tt) a (c, tt) → a ≡ c.set.session.shown)
  stage_is = (tt, λ a d. d)

  pub m-is : m.Asked tt (c, tt) × ((a : ℕ) → m.Learnt tt (c, tt) a (c, tt) → a ≡ c.set.session.m)
  m-is = (tt, λ a d. d)

  pub read_is : (address : ℕ)
      → read.Asked tt (c, (address, tt))
      × ((a : Result Read Refusal) → read.Learnt tt (c, (address, tt)) a (c, (address, tt)) → a ≡ chip.read c address)
  read_is address = (tt, λ a d. d)

  pub write-is : (address value : ℕ) (carrier : Bool) (κs : Lfts 1) (out : MutBor (List ℕ))
      → write.Asked κs (c, (address, (value, (carrier, (out, tt)))))
      × ((left : List ℕ) (a : Result Written Refusal)
      → write.Learnt κs (c, (address, (value, (carrier, (out, tt))))) a (c, (address, (value, (carrier, (at_last out left, tt)))))
      → (a ≡ chip.write c address value carrier (length out.now)) × (left ≡ chip.outbox c address value out.now))
  write-is address value carrier κs out = (tt, λ left a d. d)

  pub lapse-is : (ns : ℕ) (carrier : Bool)
      → lapse.Asked tt (c, (ns, (carrier, tt)))
      × ((a : Result Chip Refusal) → lapse.Learnt tt (c, (ns, (carrier, tt))) a (c, (ns, (carrier, tt))) → a ≡ chip.lapsed c ns carrier)
  lapse-is ns carrier = (tt, λ a d. d)

  pub fill_is : (κs : Lfts 1) (out : MutBor (List Float))
      → fill.Asked κs (c, (out, tt))
      × ((left : List Float) (a : Result Fill Refusal) → fill.Learnt κs (c, (out, tt)) a (c, (at_last out left, tt))
      → (a ≡ chip.filled c (length out.now)) × (left ≡ chip.buffer c out.now))
  fill_is κs out = (tt, λ left a d. d)

-- ---- the registers, whatever they hold
-- "line status first, then data, transmitter empty, modem status, none", each only where it is enabled: all four are, and none is
module _ (overrun waits pending delta : Bool) where
  pub line-status-first : identification 15 true waits pending delta ≡ 6
  unfolding identification
  line-status-first = refl

  pub then-data : identification 15 false true pending delta ≡ 4
  unfolding identification
  then-data = refl

  pub then-transmitter-empty : identification 15 false false true delta ≡ 2
  unfolding identification
  then-transmitter-empty = refl

  pub then-modem-status : identification 15 false false false true ≡ 0
  unfolding identification
  then-modem-status = refl

  -- each by its own enable: bit 2, bit 0, bit 1, bit 3
  pub by-its-enable : (identification 4 true waits pending delta ≡ 6)
      × (identification 1 overrun true pending delta ≡ 4)
      × (identification 2 overrun waits true delta ≡ 2)
      × (identification 8 overrun waits pending true ≡ 0)
  unfolding identification
  by-its-enable = (refl, refl, refl, refl)

  pub then-none : (identification 15 false false false false ≡ 1) × (identification 0 overrun waits pending delta ≡ 1)
  unfolding identification
  then-none = (refl, refl)

-- "CTS and DSR read 1, RI 0, their deltas 0"; the transmitter is always empty
pub status-bits : (modem_status false false ≡ 48) × (modem_status true false ≡ 56) × (modem_status false true ≡ 176) × (modem_status true true ≡ 184)
unfolding modem_status
status-bits = (refl, refl, refl, refl)

pub line-bits : (line_status false false ≡ 96) × (line_status false true ≡ 97) × (line_status true false ≡ 98) × (line_status true true ≡ 99)
unfolding line_status
line-bits = (refl, refl, refl, refl)

-- "at first all is as after the sheet's master reset, scratch 0": what 0 to 7 read then
pub reads-after-reset :
    map (value_at reset_registers 0 false false false) (0 ∷ 1 ∷ 2 ∷ 3 ∷ 4 ∷ 5 ∷ 6 ∷ 7 ∷ [])
    ≡ 0 ∷ 0 ∷ 1 ∷ 0 ∷ 0 ∷ 96 ∷ 48 ∷ 0 ∷ []
unfolding value_at identification line_status modem_status
reads-after-reset = refl

module _ (g : Registers) where
  -- of a byte of ones the bits that the sheet keeps
  pub kept-bits : ((stored g 1 255).enable ≡ 15) × ((stored g 3 255).line ≡ 255) × ((stored g 4 255).modem ≡ 31) × ((stored g 7 255).scratch ≡ 255)
  unfolding stored with_enable
  kept-bits = (refl, refl, refl, refl)

  -- transmitter empty is pending "after a write that turns its enable on", and after no other write to 1
  pub turned_on : g.pending ≡ false → g.enable ≡ 13 → (stored g 1 2).pending ≡ true
  unfolding stored with_enable
  turned_on none off = rw (none, off)

  pub not-turned-on : g.pending ≡ false → g.enable ≡ 2 → (stored g 1 15).pending ≡ false
  unfolding stored with_enable
  not-turned-on none on = rw (none, on)

  -- the delta lasts, whatever the flag does
  pub delta-lasts : (before after : SessionState) (flag : Bool) → g.delta ≡ true → (settled g before after flag).delta ≡ true
  delta-lasts before after flag told = rw told

-- "its interrupt is then pending": after every byte that is typed
pub pending-when-typed : (c : Chip) (carrier : Bool) (t : Typed) → (chip.chip_written c (chip.transmitted c carrier (Ok t))).registers.pending ≡ true
pending-when-typed c carrier t = refl

-- "Writes to 2, 5 and 6 .. change nothing"
pub writes_nothing : (g : Registers) (value : ℕ) → (stored g 2 value ≡ g) × (stored g 5 value ≡ g) × (stored g 6 value ≡ g)
unfolding stored
writes_nothing g value = (refl, refl, refl)

-- no flag is a carrier in Idle
pub none-in-idle : (flag : Bool) → heard_in Idle flag ≡ false
none-in-idle flag = refl
