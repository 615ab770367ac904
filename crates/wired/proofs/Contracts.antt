-- The theorem over the calls' own contracts: `Asked` and `Learnt` are made by the toolchain from a function's `requires` and `ensures`, so that a
-- contract that says less is refused here. A list of calls that did what those promise is one of Trace.antt. Assumes nothing.
use Rattle.std.proofs.Common.{ℕ, Bool, List, [], ◌∷◌, Float}
use Rattle.std.specs.Prelude.{Result}
use Rattle.refusal.specs.declared.Refusal.{Refusal}
use contract.Lifetimes.{Lfts}
use denote.MutBor.{MutBor}
use denote.Ref.{at_last}
use Rattle.claim.specs.Expand as expand
use Rattle.claim.proofs.Contracts.{lent}
use Rattle.uart.specs.declared.Chip.{Chip}
use Rattle.uart.specs.declared.Read.{Read}
use Rattle.uart.specs.declared.Written.{Written}
use Rattle.uart.specs.declared.Fill.{Fill}
use Rattle.uart.specs.Chip as uart
use Rattle.uart.proofs.Chip.read.Reads as read
use Rattle.uart.proofs.Chip.write.Reads as write
use Rattle.uart.proofs.Chip.lapse.Reads as lapse
use Rattle.uart.proofs.Chip.fill.Reads as fill
use Rattle.uart.proofs.Reading.{read_is, write-is, lapse-is, fill_is}
use Rattle.wired.specs.Trace as trace
use Rattle.wired.specs.Trace.{Event, read_event, write_event, wait_event, fill_event, chip_of}
use Rattle.wired.specs.Wired.{Served}
use Rattle.wired.proofs.Wired.{serves}
use Rattle.wired.proofs.Lists.{Act, made, every-list, acts}

-- the event is that of a call on the chip c, which was allowed, and did what its contract promises
pub data Did (c : Chip) : Event → Type 0 where
  reading : (address : ℕ) (answer : Result Read Refusal)
      → read.Asked tt (c, (address, tt))
      → read.Learnt tt (c, (address, tt)) answer (c, (address, tt))
      → Did c (read_event c address answer)
  writing : (address value : ℕ) (carrier : Bool) (κs : Lfts 1) (out : MutBor (List ℕ)) (left : List ℕ) (answer : Result Written Refusal)
      → write.Asked κs (c, (address, (value, (carrier, (out, tt)))))
      → write.Learnt κs (c, (address, (value, (carrier, (out, tt))))) answer (c, (address, (value, (carrier, (at_last out left, tt)))))
      → Did c (write_event c address value carrier out.now left answer)
  waiting : (ns : ℕ) (carrier : Bool) (answer : Result Chip Refusal)
      → lapse.Asked tt (c, (ns, (carrier, tt)))
      → lapse.Learnt tt (c, (ns, (carrier, tt))) answer (c, (ns, (carrier, tt)))
      → Did c (wait_event c ns carrier answer)
  filling : (κs : Lfts 1) (out : MutBor (List Float)) (left : List Float) (answer : Result Fill Refusal)
      → fill.Asked κs (c, (out, tt))
      → fill.Learnt κs (c, (out, tt)) answer (c, (at_last out left, tt))
      → Did c (fill_event c out.now left answer)

-- each call gets the chip that the one before returned
abbrev pub Trace : Chip → List Event → Type 0
Trace c es = expand.History chip_of Did c es

did : (c : Chip) (e : Event) → Did c e → trace.Did c e
did c e (reading address answer asked learnt) = trace.reading address answer ((read_is c address).1 answer learnt)
did c e (writing address value carrier κs out left answer asked learnt) =
    trace.writing address value carrier out.now left answer ((write-is c address value carrier κs out).1 left answer learnt)
did c e (waiting ns carrier answer asked learnt) = trace.waiting ns carrier answer ((lapse-is c ns carrier).1 answer learnt)
did c e (filling κs out left answer asked learnt) = trace.filling out.now left answer ((fill_is c κs out).1 left answer learnt)

pub history : (c : Chip) (es : List Event) → Trace c es → trace.Trace c es
history c [] t = tt
history c (e ∷ es) (d, t) = (did c e d, history e.chip es t)

-- 02, E13, of every list of calls that did what their contracts promise
pub serves-of-contracts : (rate : ℕ) (es : List Event) → Trace (uart.started rate).chip es → Served (uart.started rate).chip es
serves-of-contracts rate es t = serves rate es (history _ es t)

-- ---- and back: each list of Trace.antt is one of calls that are allowed and did what their contracts promise, whatever memory is lent
did-back : Lfts 1 → (c : Chip) (e : Event) → trace.Did c e → Did c e
did-back κs c e (trace.reading address answer d) = reading address answer tt d
did-back κs c e (trace.writing address value carrier was left answer d) = writing address value carrier κs (lent was) left answer tt d
did-back κs c e (trace.waiting ns carrier answer d) = waiting ns carrier answer tt d
did-back κs c e (trace.filling was left answer d) = filling κs (lent was) left answer tt d

pub history-back : Lfts 1 → (c : Chip) (es : List Event) → trace.Trace c es → Trace c es
history-back κs c [] t = tt
history-back κs c (e ∷ es) (d, t) = (did-back κs c e d, history-back κs e.chip es t)

-- so the theorem over the contracts is not empty: every list of calls has a trace, and the worked list is one
pub every-list-of-contracts : (κs : Lfts 1) (c : Chip) (acts : List Act) → Trace c (made c acts)
every-list-of-contracts κs c acts = history-back κs c (made c acts) (every-list c acts)

pub worked-of-contracts : Lfts 1 → Trace (uart.started 8000).chip (made (uart.started 8000).chip acts)
worked-of-contracts κs = every-list-of-contracts κs (uart.started 8000).chip acts
