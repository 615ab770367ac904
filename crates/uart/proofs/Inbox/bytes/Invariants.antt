-- `Inbox::bytes` meets its contract. The invariant: what has come, with the rest still to come, is what comes in all. Assumes nothing.
use mathlib.Core.Path.{◌≡◌}
use lib.ListN.{drop}
use Rattle.uart.specs.Inbox.{received}
use Rattle.uart.proofs.Inbox.bytes.Given as goal

abbrev pub invariant-loop-byte : goal.invariant-loop-byte
invariant-loop-byte l = received l.self (drop l.byte-index l.text) ≡ received l.initial.self l.text
