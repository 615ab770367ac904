-- `command::decimal` meets its contract: what is read so far, with what is left, is the number. Assumes nothing.
use Rattle.command.proofs.Digits.{Read}
use Rattle.command.proofs.decimal.Given as goal

abbrev pub invariant-loop-byte : goal.invariant-loop-byte
invariant-loop-byte l = Read l.bytes l.byte-index l.value
