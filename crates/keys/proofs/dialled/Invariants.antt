-- `dialled` meets its contract: the digits of the bytes passed. Assumes nothing.
use Rattle.std.proofs.Common.{◌≡◌, take}
use Rattle.keys.specs.Keys.{dialled_of}
use Rattle.keys.proofs.dialled.Given as goal

abbrev pub invariant-loop-b : goal.invariant-loop-b
invariant-loop-b l = l.digits ≡ dialled_of (take l.b-index l.line)
