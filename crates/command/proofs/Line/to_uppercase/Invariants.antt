-- `command::Line::to_uppercase` meets its contract: the bytes done, followed by those to come raised, are all of them raised. Assumes nothing.
use mathlib.Core.Path.{◌≡◌}
use mathlib.Core.List.{◌++◌, map}
use lib.ListN.{take, drop}
use Rattle.ascii.specs.Upper.{upper}
use Rattle.command.proofs.Line.to_uppercase.Given as goal

abbrev pub invariant-loop-byte : goal.invariant-loop-byte
invariant-loop-byte l = take l.byte-index l.byte-items ++ map upper (drop l.byte-index l.byte-items) ≡ map upper l.self.bytes
