-- `console::lines::call_of` meets its contract: after i bytes the parser holds what the first i come to. Assumes nothing.
use Rattle.std.proofs.Common.{◌≡◌, take}
use Rattle.console.specs.Parser.{parsed_of}
use Rattle.console.proofs.lines.call_of.Given as goal

abbrev pub invariant-loop-byte : goal.invariant-loop-byte
invariant-loop-byte l = l.parser ≡ parsed_of l.extended (take l.byte-index l.line)
