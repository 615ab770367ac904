-- 01, "The AT processor": a typed byte, a lapse of time, forced data mode. 02, E1: a line that ran over is no command, and CR empties it.
use Rattle.std.specs.Prelude.{ℕ, List, [], Bool, true, false, drop, eqb}
use Prim.Native.Char.{code}
use Rattle.command.specs.Line.{empty_line, typed, pushed, uppercased}
use Rattle.command.specs.Command.{command_of}
use Rattle.at.specs.declared.AtProcessor.{AtProcessor}
use Rattle.at.specs.declared.Outcome.{Outcome}
use Rattle.at.specs.declared.Fed.{Fed}
use Rattle.at.specs.Processor.{command_mode, line_of, with_line, online}
use Rattle.at.specs.Answer.{quiet, answered}
use Rattle.at.specs.Command.{executed}
use Rattle.at.specs.Escape.{released, data_byte, waited}
use Rattle.at.specs.Carrier.{polled}

-- CR on an empty line: nothing; other CR: the line, uppercased, leaves the buffer
abbrev pub ended_if : Bool → AtProcessor → Bool → Fed
ended_if true p carrier = quiet p
ended_if false p carrier =
    answered (uppercased (line_of p)) (executed (command_of (uppercased (line_of p))) carrier (with_line empty_line p))

unfoldable pub ended : AtProcessor → Bool → Fed
ended p carrier = ended_if (eqb (line_of p).len 0) p carrier

-- LF is dropped; CR ends the line; any other byte joins it, or runs over
abbrev pub command_byte_if : Bool → Bool → AtProcessor → ℕ → Bool → Fed
command_byte_if true cr p byte carrier = quiet p
command_byte_if false true p byte carrier = ended p carrier
command_byte_if false false p byte carrier = quiet (with_line (pushed (line_of p) byte) p)

unfoldable pub command_byte : AtProcessor → ℕ → Bool → Fed
command_byte p byte carrier = command_byte_if (eqb byte (code "\n")) (eqb byte (code "\r")) p byte carrier

-- a typed byte, by the mode, with an outbox of `room` bytes
abbrev pub typed_byte_if : Bool → AtProcessor → ℕ → Bool → ℕ → Fed
typed_byte_if true p byte carrier room = command_byte p byte carrier
typed_byte_if false p byte carrier room = data_byte p byte room

unfoldable pub typed_byte : AtProcessor → ℕ → Bool → ℕ → Fed
typed_byte p byte carrier room = typed_byte_if (command_mode p) p byte carrier room

-- the bytes that it puts into the outbox
abbrev pub sent_if : Bool → AtProcessor → ℕ → List ℕ
sent_if true p byte = []
sent_if false p byte = released p byte

unfoldable pub sent : AtProcessor → ℕ → List ℕ
sent p byte = sent_if (command_mode p) p byte

-- a dial line's bytes after ATDT, uppercased
abbrev pub after_atdt : Fed → List ℕ
after_atdt fed = drop 4 (typed fed.line)

-- a lapse of time: data mode's idle and escape; then, in either mode, the carrier
unfoldable pub lapse : AtProcessor → ℕ → Bool → Outcome
lapse p ns carrier = polled (waited p ns) ns carrier

-- forced data mode is online; an unfinished line stays
unfoldable pub forced_data : AtProcessor → AtProcessor
forced_data p = online p
