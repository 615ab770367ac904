-- 02, E6: the processor as it was before S12: "All three guard comparisons" use 1 s, and no line is an S12 line. 01's definitions over the same
-- record, of which they read no S12.
use Rattle.std.specs.Prelude.{ℕ, List, [], Option, Some, None, Bool, true, false, ◌&&◌, ◌||◌, leb, ltb, eqb}
use Prim.Native.Char.{code}
use Rattle.command.specs.declared.Line.{Line}
use Rattle.command.specs.declared.Command.{Command}
use Rattle.command.specs.declared.Command.TheVariants.{At, Atz, Ati, Ata, Ath, Ato, Atdt, AskS12, SetS12}
use Rattle.command.specs.Line.{empty_line, typed, ran_over, pushed, uppercased}
use Rattle.command.specs.Command.{read, lines01, command_of}
use Rattle.at.specs.declared.AtProcessor.{AtProcessor}
use Rattle.at.specs.declared.Outcome.{Outcome}
use Rattle.at.specs.declared.Fed.{Fed}
use Rattle.at.specs.Processor.{command_mode, line_of, pluses, with_line, with_escape, added}
use Rattle.at.specs.Answer.{quiet, answered}
use Rattle.at.specs.Command.{executed}
use Rattle.at.specs.Escape.{released_if, data_byte_if, escaped_if}
use Rattle.at.specs.Carrier.{polled}

-- 1 s
abbrev pub one_second : ℕ
one_second = 1_000_000_000

-- 01's commands
unfoldable pub command_before : Line → Option Command
command_before l = read (ran_over l) None (lines01 (typed l) None)

-- 01's data mode
unfoldable pub withheld_before : AtProcessor → ℕ → Bool
withheld_before p byte =
    eqb byte (code "+")
    && ((eqb (pluses p) 0 && leb one_second p.idle)
    || ((eqb (pluses p) 1 || eqb (pluses p) 2) && leb p.idle one_second))

abbrev pub released_before : AtProcessor → ℕ → List ℕ
released_before p byte = released_if (withheld_before p byte) p byte

abbrev pub data_byte_before : AtProcessor → ℕ → ℕ → Fed
data_byte_before p byte room = data_byte_if (withheld_before p byte) (ltb (pluses p) room) p

unfoldable pub escaped_before : AtProcessor → AtProcessor
escaped_before p = escaped_if (eqb (pluses p) 3 && leb one_second p.idle) p

abbrev pub waited_before_if : Bool → AtProcessor → ℕ → AtProcessor
waited_before_if true p ns = p
waited_before_if false p ns = escaped_before (with_escape (pluses p) (added p.idle ns) p)

-- 01's line that CR ends
abbrev pub ended_before_if : Bool → AtProcessor → Bool → Fed
ended_before_if true p carrier = quiet p
ended_before_if false p carrier =
    answered (uppercased (line_of p)) (executed (command_before (uppercased (line_of p))) carrier (with_line empty_line p))

abbrev pub command_byte_before_if : Bool → Bool → AtProcessor → ℕ → Bool → Fed
command_byte_before_if true cr p byte carrier = quiet p
command_byte_before_if false true p byte carrier = ended_before_if (eqb (line_of p).len 0) p carrier
command_byte_before_if false false p byte carrier = quiet (with_line (pushed (line_of p) byte) p)

-- 01's typed byte, the bytes that it sends, and 01's lapse
abbrev pub typed_byte_before_if : Bool → AtProcessor → ℕ → Bool → ℕ → Fed
typed_byte_before_if true p byte carrier room = command_byte_before_if (eqb byte (code "\n")) (eqb byte (code "\r")) p byte carrier
typed_byte_before_if false p byte carrier room = data_byte_before p byte room

unfoldable pub typed_byte_before : AtProcessor → ℕ → Bool → ℕ → Fed
typed_byte_before p byte carrier room = typed_byte_before_if (command_mode p) p byte carrier room

abbrev pub sent_before_if : Bool → AtProcessor → ℕ → List ℕ
sent_before_if true p byte = []
sent_before_if false p byte = released_before p byte

unfoldable pub sent_before : AtProcessor → ℕ → List ℕ
sent_before p byte = sent_before_if (command_mode p) p byte

unfoldable pub lapse_before : AtProcessor → ℕ → Bool → Outcome
lapse_before p ns carrier = polled (waited_before_if (command_mode p) p ns) ns carrier

-- ---- an S12 line: one that sets it or asks for it. The other lines that begin so are ERROR, as in 01
abbrev pub of_s12 : Option Command → Bool
of_s12 (Some AskS12) = true
of_s12 (Some (SetS12 n)) = true
of_s12 (Some At) = false
of_s12 (Some Atz) = false
of_s12 (Some Ati) = false
of_s12 (Some Ata) = false
of_s12 (Some Ath) = false
of_s12 (Some Ato) = false
of_s12 (Some Atdt) = false
of_s12 None = false

-- a typed byte that ends one
unfoldable pub ends_s12_line : AtProcessor → ℕ → Bool
ends_s12_line p byte = command_mode p && (eqb byte (code "\r") && of_s12 (command_of (uppercased (line_of p))))
