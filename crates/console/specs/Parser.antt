-- No part of 01, but how a line of calls is read byte by byte: what the parser holds after some bytes of a line (`parsed_of`), and what a byte does then, by the
-- definition of lines.
use Rattle.std.specs.Prelude.{ℕ, Bool, true, false, Option, None}
use mathlib.Core.List.{List, [], ◌∷◌, ◌++◌}
use Rattle.console.specs.declared.lines.Call.{Call}
use Rattle.console.specs.declared.lines.Parser.{Parser}
use Rattle.console.specs.Lines.{is, numbers_call}
use Rattle.console.specs.Fields.{lettered, pushed, read_of, asked_by_letter}

-- after the bytes of a line so far
abbrev pub parsed_of : Bool → List ℕ → Parser
parsed_of extended line = record { extended = extended; line = read_of 3 lettered line }

-- the call, if the line ends there
abbrev pub answer_of : Parser → Option Call
answer_of p = asked_by_letter (numbers_call p.extended) p.line

-- a byte more: the line feed ends the line, and the next begins
abbrev pub pushed_if : (feed : Bool) → Parser → ℕ → Parser
pushed_if true p b = parsed_of p.extended []
pushed_if false p b = record { extended = p.extended; line = pushed 3 p.line b }

abbrev pub pushed_of : Parser → ℕ → Parser
pushed_of p b = pushed_if (is "\n" b) p b

abbrev pub if_feed : (feed : Bool) → Option Call → Option Call
if_feed true call = call
if_feed false call = None

-- the bytes of the line after it
abbrev pub line_if : (feed : Bool) → List ℕ → ℕ → List ℕ
line_if true line b = []
line_if false line b = line ++ b ∷ []
