-- The lines of the program `bill`: milliseconds, and perhaps a comma and the start, in decimal digits. A number too long for 64 bits is the largest of
-- them, which is above either limit. What a field and its number are, the specs of `console` say.
use Rattle.std.specs.Prelude.{ℕ, ◌-◌, ◌^◌, min, List, [], ◌∷◌, Option, None, Some}
use Rattle.console.specs.Lines.{numbers_line}
use Rattle.console.specs.Fields.{numbered, pushed, read_of, asked_by_numbers}
use Rattle.bill.specs.declared.lines.Line.{Line}
use Rattle.bill.specs.declared.lines.Asked.{Asked}
use Rattle.bill.specs.declared.lines.Asked.TheVariants.{Time, From}

abbrev pub largest : ℕ
largest = 2 ^ 64 - 1

-- by how many numbers there are
unfoldable pub numbers_asked : List ℕ → Option Asked
numbers_asked [] = None
numbers_asked (ms ∷ []) = Some (Time (min ms largest))
numbers_asked (ms ∷ start ∷ []) = Some (From (min ms largest) (min start largest))
numbers_asked (ms ∷ start ∷ n ∷ ns) = None

-- a line: its fields are numbers
unfoldable pub asked_of : List ℕ → Option Asked
asked_of line = numbers_line numbers_asked line

-- ---- how it is read: after the bytes of a line so far, after one byte more, and what the line asks for if it ends there
abbrev pub line_of : List ℕ → Line
line_of line = record { fields = read_of 2 numbered line }

abbrev pub next_of : Line → ℕ → Line
next_of l b = record { fields = pushed 2 l.fields b }

abbrev pub answer_of : Line → Option Asked
answer_of l = asked_by_numbers numbers_asked l.fields
