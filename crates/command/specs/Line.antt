-- 01, "The AT processor", and 02, E1: the command line. It holds at most 80 bytes, and remembers that it ran over.
use Rattle.std.specs.Prelude.{ℕ, ◌+◌, List, map, Bool, true, false, ◌&&◌, not, take, set, replicate, leb, ltb}
use Rattle.ascii.specs.Upper.{upper}
use Rattle.command.specs.declared.Line.{Line}

abbrev pub empty_line : Line
empty_line = record { bytes = replicate 80 0; len = 0; ran_over = false }

-- the line's bytes
abbrev pub typed : Line → List ℕ
typed l = take l.len l.bytes

-- the mark
abbrev pub ran_over : Line → Bool
ran_over l = l.ran_over

-- sound: line <= 80; 02, E1: a mark on a line shorter than 80 is unsound
unfoldable pub sound_line : Line → Bool
sound_line l = leb l.len 80 && not (ran_over l && ltb l.len 80)

-- one byte more; 02, E1: a byte that finds 80 there is dropped, and the line remembers that it ran over
abbrev pub pushed_if : Bool → Line → ℕ → Line
pushed_if true l b = record { bytes = set l.bytes l.len b; len = l.len + 1; ran_over = ran_over l }
pushed_if false l b = record { bytes = l.bytes; len = l.len; ran_over = true }

unfoldable pub pushed : Line → ℕ → Line
pushed l b = pushed_if (ltb l.len 80) l b

-- the line, uppercased
unfoldable pub uppercased : Line → Line
uppercased l = record { bytes = map upper l.bytes; len = l.len; ran_over = ran_over l }
