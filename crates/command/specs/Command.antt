-- 01, "The AT processor", and 02, E6: which command a line is, once uppercased.
use Rattle.std.specs.Prelude.{ℕ, ◌+◌, ◌-◌, ◌*◌, List, [], ◌∷◌, Bool, true, false, ◌&&◌, length, drop, leb, eqb, Option, Some, None}
use Prim.Native.Char.{code}
use Rattle.ascii.specs.Ascii.{ascii}
use Rattle.command.specs.declared.Line.{Line}
use Rattle.command.specs.declared.Command.{Command}
use Rattle.command.specs.declared.Command.TheVariants.{At, Atz, Ati, Ata, Ath, Ato, Atdt, AskS12, SetS12}
use Rattle.command.specs.Line.{typed, ran_over}

-- a line that begins with a text, and one that is the text
unfoldable pub begins : List ℕ → List ℕ → Bool
begins [] line = true
begins (t ∷ text) [] = false
begins (t ∷ text) (b ∷ line) = eqb b t && begins text line

unfoldable pub is : List ℕ → List ℕ → Bool
is text line = eqb (length line) (length text) && begins text line

-- this command if the test holds, else what is read next
abbrev pub read : Bool → Option Command → Option Command → Option Command
read true this next = this
read false this next = next

-- 01's lines, and what any other is
abbrev pub lines01 : List ℕ → Option Command → Option Command
lines01 line other =
    read (is (ascii "AT") line) (Some At)
    (read (is (ascii "ATZ") line) (Some Atz)
    (read (is (ascii "ATI") line) (Some Ati)
    (read (is (ascii "ATA") line) (Some Ata)
    (read (is (ascii "ATH") line) (Some Ath)
    (read (is (ascii "ATH0") line) (Some Ath)
    (read (is (ascii "ATO") line) (Some Ato)
    (read (is (ascii "ATO0") line) (Some Ato)
    (read (begins (ascii "ATDT") line) (Some Atdt) other))))))))

-- 02, E6: n with one to three decimal digits up to 255
abbrev pub is_digit : ℕ → Bool
is_digit b = leb (code "0") b && leb b (code "9")

unfoldable pub all_digits : List ℕ → Bool
all_digits [] = true
all_digits (b ∷ bytes) = is_digit b && all_digits bytes

unfoldable pub value_from : ℕ → List ℕ → ℕ
value_from v [] = v
value_from v (b ∷ bytes) = value_from (v * 10 + (b - code "0")) bytes

abbrev pub up_to255 : List ℕ → Bool
up_to255 n = all_digits n && leb (value_from 0 n) 255

-- the number that digits up to 255 are
abbrev pub number_if : Bool → ℕ → Option ℕ
number_if true n = Some n
number_if false n = None

abbrev pub number_in : List ℕ → Option ℕ
number_in n = number_if (up_to255 n) (value_from 0 n)

unfoldable pub is_setting : List ℕ → Bool
is_setting n = (leb 1 (length n) && leb (length n) 3) && up_to255 n

-- what stands after ATS12=
unfoldable pub setting_of : List ℕ → Option Command
setting_of n = read (is_setting n) (Some (SetS12 (value_from 0 n))) None

-- ATS12=n sets it, ATS12? asks for it; other forms ERROR
abbrev pub lines_s12 : List ℕ → Option Command
lines_s12 line =
    read (is (ascii "ATS12?") line) (Some AskS12)
    (read (begins (ascii "ATS12=") line) (setting_of (drop 6 line)) None)

-- 02, E1: a line that ran over is none of these
unfoldable pub command_of : Line → Option Command
command_of l = read (ran_over l) None (lines01 (typed l) (lines_s12 (typed l)))
