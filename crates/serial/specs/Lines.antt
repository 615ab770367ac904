-- The lines of the program `serial`: `R,rate`, `I,address`, `O,address,value,carrier` with perhaps `,outbox`, `W,ns,carrier`, `F,length`, the numbers in
-- decimal digits; other lines ask for nothing. What a field and its number are, the specs of `console` say.
use Rattle.std.specs.Prelude.{ℕ, ◌-◌, ◌^◌, min, Bool, true, false, ◌&&◌, List, [], ◌∷◌, leb, ltb, eqb, Option, None, Some}
use Rattle.console.specs.Lines.{is, letter_line}
use Rattle.console.specs.Fields.{lettered, pushed, read_of, asked_by_letter}
use Rattle.serial.specs.declared.lines.Line.{Line}
use Rattle.serial.specs.declared.lines.Asked.{Asked}
use Rattle.serial.specs.declared.lines.Asked.TheVariants.{Rate, Read, Write, Lapse, Fill}

-- R: a rate too long for the type is the type's largest, and so outside the limits
abbrev pub rate_asked : ℕ → Option Asked
rate_asked n = Some (Rate (min n (2 ^ 32 - 1)))

-- I: likewise an address, and so above 7
abbrev pub address_of : ℕ → ℕ
address_of n = min n 255

abbrev pub read_asked : ℕ → Option Asked
read_asked n = Some (Read (address_of n))

-- F: at most 16,384
abbrev pub fill_if : Bool → ℕ → Option Asked
fill_if true n = Some (Fill n)
fill_if false n = None

unfoldable pub fill_asked : ℕ → Option Asked
fill_asked n = fill_if (leb n 16384) n

-- W: nanoseconds of 64 bits, a carrier flag 0 or 1
abbrev pub lapse_if : Bool → (ns carrier : ℕ) → Option Asked
lapse_if true ns carrier = Some (Lapse ns (eqb carrier 1))
lapse_if false ns carrier = None

unfoldable pub lapse_asked : (ns carrier : ℕ) → Option Asked
lapse_asked ns carrier = lapse_if (ltb ns (2 ^ 64) && leb carrier 1) ns carrier

-- O: a value at most 255, a carrier flag, an outbox at most 16 long, 16 where the line names none
abbrev pub write_if : Bool → (address value carrier outbox : ℕ) → Option Asked
write_if true address value carrier outbox = Some (Write (address_of address) value (eqb carrier 1) outbox)
write_if false address value carrier outbox = None

unfoldable pub write_of : (address value carrier outbox : ℕ) → Option Asked
write_of address value carrier outbox = write_if (leb value 255 && (leb carrier 1 && leb outbox 16)) address value carrier outbox

abbrev pub if_is : Bool → Option Asked → Option Asked
if_is true asked = asked
if_is false asked = None

unfoldable pub write_asked : (letter address value carrier outbox : ℕ) → Option Asked
write_asked letter address value carrier outbox = if_is (is "O" letter) (write_of address value carrier outbox)

abbrev pub one_if : (is_r is_i is_f : Bool) → ℕ → Option Asked
one_if true is_i is_f n = rate_asked n
one_if false true is_f n = read_asked n
one_if false false true n = fill_asked n
one_if false false false n = None

unfoldable pub one_asked : (letter number : ℕ) → Option Asked
one_asked letter n = one_if (is "R" letter) (is "I" letter) (is "F" letter) n

unfoldable pub two_asked : (letter ns carrier : ℕ) → Option Asked
two_asked letter ns carrier = if_is (is "W" letter) (lapse_asked ns carrier)

-- by how many numbers follow the letter
unfoldable pub numbers_asked : (letter : ℕ) → List ℕ → Option Asked
numbers_asked letter [] = None
numbers_asked letter (n ∷ []) = one_asked letter n
numbers_asked letter (n ∷ m ∷ []) = two_asked letter n m
numbers_asked letter (n ∷ m ∷ o ∷ []) = write_asked letter n m o 16
numbers_asked letter (n ∷ m ∷ o ∷ p ∷ []) = write_asked letter n m o p
numbers_asked letter (n ∷ m ∷ o ∷ p ∷ q ∷ ns) = None

-- a line: its first field is one letter, and the others are its numbers
unfoldable pub asked_of : List ℕ → Option Asked
asked_of line = letter_line numbers_asked line

-- ---- how it is read: after the bytes of a line so far, after one byte more, and what the line asks for if it ends there
abbrev pub line_of : List ℕ → Line
line_of line = record { fields = read_of 4 lettered line }

abbrev pub next_of : Line → ℕ → Line
next_of l b = record { fields = pushed 4 l.fields b }

abbrev pub answer_of : Line → Option Asked
answer_of l = asked_by_letter numbers_asked l.fields
