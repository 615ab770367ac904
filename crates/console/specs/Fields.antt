-- How a line of fields is read, byte by byte: what the reader holds after some bytes of a line (`read_of`), and what a program makes of the numbers that it
-- tells at the end (`asked_by_letter`, `asked_by_numbers`), each in 64 bits. What a field and its number are, Lines.antt says.
use Prim.Native.Char.{code}
use Rattle.std.specs.Prelude.{ℕ, ◌+◌, ◌-◌, ◌*◌, ◌^◌, Bool, true, false, ltb, length, Option, None, Some}
use Rattle.std.specs.Option.{option_zip}
use mathlib.Core.List.{List, [], ◌∷◌, ◌++◌, foldl, map}
use Rattle.console.specs.declared.fields.Place.{Place}
use Rattle.console.specs.declared.fields.Place.TheVariants.{Start, Letter, Empty, Digit}
use Rattle.console.specs.Lines.{is, is_digit}

-- a number in 64 bits, and none beyond them
unfoldable pub in_64_if : Bool → ℕ → Option ℕ
in_64_if true n = Some n
in_64_if false n = None

unfoldable pub in_64 : ℕ → Option ℕ
in_64 n = in_64_if (ltb n (2 ^ 64)) n

-- the number, or the least that is beyond
abbrev pub least : Option ℕ → ℕ
least (Some n) = n
least None = 2 ^ 64

-- ---- what the bytes of a line so far come to: the letter, the numbers, the last of which may go on, and where the next byte stands; no place where the line
-- is none, whatever follows
pub record Read : Type 0 where
  pub letter : Option ℕ
  pub numbers : List (Option ℕ)
  pub place : Option Place

-- before the first byte, of a line that begins with a letter and of one of numbers alone
abbrev pub lettered : Read
lettered = record { letter = None; numbers = []; place = Some Start }

abbrev pub numbered : Read
numbered = record { letter = None; numbers = []; place = Some Empty }

abbrev pub moved : Read → Option Place → Read
moved r place = record { letter = r.letter; numbers = r.numbers; place = place }

unfoldable pub grown : Option ℕ → ℕ → Option ℕ
grown None d = None
grown (Some n) d = in_64 (n * 10 + d)

unfoldable pub last_grown : List (Option ℕ) → ℕ → List (Option ℕ)
last_grown [] d = []
last_grown (n ∷ []) d = grown n d ∷ []
last_grown (n ∷ m ∷ ns) d = n ∷ last_grown (m ∷ ns) d

-- a byte where the letter stands, behind it, where a number begins, and in a number
unfoldable pub letter_if : (comma : Bool) → Read → ℕ → Read
letter_if true r b = moved r None
letter_if false r b = record { letter = Some b; numbers = r.numbers; place = Some Letter }

unfoldable pub behind_if : (comma : Bool) → Read → Read
behind_if true r = moved r (Some Empty)
behind_if false r = moved r None

unfoldable pub first_if : (digit fits : Bool) → Read → ℕ → Read
first_if true true r d = record { letter = r.letter; numbers = r.numbers ++ Some d ∷ []; place = Some Digit }
first_if true false r d = moved r None
first_if false fits r d = moved r None

unfoldable pub next_if : (comma digit : Bool) → Read → ℕ → Read
next_if true digit r d = moved r (Some Empty)
next_if false true r d = record { letter = r.letter; numbers = last_grown r.numbers d; place = Some Digit }
next_if false false r d = moved r None

unfoldable pub pushed_at : (room : ℕ) → Option Place → Read → ℕ → Read
pushed_at room None r b = r
pushed_at room (Some Start) r b = letter_if (is "," b) r b
pushed_at room (Some Letter) r b = behind_if (is "," b) r
pushed_at room (Some Empty) r b = first_if (is_digit b) (ltb (length r.numbers) room) r (b - code "0")
pushed_at room (Some Digit) r b = next_if (is "," b) (is_digit b) r (b - code "0")

unfoldable pub pushed : (room : ℕ) → Read → ℕ → Read
pushed room r b = pushed_at room r.place r b

-- the numbers, if the line ends there
abbrev pub numbers_at : Option Place → List (Option ℕ) → Option (List (Option ℕ))
numbers_at None ns = None
numbers_at (Some Start) ns = None
numbers_at (Some Letter) ns = Some ns
numbers_at (Some Empty) ns = None
numbers_at (Some Digit) ns = Some ns

abbrev pub numbers : Read → Option (List (Option ℕ))
numbers r = numbers_at r.place r.numbers

-- all bytes of a line
abbrev pub read_of : (room : ℕ) → Read → List ℕ → Read
read_of room r line = foldl (pushed room) r line

-- ---- what is asked for by the numbers that are told: one beyond 64 bits counts as the least that is
abbrev pub by_told : {A : Type 0} → (ℕ → List ℕ → Option A) → Option (ℕ × List (Option ℕ)) → Option A
by_told asks None = None
by_told asks (Some (letter, ns)) = asks letter (map least ns)

abbrev pub asked_by_letter : {A : Type 0} → (ℕ → List ℕ → Option A) → Read → Option A
asked_by_letter asks r = by_told asks (option_zip r.letter (numbers r))

abbrev pub by_told_numbers : {A : Type 0} → (List ℕ → Option A) → Option (List (Option ℕ)) → Option A
by_told_numbers asks None = None
by_told_numbers asks (Some ns) = asks (map least ns)

abbrev pub asked_by_numbers : {A : Type 0} → (List ℕ → Option A) → Read → Option A
asked_by_numbers asks r = by_told_numbers asks (numbers r)
