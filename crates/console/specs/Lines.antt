-- 01, "Proving cases", the program `wall`: which call a line is, and which further lines `tap --ext` has. A line is its bytes without the line feed.
-- After the letter it holds decimal digits and commas alone; whatever else a line holds, it is an other line.
use Prim.Native.Char.{Char, code}
use Rattle.std.specs.Prelude.{ℕ, ◌+◌, ◌-◌, ◌*◌, ◌^◌, min, Bool, true, false, ◌&&◌, List, [], ◌∷◌, leb, ltb, eqb, Option, None, Some}
use Rattle.console.specs.declared.lines.Call.{Call}
use Rattle.console.specs.declared.lines.Call.TheVariants.{Rate, Typed, Lapse, Fill, ForcedData, Cue, Kept, String, Bits, Frame, Key, Queued}

-- the byte of an ASCII character
abbrev pub is : Char → ℕ → Bool
is c b = eqb b (code c)

-- the fields of a line: what stands between its commas
pub record Fields : Type 0 where
  pub first : List ℕ
  pub later : List (List ℕ)

unfoldable pub cut : Bool → ℕ → Fields → Fields
cut true b f = record { first = []; later = f.first ∷ f.later }
cut false b f = record { first = b ∷ f.first; later = f.later }

unfoldable pub fields_of : List ℕ → Fields
fields_of [] = record { first = []; later = [] }
fields_of (b ∷ l) = cut (is "," b) b (fields_of l)

-- a field is a number if it is decimal digits, one or more; leading zeros are digits
abbrev pub is_digit : ℕ → Bool
is_digit b = leb (code "0") b && leb b (code "9")

unfoldable pub all_digits : List ℕ → Bool
all_digits [] = true
all_digits (b ∷ f) = is_digit b && all_digits f

unfoldable pub value_from : ℕ → List ℕ → ℕ
value_from v [] = v
value_from v (b ∷ f) = value_from (v * 10 + (b - code "0")) f

unfoldable pub number_if : Bool → ℕ → Option ℕ
number_if true n = Some n
number_if false n = None

unfoldable pub number_of : List ℕ → Option ℕ
number_of [] = None
number_of (b ∷ f) = number_if (all_digits (b ∷ f)) (value_from 0 (b ∷ f))

unfoldable pub also : Option ℕ → Option (List ℕ) → Option (List ℕ)
also None ns = None
also (Some n) None = None
also (Some n) (Some ns) = Some (n ∷ ns)

unfoldable pub numbers_of : List (List ℕ) → Option (List ℕ)
numbers_of [] = Some []
numbers_of (f ∷ fs) = also (number_of f) (numbers_of fs)

-- what the fields of a line ask for: of numbers alone, and of one letter with numbers behind it; nothing, where they are not so
abbrev pub of_numbers : {A : Type 0} → (List ℕ → Option A) → Option (List ℕ) → Option A
of_numbers asks None = None
of_numbers asks (Some ns) = asks ns

abbrev pub of_letter : {A : Type 0} → (ℕ → List ℕ → Option A) → List ℕ → List (List ℕ) → Option A
of_letter asks [] fs = None
of_letter asks (letter ∷ []) fs = of_numbers (asks letter) (numbers_of fs)
of_letter asks (letter ∷ b ∷ bs) fs = None

abbrev pub numbers_line : {A : Type 0} → (List ℕ → Option A) → List ℕ → Option A
numbers_line asks line = of_numbers asks (numbers_of ((fields_of line).first ∷ (fields_of line).later))

abbrev pub letter_line : {A : Type 0} → (ℕ → List ℕ → Option A) → List ℕ → Option A
letter_line asks line = of_letter asks (fields_of line).first (fields_of line).later

-- ---- the calls
-- R,rate: a rate too long for the type is the type's largest, and so outside the limits
abbrev pub rate_call : ℕ → Option Call
rate_call n = Some (Rate (min n (2 ^ 32 - 1)))

-- F,length: at most 16,384, and in `tap --ext` 70,000
abbrev pub longest_of : Bool → ℕ
longest_of true = 70000
longest_of false = 16384

unfoldable pub fill_if : Bool → ℕ → Option Call
fill_if true n = Some (Fill n)
fill_if false n = None

unfoldable pub fill_call : Bool → ℕ → Option Call
fill_call extended n = fill_if (leb n (longest_of extended)) n

-- T,byte,carrier: a byte is at most 255, a carrier flag 0 or 1, an outbox at most 16 long
unfoldable pub typed_if : Bool → ℕ → ℕ → ℕ → Option Call
typed_if true byte carrier outbox = Some (Typed byte (eqb carrier 1) outbox)
typed_if false byte carrier outbox = None

unfoldable pub typed_call : ℕ → ℕ → ℕ → Option Call
typed_call byte carrier outbox = typed_if (leb byte 255 && (leb carrier 1 && leb outbox 16)) byte carrier outbox

-- W,ns,carrier: nanoseconds of 64 bits
unfoldable pub lapse_if : Bool → ℕ → ℕ → Option Call
lapse_if true ns carrier = Some (Lapse ns (eqb carrier 1))
lapse_if false ns carrier = None

unfoldable pub lapse_call : ℕ → ℕ → Option Call
lapse_call ns carrier = lapse_if (ltb ns (2 ^ 64) && leb carrier 1) ns carrier

-- a call of one number that has a limit
unfoldable pub call_if : Bool → Call → Option Call
call_if true call = Some call
call_if false call = None

-- C,position: at most 255
unfoldable pub cue_call : ℕ → Option Call
cue_call n = call_if (leb n 255) (Cue n)

-- M,byte: a byte for the string that is kept, at most 255
unfoldable pub kept_call : ℕ → Option Call
kept_call n = call_if (leb n 255) (Kept n)

-- B,room: the string that is kept as bits, with room for at most 64 bytes
unfoldable pub bits_call : ℕ → Option Call
bits_call n = call_if (leb n 64) (Bits n)

-- Q,byte: a byte for the sender, at most 255
unfoldable pub queue_call : ℕ → Option Call
queue_call n = call_if (leb n 255) (Queued n)

-- S,carrier,outbox,codes: a carrier flag 0 or 1, buffers at most 1,200 long
unfoldable pub string_if : Bool → ℕ → ℕ → ℕ → Option Call
string_if true carrier outbox codes = Some (String (eqb carrier 1) outbox codes)
string_if false carrier outbox codes = None

unfoldable pub string_call : ℕ → ℕ → ℕ → Option Call
string_call carrier outbox codes = string_if (leb carrier 1 && (leb outbox 1200 && leb codes 1200)) carrier outbox codes

-- D alone; R or F and one number; T or W and two, with an outbox of 16 for T; in `tap --ext` T or S and three, C, M, B or Q and one number, and
-- U or K alone
unfoldable pub bare_call : Bool → Bool → Bool → Option Call
bare_call true is_u is_k = Some ForcedData
bare_call false true is_k = Some Frame
bare_call false false true = Some Key
bare_call false false false = None

unfoldable pub added_call : Bool → Bool → Bool → Bool → ℕ → Option Call
added_call true is_m is_b is_q n = cue_call n
added_call false true is_b is_q n = kept_call n
added_call false false true is_q n = bits_call n
added_call false false false true n = queue_call n
added_call false false false false n = None

unfoldable pub one_call : Bool → Bool → Bool → ℕ → ℕ → Option Call
one_call true is_f extended letter n = rate_call n
one_call false true extended letter n = fill_call extended n
one_call false false true letter n = added_call (is "C" letter) (is "M" letter) (is "B" letter) (is "Q" letter) n
one_call false false false letter n = None

unfoldable pub two_call : Bool → Bool → ℕ → ℕ → Option Call
two_call true is_w n m = typed_call n m 16
two_call false true n m = lapse_call n m
two_call false false n m = None

unfoldable pub three_call : Bool → Bool → ℕ → ℕ → ℕ → Option Call
three_call true is_s n m o = typed_call n m o
three_call false true n m o = string_call n m o
three_call false false n m o = None

unfoldable pub numbers_call : Bool → ℕ → List ℕ → Option Call
numbers_call extended letter [] = bare_call (is "D" letter) (extended && is "U" letter) (extended && is "K" letter)
numbers_call extended letter (n ∷ []) = one_call (is "R" letter) (is "F" letter) extended letter n
numbers_call extended letter (n ∷ m ∷ []) = two_call (is "T" letter) (is "W" letter) n m
numbers_call extended letter (n ∷ m ∷ o ∷ []) = three_call (extended && is "T" letter) (extended && is "S" letter) n m o
numbers_call extended letter (n ∷ m ∷ o ∷ p ∷ ns) = None

-- the first field is one letter, and the others are its numbers
unfoldable pub call_of : Bool → List ℕ → Option Call
call_of extended line = letter_line (numbers_call extended) line
