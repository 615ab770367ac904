-- 01, "Keys and frames": Q.23's keypad with the two tones of each key, and the digits of a dial line. And 02, E8: a key's row and column.
use Rattle.std.specs.Prelude.{ℕ, ◌+◌, ◌-◌, ◌*◌, ◌/◌, ◌%◌, ◌<◌, ◌≡◌, Bool, true, false, List, [], ◌∷◌, ◌++◌, map, ◌==◌, ltb, nat_lt, cond, set, Float, pos, length, get_or, take, replicate, Option, Some, None}
use Rattle.std.specs.List.{filter, list_all, position_or_len, position}
use Rattle.std.specs.Float.{binary64}
use Rattle.std.specs.Float.Ieee.{of_int}
use Rattle.ascii.specs.Ascii.{ascii}
use Rattle.ascii.specs.Upper.{upper}
use Rattle.keys.specs.declared.Tones.{Tones}
use Rattle.keys.specs.declared.Digits.{Digits}

-- rows 697, 770, 852, 941 Hz
abbrev pub rows : List ℕ
rows = 697 ∷ 770 ∷ 852 ∷ 941 ∷ []

-- columns 1209, 1336, 1477, 1633
abbrev pub columns : List ℕ
columns = 1209 ∷ 1336 ∷ 1477 ∷ 1633 ∷ []

-- keys 123A, 456B, 789C, *0#D, four to a row
abbrev pub keypad : List ℕ
keypad = ascii "123A456B789C*0#D"

-- the first place of a byte among some keys, counted from 0; their number if it is none of them
abbrev pub place_in : ℕ → List ℕ → ℕ
place_in b ks = position_or_len (λ k. k == b) ks

abbrev pub key_place : ℕ → ℕ
key_place b = place_in b keypad

-- the same, where the byte is a key
abbrev pub place_of : ℕ → Option ℕ
place_of b = position (λ k. k == b) keypad

unfoldable pub key_row : ℕ → ℕ
key_row b = key_place b / 4

unfoldable pub key_column : ℕ → ℕ
key_column b = key_place b % 4

unfoldable pub is_key : ℕ → Bool
is_key b = ltb (key_place b) (length keypad)

-- a frequency, in f64
abbrev pub hertz : ℕ → Float
hertz n = of_int binary64 (pos n)

-- 02, E8: "the row and column, 0 to 3 each, beside the two frequencies"
abbrev pub tones_at : Bool → ℕ → ℕ → Option Tones
tones_at true row column =
    Some (record { low = hertz (get_or rows row 0); high = hertz (get_or columns column 0); key = record { row = row; column = column } })
tones_at false row column = None

-- a key's tones are those of its row and its column
unfoldable pub tones_of : ℕ → Option Tones
tones_of b = tones_at (is_key b) (key_row b) (key_column b)

-- the keypad's entry at a row and a column
abbrev pub key_at : ℕ → ℕ → ℕ
key_at row column = get_or keypad (4 * row + column) 0

-- "row and column name the same Q.23 key as the digit"
abbrev pub NamesKey : ℕ → Option Tones → Type 0
NamesKey b (Some tones) = (tones.key.row < 4) × (tones.key.column < 4) × (key_at tones.key.row tones.key.column ≡ b)
NamesKey b None = Unit {0}

-- the keys among the bytes, others dropped
unfoldable pub keys_of : List ℕ → List ℕ
keys_of bs = filter is_key bs

-- digits are the line's bytes after ATDT, uppercased, others dropped
unfoldable pub digits_of : List ℕ → List ℕ
digits_of line = keys_of (map upper line)

unfoldable pub all_keys : List ℕ → Bool
all_keys bs = list_all is_key bs

-- 76 places, zeros behind the digits
unfoldable pub padded : List ℕ → List ℕ
padded ds = ds ++ replicate (76 - length ds) 0

abbrev pub held : List ℕ → Digits
held ds = record { keys = padded ds; len = length ds }

-- one digit more, where there is room for it
abbrev pub with_digit : Digits → ℕ → Digits
with_digit d digit = cond (nat_lt d.len 76) (record { keys = set d.keys d.len digit; len = d.len + 1 }) d

-- their number is at most 76
abbrev pub dialled_of : List ℕ → Digits
dialled_of line = held (take 76 (digits_of line))
