-- The fields of a line: a number with its comma, and bytes in hexadecimal.
use Rattle.std.specs.Prelude.{ℕ, List, [], ◌∷◌}
use Rattle.ascii.specs.Ascii.{ascii}
use Rattle.text.specs.Page.{Page, add_of}
use Rattle.text.specs.Digits.{decimal_of, last_digits}

-- a number, and the comma after it
abbrev pub numbered : Page → ℕ → Page
numbered p n = add_of (add_of p (decimal_of n)) (ascii ",")

-- two digits each
abbrev pub in_hex : Page → List ℕ → Page
in_hex p [] = p
in_hex p (byte ∷ bytes) = in_hex (add_of p (last_digits 16 2 byte)) bytes

-- or `-` for none
abbrev pub hex_on : Page → List ℕ → Page
hex_on p [] = add_of p (ascii "-")
hex_on p (byte ∷ bytes) = in_hex p (byte ∷ bytes)
