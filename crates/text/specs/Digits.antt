-- 01, "Proving cases", has `wall` print numbers in decimal: the digits of a number in a base up to 16, the most significant first.
use Prim.Native.Char.{code}
use Rattle.std.specs.Prelude.{ℕ, zero, suc, ◌+◌, ◌-◌, ◌/◌, ◌%◌, Bool, true, false, List, [], ◌∷◌, ◌++◌, ltb, length}

-- 0 to 9, then A to F
unfoldable pub glyph_if : Bool → ℕ → ℕ
glyph_if true d = code "0" + d
glyph_if false d = code "A" + (d - 10)

unfoldable pub glyph_of : ℕ → ℕ
glyph_of d = glyph_if (ltb d 10) d

-- the last k digits of n
unfoldable pub last_digits : ℕ → ℕ → ℕ → List ℕ
last_digits base zero n = []
last_digits base (suc k) n = last_digits base k (n / base) ++ glyph_of (n % base) ∷ []

-- the decimal digits of n: those of n / 10, if that is not 0, and n % 10; twenty are enough for 64 bits
unfoldable pub decimal_if : Bool → List ℕ → ℕ → List ℕ
decimal_if true before d = d ∷ []
decimal_if false before d = before ++ d ∷ []

unfoldable pub decimal_from : ℕ → ℕ → List ℕ
decimal_from zero n = []
decimal_from (suc k) n = decimal_if (ltb n 10) (decimal_from k (n / 10)) (glyph_of (n % 10))

unfoldable pub decimal_of : ℕ → List ℕ
decimal_of n = decimal_from 20 n

unfoldable pub places_of : ℕ → ℕ
places_of n = length (decimal_of n)
