-- 01, "The AT processor": the fixed strings of the replies; and 02, E6: S12 as text.
use Rattle.std.specs.Prelude.{ℕ, ◌+◌, ◌/◌, ◌%◌, List, [], ◌∷◌, get_or}
use Prim.Native.Char.{code}
use Rattle.ascii.specs.Ascii.{ascii}

-- 02, E6: three digits with leading zeros
unfoldable pub three_digits : ℕ → List ℕ
three_digits n = (code "0" + n / 100) ∷ (code "0" + (n / 10) % 10) ∷ (code "0" + n % 10) ∷ []

-- the strings of codes 1 to 5, and of 6 the digits of S12; another code has none
unfoldable pub text_of : ℕ → (s12 : ℕ) → List ℕ
text_of code s12 =
    get_or
    ([]
    ∷ ascii "OK"
    ∷ ascii "CONNECT 300"
    ∷ ascii "NO CARRIER"
    ∷ ascii "ERROR"
    ∷ ascii "modem-core Bell 103 v1.0.0"
    ∷ three_digits s12
    ∷ [])
    code
    []
