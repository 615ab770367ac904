-- No part of 01, for the table that `call` prints: how long samples last, in whole seconds, a point and four decimals, rounded to the nearest, a
-- half up.
use Rattle.std.specs.Prelude.{ℕ, ◌+◌, ◌*◌, ◌/◌, Bool, true, false, List, [], ◌++◌, eqb}
use Rattle.ascii.specs.Ascii.{ascii}
use Rattle.text.specs.Digits.{last_digits, decimal_of}

-- in parts of 1 / 10,000 second
unfoldable pub parts_of : ℕ → ℕ → ℕ
parts_of samples rate = (samples * 10000 + rate / 2) / rate

unfoldable pub seconds_if : Bool → ℕ → List ℕ
seconds_if true parts = []
seconds_if false parts = decimal_of (parts / 10000) ++ ascii "." ++ last_digits 10 4 parts

-- at the rate 0 there is no answer
unfoldable pub seconds_of : ℕ → ℕ → List ℕ
seconds_of samples rate = seconds_if (eqb rate 0) (parts_of samples rate)
