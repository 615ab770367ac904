-- What the code has in hand between its steps, named for the contracts of the private functions. No part of what a reader has to believe.
use Rattle.std.specs.Prelude.{ℕ, ◌+◌, ◌-◌, ◌*◌, ◌/◌, ◌^◌, cond, leb, Float}
use Rattle.std.specs.Float.Ieee.Nearest.{closest}
use Rattle.math.specs.Whole.{whole_by}

-- twice the value, without its fraction
unfoldable pub twice : Float → ℕ
twice x = whole_by (λ n d. 2 * n / d) x

-- the binary32 pattern, its sign left out, of the binary64 number below 2 with the exponent's field e and the digits t
unfoldable pub narrow_bits : ℕ → ℕ → ℕ
narrow_bits e t =
    cond (leb 897 e) ((e - 897) * 2 ^ 23 + closest (2 ^ 52 + t) (2 ^ 29))
    (cond (leb 873 e) (closest (2 ^ 52 + t) (2 ^ (926 - e))) 0)
