-- No part of 01, for `tap`, `call` and `earpiece`: numbers and samples as bytes, the low byte first.
use Rattle.std.specs.Prelude.{ℕ, zero, suc, ◌/◌, ◌%◌, List, [], ◌∷◌, to_bits, Float}
use Rattle.std.proofs.Math.IntN.{ℤ}
use Rattle.std.specs.Float.{binary32}
use Rattle.std.specs.Int.{w16, cast_unsigned}
use Rattle.std.specs.List.{flat_map}

-- the k lowest bytes of n
unfoldable pub low_first : ℕ → ℕ → List ℕ
low_first zero n = []
low_first (suc k) n = n % 256 ∷ low_first k (n / 256)

-- a 32-bit float: four for its bit pattern
unfoldable pub float_bytes : Float → List ℕ
float_bytes x = low_first 4 (to_bits binary32 x)

-- a 16-bit whole number: two for it, or for its sum with 65,536 where it is negative
unfoldable pub whole_bytes : ℤ → List ℕ
whole_bytes x = low_first 2 (cast_unsigned w16 x)

-- the bytes of floats, of one behind those of another
abbrev pub bytes_of : List Float → List ℕ
bytes_of = flat_map float_bytes
