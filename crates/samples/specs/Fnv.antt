-- No part of 01, for `tap`: the hash FNV-1a of Fowler, Noll and Vo, 64 bits wide. Each byte is put into the hash by exclusive or, and the hash is
-- then multiplied by the prime, modulo 2^64.
use Rattle.std.specs.Prelude.{ℕ, ◌*◌, ◌%◌, ◌^◌, List, bit_xor}
use mathlib.Core.List.{foldl}

abbrev pub prime : ℕ
prime = 0x100000001b3

unfoldable pub hashed_of : ℕ → ℕ → ℕ
hashed_of hash byte = bit_xor hash byte * prime % 2 ^ 64

unfoldable pub hash_of : ℕ → List ℕ → ℕ
hash_of hash bytes = foldl hashed_of hash bytes
