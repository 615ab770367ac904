-- 02, E7: "ten bits give back the byte"; "a single frame with a bad start or stop bit gives 11 and no byte".
use Rattle.std.specs.Prelude.{ℕ, ◌+◌, Bool, true, false, List, get_or, Result, Ok, Err}
use Rattle.refusal.specs.declared.Refusal.{Refusal}
use Rattle.refusal.specs.declared.Refusal.TheVariants.{BadFrame}

abbrev pub weight_of : Bool → ℕ → ℕ
weight_of true value = value
weight_of false value = 0

-- bit i of ten, from 0
abbrev pub bit_of : List Bool → ℕ → Bool
bit_of bits i = get_or bits i false

-- the eight data bits, lowest first
unfoldable pub data_of : List Bool → ℕ
data_of bits =
    weight_of (bit_of bits 1) 1
    + weight_of (bit_of bits 2) 2
    + weight_of (bit_of bits 3) 4
    + weight_of (bit_of bits 4) 8
    + (weight_of (bit_of bits 5) 16
    + weight_of (bit_of bits 6) 32
    + weight_of (bit_of bits 7) 64
    + weight_of (bit_of bits 8) 128)

-- by the start bit, which is 0, and the stop bit, which is 1
abbrev pub unframe_by : (start stop : Bool) → ℕ → Result ℕ Refusal
unframe_by true stop b = Err BadFrame
unframe_by false false b = Err BadFrame
unframe_by false true b = Ok b

unfoldable pub unframe_of : List Bool → Result ℕ Refusal
unframe_of bits = unframe_by (bit_of bits 0) (bit_of bits 9) (data_of bits)
