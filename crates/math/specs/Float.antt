-- 01, "Floats": the constants and the operations. All are binary64's, and each operation is rounded once.
use Rattle.std.specs.Prelude.{ℕ, pos, Float}
use Rattle.std.specs.Float.{binary64}
use Rattle.std.specs.Float.Ieee.{add, sub, mul, div, of_int, of_bits}

-- a number by its bit pattern
abbrev pub f64 : ℕ → Float
f64 n = of_bits binary64 n

abbrev pub zero : Float
zero = f64 0

abbrev pub one : Float
one = f64 0x3ff0_0000_0000_0000

-- TAU = 6.283185307179586
abbrev pub tau : Float
tau = f64 0x4019_21fb_5444_2d18

-- H = 3.141592653589793
abbrev pub half_turn : Float
half_turn = f64 0x4009_21fb_5444_2d18

-- Q = 1.5707963267948966
abbrev pub quarter_turn : Float
quarter_turn = f64 0x3ff9_21fb_5444_2d18

-- a whole number
abbrev pub of_nat : ℕ → Float
of_nat n = of_int binary64 (pos n)

abbrev pub plus : Float → Float → Float
plus x y = add binary64 x y

abbrev pub minus : Float → Float → Float
minus x y = sub binary64 x y

abbrev pub times : Float → Float → Float
times x y = mul binary64 x y

abbrev pub over : Float → Float → Float
over x y = div binary64 x y
