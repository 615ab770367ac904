-- The whole numbers of 01 that the code writes as literals: each literal's bit pattern is the number. Computed. Assumes nothing.
use Rattle.std.proofs.Common.{◌≡◌, refl}
use Rattle.math.specs.Float.{f64, of_nat}

pub three : f64 0x4008_0000_0000_0000 ≡ of_nat 3
unfolding lib.Ieee.of_bits lib.Ieee.of_int
three = refl

pub four : f64 0x4010_0000_0000_0000 ≡ of_nat 4
unfolding lib.Ieee.of_bits lib.Ieee.of_int
four = refl

pub three_hundred : f64 0x4072_c000_0000_0000 ≡ of_nat 300
unfolding lib.Ieee.of_bits lib.Ieee.of_int
three_hundred = refl
