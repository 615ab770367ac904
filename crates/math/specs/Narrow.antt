-- 01, "Floats": narrowing to f32, as IEEE 754 has it. Magnitude 2 or more, or not a number, gives 0.0.
use Rattle.std.specs.Prelude.{◌*◌, cond, ltb, Float}
use Rattle.std.specs.Float.{nan, inf, fin, binary32}
use Rattle.std.specs.Float.Ieee.{round, up, down}
use Rattle.math.specs.Float.{zero}

-- the value is m × up e / down e; `round` goes to the nearest, ties to even, subnormals too
unfoldable pub narrowed : Float → Float
narrowed nan = zero
narrowed (inf s) = zero
narrowed (fin s m e) = cond (ltb (m * up e) (2 * down e)) (round binary32 s (m * up e) (down e)) zero
