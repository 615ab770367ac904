-- 01, "Stages", 6: the sign is plus if floor(t / 0.45) is even.
use Rattle.std.specs.Prelude.{◌%◌, Bool, true, false, ◌==◌, Float}
use Rattle.std.specs.Float.Ieee.{neg}
use Rattle.math.specs.Float.{f64, one, over}
use Rattle.math.specs.Whole.{floor_of}

-- 0.45
abbrev pub reversal : Float
reversal = f64 0x3fdc_cccc_cccc_cccd

abbrev pub sign_by : Bool → Float
sign_by true = one
sign_by false = neg one

unfoldable pub sign_at : Float → Float
sign_at t = sign_by (floor_of (over t reversal) % 2 == 0)
