-- ASCII's a to z become A to Z, as 01 has the line and the digits uppercased.
use Rattle.std.specs.Prelude.{ℕ, ◌-◌, cond, ◌&&◌, leb}
use Prim.Native.Char.{code}

unfoldable pub upper : ℕ → ℕ
upper b = cond (leb (code "a") b && leb b (code "z")) (b - 32) b
