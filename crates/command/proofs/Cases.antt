-- 01, "When a call is declined": lines that are just sound and just not, for the cases of the calls above. Assumes nothing.
use Prim.Native.Nat.{ℕ}
use mathlib.Core.Path.{◌≡◌, refl}
use mathlib.Core.Bool.{true, false}
use lib.ListN.{replicate}
use Rattle.command.specs.declared.Line.{Line}
use Rattle.command.specs.Line.{sound_line}

-- a line of n ones
abbrev pub ones : ℕ → Line
ones n = record { bytes = replicate 80 49; len = n; ran_over = false }

pub line-80 : sound_line (ones 80) ≡ true
unfolding sound_line
line-80 = refl

pub line-81 : sound_line (ones 81) ≡ false
unfolding sound_line
line-81 = refl

-- 02, E1: a mark belongs to a full line
abbrev pub marked : ℕ → Line
marked n = record { bytes = replicate 80 49; len = n; ran_over = true }

pub mark-80 : sound_line (marked 80) ≡ true
unfolding sound_line
mark-80 = refl

pub mark-79 : sound_line (marked 79) ≡ false
unfolding sound_line
mark-79 = refl
