-- A value that is at most so many units of 2 ^ -1074, and rounding that keeps a bound which the format holds. Assumes nothing.
use mathlib.Core.Bool.{false}
use Prim.Native.Nat.{ℕ, ◌*◌, ◌^◌, ◌≤◌, ◌<◌}
use native.Mathlib.Nat.{lt_of_lt_of_le, lt_of_le_of_lt, mul-le-mul_right, mul-lt-mul_of_pos_right}
use lib.Dec.{lit<, lit≤}
use lib.Pow.{pow_pos}
use lib.Ieee.{Float, binary64, round}
use lib.Ieee.Exact.{HasValue}
use lib.Ieee.Scale.{grid, overflow, round_val}
use Rattle.math.proofs.Rounding.{grid-fits, grid-most}

pub record AtMost (k : ℕ) (x : Float) : Type 0 where
  pub at : ℕ
  pub value : HasValue x false at (2 ^ 1074)
  pub most : at ≤ k

-- a / c is at most q * 2 ^ j units: it does not overflow
pub bound-fits : (a c q j : ℕ) → 0 < c → q * 2 ^ j < 2 ^ 1100 → a * 2 ^ 1074 ≤ q * 2 ^ j * c → grid binary64 a c < overflow binary64
bound-fits a c q j C fine h = grid-fits binary64 a c 1100 C (lt_of_le_of_lt h (mul-lt-mul_of_pos_right fine C)) (lit< tt)

-- and what it rounds to is at most that too
pub at_most : (a c q j : ℕ) → 0 < c → q < 2 ^ 53 → q * 2 ^ j < 2 ^ 1100 → a * 2 ^ 1074 ≤ q * 2 ^ j * c → AtMost (q * 2 ^ j) (round binary64 false a c)
at_most a c q j C small fine h =
    let g = bound-fits a c q j C fine h in
    record { at = grid binary64 a c; value = round_val binary64 a c g; most = grid-most binary64 a c q j C small (lt_of_lt_of_le fine (lit≤ tt)) g h }

-- the same of w units
pub units-at-most : (w q j : ℕ) → q < 2 ^ 53 → q * 2 ^ j < 2 ^ 1100 → w ≤ q * 2 ^ j → AtMost (q * 2 ^ j) (round binary64 false w (2 ^ 1074))
units-at-most w q j small fine h = at_most w (2 ^ 1074) q j (pow_pos 1074) small fine (mul-le-mul_right (2 ^ 1074) h)
