-- 01, "Stages": r is the rate, n the stage's samples so far, t = n / r, R(s) = s × r rounded half away.
use Rattle.std.specs.Prelude.{ℕ, ◌+◌, Bool, true, false, nat_lt, Float}
use Rattle.math.specs.Float.{of_nat, times, over}
use Rattle.math.specs.Whole.{round_of}

-- 01, "Kept, and made new": 8,000 to 192,000
abbrev pub min_rate : ℕ
min_rate = 8000

abbrev pub max_rate : ℕ
max_rate = 192000

-- t, of r and n
abbrev pub time_at : ℕ → ℕ → Float
time_at r n = over (of_nat n) (of_nat r)

-- R(s), of s and r
unfoldable pub samples_in : Float → ℕ → ℕ
samples_in s r = round_of (times s (of_nat r))

-- n + 1. The largest that a count can hold stays, which no sound set holds.
abbrev pub count_up : Bool → ℕ → ℕ
count_up true n = n + 1
count_up false n = n

unfoldable pub inc_up_to : (largest n : ℕ) → ℕ
inc_up_to largest n = count_up (nat_lt n largest) n

-- a count of samples has 32 bits
unfoldable pub saturating_inc : ℕ → ℕ
saturating_inc n = inc_up_to 0xffff_ffff n
