-- 01, "Kept, and made new": which rates are within the limits.
use Rattle.std.specs.Prelude.{ℕ, Bool, ◌&&◌, nat_le}
use Rattle.schedule.specs.Time.{min_rate, max_rate}

abbrev pub is_rate : ℕ → Bool
is_rate r = nat_le min_rate r && nat_le r max_rate
