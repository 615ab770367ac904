-- The search for a stage's first sample in a fill of n: with `low` samples the stage is not reached, with `high` samples it is, if it is
-- with n. Assumes nothing.
use Prim.Native.Nat.{ℕ, ◌+◌, ◌-◌, ◌<◌, ◌≤◌}
use Rattle.set.specs.declared.Set.{Set}
use Rattle.edges.specs.Icon.{icon_after}

pub record Between (s : Set) (stage n low high : ℕ) : Type 0 where
  -- below it, but for an empty buffer
  pub below : low < high + (1 - high)
  pub within : high ≤ n
  pub some : 0 < n → 0 < high
  pub not_yet : 0 < low → icon_after s low < stage
  pub shows : stage ≤ icon_after s n → stage ≤ icon_after s high
