-- Demand 3: an overture of d digits at r samples a second has one length T, "with 120T from 1175r + 24dr - 120 to 1175r + 24dr + 720".
use Rattle.std.specs.Prelude.{ℕ, ◌+◌, ◌*◌, ◌≤◌}
use Rattle.schedule.specs.Length.{total}

pub record TotalBounds (r d : ℕ) : Type 0 where
  pub least : 1175 * r + 24 * d * r ≤ 120 * total r d + 120
  pub most : 120 * total r d ≤ 1175 * r + 24 * d * r + 720
