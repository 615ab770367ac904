-- 01, "Stages" and "The list of demand 3": an overture is the samples of stages 1 to 9, T in all, and then those of stage 10 without end.
use Rattle.std.specs.Prelude.{List, ◌≡◌, ℕ, ◌+◌, ◌≤◌, ◌<◌}
use Rattle.stage.specs.declared.StageState.TheVariants.{Connected}
use Rattle.stage.specs.Stage.{stage_number, stage_of}
use Rattle.overture.specs.Iteration.{fresh, after}

-- the length of the overture for digits at the rate r is T
pub record HasLength (digits : List ℕ) (r T : ℕ) : Type 0 where
  pub playing : (k : ℕ) → k < T → stage_number (stage_of (after k (fresh digits r) digits r)) ≤ 9
  pub connected : (j : ℕ) → after (T + j) (fresh digits r) digits r ≡ Connected
