-- `samples_left` meets its contract: the stage ends first, or the buffer, or no sample is left. Assumes nothing.
use native.Mathlib.Omega.{arith}
use Rattle.runs.proofs.Runs.{before_end}
use Rattle.runs.proofs.samples_left.Goals as goal

pub returns : goal.returns
returns c = before_end _ _ _ _ (omega (arith, c.min.ensures, c.max-left.ensures, c.saturating_sub.ensures))
