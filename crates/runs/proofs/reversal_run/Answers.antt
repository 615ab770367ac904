-- `reversal_run` meets its contract: what lies between two samples that the clock tells the same of agrees with them. Assumes nothing.
use Rattle.runs.proofs.Runs.{one_sign}
use Rattle.runs.proofs.reversal_run.Goals as goal

pub returns : goal.returns
returns c = one_sign _ _ _ _ c.run.ensures
