-- `ring_run` meets its contract: what lies between two samples that the clock tells the same of agrees with them. Assumes nothing.
use Rattle.runs.proofs.Runs.{one_gate}
use Rattle.runs.proofs.ring_run.Goals as goal

pub returns : goal.returns
returns c = one_gate _ _ _ _ c.run.ensures
