-- `write_connected` meets its contract: its samples are zeros, and its state stays. Assumes nothing.
use Rattle.overture.proofs.Stages.{connected-wrote}
use Rattle.overture.proofs.Call.write_connected.Goals as goal

pub returns : goal.returns
returns c = connected-wrote _ _ _ _ c.silence.ensures
