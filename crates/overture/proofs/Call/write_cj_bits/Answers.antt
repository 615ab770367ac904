-- `write_cj_bits` meets its contract: the state is the same whether its bits are done or not. Assumes nothing.
use Rattle.overture.proofs.Stages.{cj-bits-wrote}
use Rattle.overture.proofs.Call.write_cj_bits.Goals as goal

pub returns : goal.returns
returns c = cj-bits-wrote _ _ _ _ _ _ _ c.requires c.write_bits-w.ensures
