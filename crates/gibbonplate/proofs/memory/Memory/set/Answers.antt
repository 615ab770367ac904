-- `Memory::set` meets its contract, by those of its parts. Assumes nothing.
use Rattle.gibbonplate.specs.Memory.{set_in}
use Rattle.gibbonplate.proofs.memory.Memory.set.Goals as goal

pub returns : goal.returns
unfolding set_in
returns c = rw (c.sending.ensures, c.state_at.ensures, c.staged.ensures, c.plain_stage.ensures, c.processor.ensures)
