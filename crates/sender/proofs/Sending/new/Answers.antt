-- `Sending::new` meets its contract, by what its calls ensure. Assumes nothing.
use Rattle.sender.proofs.Sending.new.Goals as goal

pub returns : goal.returns
returns c = rw (c.new-2.ensures, c.new.ensures)
