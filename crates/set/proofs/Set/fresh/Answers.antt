-- `Set::fresh` meets its contract: a fresh processor, an idle session and a fresh sender. Assumes nothing.
use Rattle.set.proofs.Set.fresh.Goals as goal

pub returns : goal.returns
returns c = rw (c.new-3.ensures, c.new-2.ensures, c.new.ensures)
