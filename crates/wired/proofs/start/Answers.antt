-- `wired::start` meets its contract: the chip that creation hands out, of which the theorem holds at every rate. Assumes nothing.
use Rattle.wired.proofs.Wired.{serves}
use Rattle.wired.proofs.start.Goals as goal

pub returns : goal.returns
returns c = record { value = c.new.ensures; serves = rw c.new.ensures (serves c.args.rate) }
