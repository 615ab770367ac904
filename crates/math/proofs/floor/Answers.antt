-- `floor` meets its contract: half of twice the value, cut, is the floor. Assumes nothing.
use Rattle.math.proofs.Whole.{twice-floor}
use Rattle.math.proofs.floor.Goals as goal

pub returns : goal.returns
returns c = rw c.double.ensures (twice-floor c.args.x)
