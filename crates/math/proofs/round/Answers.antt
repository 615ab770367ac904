-- `round` meets its contract: twice the value, cut, and one more, halved, is rounding half away. Assumes nothing.
use native.Mathlib.Omega.{arith}
use Rattle.math.proofs.Whole.{twice-round, twice-le}
use Rattle.math.proofs.round.Goals as goal

pub overflow_add-result : goal.overflow_add-result
overflow_add-result c = omega (arith, twice-le c.args.x, c.double.ensures)

pub returns : goal.returns
returns c = rw c.double.ensures (twice-round c.args.x)
