-- `narrow_subnormal` meets its contract: `nearest` rounds to the unit of the subnormals, and less than half a unit is nothing. Assumes nothing.
use lib.Pow.{pow_mono}
use borrow.Author.Tests.{le-leb, lt-leb}
use Rattle.std.proofs.lemmas.Nat.{one_shl}
use Rattle.math.specs.Steps.{narrow_bits}
use Prim.Native.Nat.{◌-◌, ◌≤◌}
use native.Mathlib.Omega.{arith}
use Rattle.math.proofs.narrow_subnormal.Goals as goal

pub nearest-requires-clause-divisor_bound : goal.nearest-requires-clause-divisor_bound
nearest-requires-clause-divisor_bound c = let h : 926 - c.args.e ≤ 62 = omega arith in rw (one_shl (926 - c.args.e) 64 (omega arith)) (pow_mono h)

pub returns-then-e-ge873 : goal.returns-then-e-ge873
unfolding narrow_bits
returns-then-e-ge873 c = rw (lt-leb _ _ c.requires.below_normal, le-leb _ _ c.if-e-ge873.true, c.nearest.ensures, one_shl (926 - c.args.e) 64 (omega arith))

pub returns-else-e-ge873 : goal.returns-else-e-ge873
unfolding narrow_bits
returns-else-e-ge873 c = rw (lt-leb _ _ c.requires.below_normal, lt-leb _ _ c.if-e-ge873.false)
