-- `read` meets its contract: the invariant is `Filling`; what a writer leaves of the part lent to it comes back by `fill-again`. Assumes nothing.
use Prim.Native.Nat.{◌-◌}
use lib.ListN.{length}
use Rattle.overture.proofs.Filling.{Filling}
use Rattle.overture.proofs.read.Given as goal

abbrev pub invariant-loop-at : goal.invariant-loop-at
invariant-loop-at l = Filling l.digits l.rate l.initial.s l.initial.out l.out l.s l.at l.shown

abbrev pub decreases-loop-at : goal.decreases-loop-at
decreases-loop-at l = length l.initial.out - l.at
