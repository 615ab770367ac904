-- `Sending::fill` meets its contract: the invariant is `Filling`; what is left of the part lent for a bit comes back by `fill-again`. Assumes nothing.
use Prim.Native.Nat.{◌-◌}
use lib.ListN.{length}
use Rattle.sender.proofs.Playing.{Filling}
use Rattle.sender.proofs.Sending.fill.Given as goal

abbrev pub invariant-loop-at : goal.invariant-loop-at
invariant-loop-at l = Filling l.initial.x l.initial.out l.out l.x l.at

abbrev pub decreases-loop-at : goal.decreases-loop-at
decreases-loop-at l = length l.initial.out - l.at
