-- `edges::search` meets its contract: the invariant is `Between`, kept by either answer about the middle.
-- The measure is what lies between the two ends. Assumes nothing.
use Prim.Native.Nat.{◌-◌}
use mathlib.Core.Path.{◌≡◌}
use lib.ListN.{length}
use Rattle.edges.proofs.Halving.{Between}
use Rattle.edges.proofs.search.Given as goal

abbrev pub invariant-loop-high : goal.invariant-loop-high
invariant-loop-high l = (length l.samples ≡ length l.initial.samples) × Between l.set l.stage (length l.initial.samples) l.low l.high

abbrev pub decreases-loop-high : goal.decreases-loop-high
decreases-loop-high l = l.high - l.low
