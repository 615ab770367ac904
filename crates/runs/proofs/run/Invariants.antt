-- `run` meets its contract: the ends of what it answers agree, and so does what lies between; else it answers one sample, if there is room. Assumes nothing.
use Prim.Native.Nat.{◌≤◌, ◌<◌}
use Rattle.runs.proofs.run.Given as goal

abbrev pub invariant-loop-c : goal.invariant-loop-c
invariant-loop-c g l = (0 < l.most → 0 < l.c) × (l.c ≤ l.most)

abbrev pub decreases-loop-c : goal.decreases-loop-c
decreases-loop-c g l = l.c
