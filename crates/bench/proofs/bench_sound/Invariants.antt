-- `bench::bench_sound` is safe: it has held no more often than it was asked. Assumes nothing.
use Prim.Native.Nat.{◌≤◌}
use Rattle.bench.proofs.bench_sound.Given as goal

abbrev pub invariant-loop-i : goal.invariant-loop-i
invariant-loop-i l = l.held ≤ l.i
