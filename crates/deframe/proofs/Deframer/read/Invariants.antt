-- `Deframer::read` meets its contract: the invariant is `Taking`. Assumes nothing.
use Rattle.deframe.proofs.Taking.{Taking}
use Rattle.deframe.proofs.Deframer.read.Given as goal

abbrev pub invariant-loop-taken : goal.invariant-loop-taken
invariant-loop-taken l = Taking l.fn.self l.bits l.initial.out l.out l.place l.given l.taken
