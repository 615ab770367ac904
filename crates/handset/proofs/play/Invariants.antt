-- `play` meets its contract: the part written is the definition's samples; a run's part comes back with the run. Assumes nothing.
use Rattle.std.proofs.Common.{◌≡◌, ◌-◌, length}
use Rattle.plan.specs.Call.{call_digits}
use Rattle.handset.specs.Runs.{edges_of}
use Rattle.handset.proofs.Joined.{Filled}
use Rattle.handset.proofs.play.Given as goal

abbrev pub invariant-loop-at : goal.invariant-loop-at
invariant-loop-at l = Filled (call_digits l.call) l.call.rate.hertz l.from l.initial.out l.out l.at × (l.edges ≡ edges_of l.call.rate.hertz (length (call_digits l.call)))

abbrev pub decreases-loop-at : goal.decreases-loop-at
decreases-loop-at l = length l.initial.out - l.at
