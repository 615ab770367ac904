-- `plan::run_to` meets its contract: up to the clock's sample fewer bits are done, and where it stops they all are. Assumes nothing.
use Rattle.std.proofs.Common.{◌≡◌, ◌-◌, ◌≤◌}
use Rattle.plan.specs.Clock.{clock_after}
use Rattle.plan.proofs.Bits.{Fewer}
use Rattle.plan.proofs.run_to.Given as goal

abbrev pub invariant-loop-clock : goal.invariant-loop-clock
invariant-loop-clock l = (l.clock ≡ clock_after l.fn.rate.hertz l.clock.n) × (l.clock.done ≤ l.bits) × Fewer l.fn.rate.hertz l.bits l.clock.n

-- fewer than 300 bits take no more than 192,000 samples
abbrev pub decreases-loop-clock : goal.decreases-loop-clock
decreases-loop-clock l = 192001 - l.clock.n
