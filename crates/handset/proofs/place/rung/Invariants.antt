-- `place::rung` meets its contract: what was counted up to a burst's or a gap's end is what the definition counts. Assumes nothing.
use Rattle.std.proofs.Common.{◌≡◌, ◌-◌, ◌≤◌}
use Rattle.handset.specs.Runs.{rung_before}
use Rattle.handset.proofs.place.rung.Given as goal

abbrev pub invariant-loop-at : goal.invariant-loop-at
invariant-loop-at l = (l.at ≤ l.n) × (l.k ≡ rung_before l.rate.hertz l.at)

abbrev pub decreases-loop-at : goal.decreases-loop-at
decreases-loop-at l = l.n - l.at
