-- What is left of the eight squarings gives the same from here.
use Rattle.std.proofs.Common.{◌≡◌, ◌-◌}
use Rattle.math.specs.Decay.{squared}
use Rattle.math.proofs.square_eight_times.Given as goal

abbrev pub invariant-loop : goal.invariant-loop
invariant-loop l = squared (8 - l.counter) l.p ≡ squared 8 l.fn.p
