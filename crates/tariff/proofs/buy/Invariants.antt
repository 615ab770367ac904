-- `buy` meets its contract: so many milliseconds are bought with so many units, and fewer do not cover the time (`Buying`). The measure is the time that is
-- not covered. Assumes nothing.
use Prim.Native.Nat.{◌-◌}
use Rattle.tariff.proofs.Hours.{Buying}
use Rattle.tariff.proofs.buy.Given as goal

abbrev pub invariant-loop-bought : goal.invariant-loop-bought
invariant-loop-bought l = Buying l.start l.ms l.bought l.units

abbrev pub decreases-loop-bought : goal.decreases-loop-bought
decreases-loop-bought l = l.ms - l.bought
