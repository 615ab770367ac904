-- `buy` meets its contract: so many milliseconds are bought with so many units, and fewer do not cover the time (`Buying`). The measure is the time that is
-- not covered. Assumes nothing.
use Prim.Native.Nat.{ℕ, ◌≤◌}
use mathlib.Core.Path.{sym, subst}
use native.Mathlib.Nat.{le_trans}
use native.Mathlib.Omega.{arith}
use Rattle.tariff.proofs.Hours.{unit-low, unit-high, buying-none, buying-on, buying-few, needed-few, buying-done}
use Rattle.tariff.proofs.buy.Goals as goal

pub loop-bought-init : goal.loop-bought-init
loop-bought-init c = buying-none c.args.start c.args.ms

pub overflow_add-bought : goal.overflow_add-bought
overflow_add-bought c = omega (arith, c.loop-bought-test.true, c.requires.0, subst (λ (z : ℕ). z ≤ 180000) (sym c.unit_at-bought.ensures) (unit-high _))

pub overflow_add-units : goal.overflow_add-units
overflow_add-units c = omega (arith, c.loop-bought-test.true, c.requires.0, buying-few _ _ _ _ c.loop-bought.invariant)

pub loop-bought-smaller : goal.loop-bought-smaller
loop-bought-smaller c = omega (arith, c.loop-bought-test.true, subst (λ (z : ℕ). 60000 ≤ z) (sym c.unit_at-bought.ensures) (unit-low _))

pub loop-bought-preserved : goal.loop-bought-preserved
loop-bought-preserved c = buying-on _ _ _ _ _ c.unit_at-bought.ensures c.loop-bought.invariant c.loop-bought-test.true

pub returns : goal.returns
returns c = let i = c.loop-bought.invariant in
    record { value = buying-done _ _ _ _ i c.loop-bought-test.false; upper_bound = le_trans (needed-few _ _ _ i.needed) c.requires.0 }
