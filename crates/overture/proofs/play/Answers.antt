-- `play` meets its contract: the invariant is `Playing`, by whichever source tells what `step` returns. Assumes nothing.
use native.Mathlib.Nat.{le_refl}
use native.Mathlib.Omega.{arith}
use mathlib.Core.Path.{ap, ◌∙◌}
use Rattle.math.specs.Narrow.{narrowed}
use Rattle.fsk.proofs.Played.{playing-start, playing-long, playing-again, playing-done}
use Rattle.overture.proofs.play.Goals as goal

pub loop-sample-init : goal.loop-sample-init
loop-sample-init g c = λ f h. playing-start _ _ _ _ (le_refl _)

pub loop-sample-preserved : goal.loop-sample-preserved
loop-sample-preserved g c = λ f h.
    let e = h _ _ _ c.step-made.ensures in
    let P = c.loop-sample.invariant f h in
    let n = playing-long _ _ _ _ _ _ _ P in
    let l = c.loop-sample-test.true in
    playing-again _ _ _ _ _ _ _ P (omega (arith, l, n)) _ _ (c.narrow.ensures ∙ ap narrowed e.0) e.1

pub returns : goal.returns
returns g c = λ f h.
    let P = c.loop-sample.invariant f h in
    let n = playing-long _ _ _ _ _ _ _ P in
    let l = c.loop-sample-test.false in
    playing-done _ _ _ _ _ _ _ P (omega (arith, l, n))
