-- `play` meets its contract: the invariant is `Playing`, by whichever source tells what `step` returns. Assumes nothing.
use Rattle.std.proofs.Common.{◌≡◌, length}
use Rattle.std.specs.Prelude.{Float}
use Rattle.fsk.specs.Played.{Source}
use Rattle.fsk.proofs.Played.{Playing}
use Rattle.overture.proofs.play.Given as goal

abbrev pub invariant-loop-sample : goal.invariant-loop-sample
invariant-loop-sample g l = (f : Source g.row.X.Denot) → ((x : g.row.X.Denot) (s : Float) (y : g.row.X.Denot) → goal.F-post g l.step x (s, y) → (s ≡ f.sample x) × (y ≡ f.next x))
    → Playing f (length l.fn.out) l.initial.x l.fn.out l.out l.x l.sample-index
