-- `shown::filled` meets its contract: the call is lent the front that the line names (`front-lent`). Assumes nothing.
use Prim.Native.Nat.{ℕ}
use mathlib.Core.Path.{◌∙◌}
use Rattle.set.specs.Set.{fill}
use Rattle.panel.specs.Wall.{filled_shown}
use Rattle.panel.proofs.Room.{no_room, front-lent}
use Rattle.panel.proofs.shown.filled.Goals as goal

pub returns-then-n-samples : goal.returns-then-n-samples
returns-then-n-samples c = let a = c.args in
    c.nothing.ensures ∙ no_room a.set (λ (k : ℕ). filled_shown a.set k (fill a.set k)) a.n a.samples.now c.if-n-samples.true

pub returns : goal.returns
returns c = let a = c.args in
    c.fill.ensures ∙ front-lent a.set (λ (k : ℕ). filled_shown a.set k (fill a.set k)) a.n a.samples.now c.if-n-samples.false
