-- `shown::typed` meets its contract: the call is lent the front that the line names (`front-lent`). Assumes nothing.
use Prim.Native.Nat.{ℕ}
use mathlib.Core.Path.{◌∙◌}
use Rattle.set.specs.Set.{typed}
use Rattle.panel.specs.Wall.{typed_shown}
use Rattle.panel.proofs.Room.{no_room, front-lent}
use Rattle.panel.proofs.shown.typed.Goals as goal

pub returns-then-n-outbox : goal.returns-then-n-outbox
returns-then-n-outbox c = let a = c.args in
    c.nothing.ensures ∙ no_room a.set (λ (k : ℕ). typed_shown a.set (typed a.set a.byte a.carrier k)) a.n a.outbox.now c.if-n-outbox.true

pub returns : goal.returns
returns c = let a = c.args in
    c.feed.ensures ∙ front-lent a.set (λ (k : ℕ). typed_shown a.set (typed a.set a.byte a.carrier k)) a.n a.outbox.now c.if-n-outbox.false
