-- `shown::typed_all` meets its contract: the call is lent the fronts that the line names (`both-lent`). Assumes nothing.
use Prim.Native.Nat.{ℕ}
use mathlib.Core.Path.{◌∙◌}
use lib.ListN.{length}
use Rattle.set.specs.String.{typed_all}
use Rattle.panel.specs.Wall.{string_shown}
use Rattle.panel.proofs.Room.{both-lent}
use borrow.Author.Tests.{le-leb, lt-leb}
use Rattle.panel.proofs.shown.typed_all.Goals as goal

pub returns-then-n-outbox : goal.returns-then-n-outbox
returns-then-n-outbox c = c.nothing.ensures ∙ rw (lt-leb _ _ c.if-n-outbox.true)

pub returns-then-m-codes : goal.returns-then-m-codes
returns-then-m-codes c = c.nothing-then-m-codes.ensures ∙ rw (le-leb _ _ c.if-n-outbox.false, lt-leb _ _ c.if-m-codes.true)

pub returns : goal.returns
returns c = let a = c.args in
    c.feed_all.ensures
    ∙ both-lent a.set (λ (k l : ℕ). string_shown a.set (length a.string.now) (typed_all a.set a.string.now a.carrier k l)) a.n a.m a.outbox.now a.codes.now
    c.if-n-outbox.false c.if-m-codes.false
