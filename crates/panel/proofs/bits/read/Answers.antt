-- `bits::read` meets its contract: the reader is lent the front that the line names. Assumes nothing.
use Prim.Native.Nat.{ℕ}
use mathlib.Core.Path.{ap, ◌∙◌}
use borrow.Author.Tests.{le-leb, lt-leb}
use lib.Seq.{length-take-le}
use Rattle.deframe.specs.Read.{marks_of, read_of, answer_of}
use Rattle.panel.proofs.bits.read.Goals as goal

pub returns-then-room-out : goal.returns-then-room-out
returns-then-room-out c = rw (lt-leb _ _ c.if-room-out.true) c.still.ensures

pub returns : goal.returns
returns c = let a = c.args in
    let fits = c.if-room-out.false in
    rw (le-leb _ _ fits)
    (c.read.ensures.value
    ∙ ap (λ (n : ℕ). answer_of (read_of n a.place (marks_of a.string.now))) (length-take-le a.room a.out.now fits))
