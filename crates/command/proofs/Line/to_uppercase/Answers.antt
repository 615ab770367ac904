-- `command::Line::to_uppercase` meets its contract: the bytes done, followed by those to come raised, are all of them raised. Assumes nothing.
use mathlib.Core.Path.{sym, ◌∙◌}
use native.Mathlib.Omega.{arith}
use Rattle.ascii.specs.Upper.{upper}
use Rattle.command.specs.Line.{uppercased}
use Rattle.command.proofs.Mapped.{done}
use Rattle.command.proofs.Line.to_uppercase.Goals as goal

pub returns : goal.returns
unfolding uppercased
returns c =
    let l = c.loop-byte in
    let long = c.loop-byte-test.array_long in
    let all = sym (done upper l.byte-items l.byte-index (omega (arith, c.loop-byte-test.false, long))) ∙ l.invariant in
    rw all
