-- `raised_if` meets its contract: by whether the line goes up. Assumes nothing.
use Rattle.set.proofs.raised_if.Goals as goal

pub returns-then-up : goal.returns-then-up
returns-then-up c = rw (c.if-up.true, c.raised.ensures)

pub returns : goal.returns
returns c = rw c.if-up.false
