-- `Line::asked` meets its contract: what the numbers ask for, and what that says of a line is `answered`. Assumes nothing.
use mathlib.Core.Path.{◌≡◌}
use Rattle.bill.specs.Lines.{answer_of}
use Rattle.bill.proofs.Asked.{answered}
use Rattle.bill.proofs.lines.Line.asked.Goals as goal

pub returns-in_err-numbers : goal.returns-in_err-numbers
returns-in_err-numbers c =
    let v : c.from_residual.result ≡ answer_of c.args.self.now = rw (← c.numbers.ensures, c.in_err-numbers.was) c.from_residual.ensures in record { value = v; of_line = answered _ _ v }

pub returns : goal.returns
returns c =
    let v : c.numbers_asked.result ≡ answer_of c.args.self.now = rw (← c.numbers.ensures, c.in_ok-numbers.was) c.numbers_asked.ensures in record { value = v; of_line = answered _ _ v }
