-- `Line::asked` meets its contract: what the letter and the numbers ask for, and what that says of a line is `answered`. Assumes nothing.
use mathlib.Core.Path.{◌≡◌}
use Rattle.serial.specs.Lines.{answer_of}
use Rattle.serial.proofs.Asked.{answered}
use Rattle.serial.proofs.lines.Line.asked.Goals as goal

pub returns-in_err-letter : goal.returns-in_err-letter
returns-in_err-letter c =
    let v : c.from_residual.result ≡ answer_of c.args.self.now = rw (← c.letter_and_numbers.ensures, c.in_err-letter.was) c.from_residual.ensures in record { value = v; of_line = answered _ _ v }

pub returns : goal.returns
returns c =
    let v : c.numbers_asked.result ≡ answer_of c.args.self.now = rw (← c.letter_and_numbers.ensures, c.in_ok-letter.was) c.numbers_asked.ensures in record { value = v; of_line = answered _ _ v }
