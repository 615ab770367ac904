-- `console::lines::Parser::finish` meets its contract: the call of the letter and the numbers, and what that says of a line is `answered`. Assumes nothing.
use mathlib.Core.Path.{◌≡◌}
use Rattle.console.specs.Parser.{answer_of}
use Rattle.console.proofs.Parsed.{answered}
use Rattle.console.proofs.lines.Parser.finish.Goals as goal

pub returns-in_err-letter : goal.returns-in_err-letter
returns-in_err-letter c =
    let v : c.from_residual.result ≡ answer_of c.args.self.now = rw (← c.letter_and_numbers.ensures, c.in_err-letter.was) c.from_residual.ensures in
    record { value = v; of_line = answered _ _ v }

pub returns : goal.returns
returns c =
    let v : c.numbers_call.result ≡ answer_of c.args.self.now = rw (← c.letter_and_numbers.ensures, c.in_ok-letter.was) c.numbers_call.ensures in
    record { value = v; of_line = answered _ _ v }
