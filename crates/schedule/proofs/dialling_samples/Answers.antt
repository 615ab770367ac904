-- `schedule::dialling_samples` meets its contract: within the limits by `dialling_end`, and 0 elsewhere, as the test has it. Assumes nothing.
use Rattle.std.proofs.Common.{◌∙◌, le-leb}
use Rattle.std.proofs.Math.Bool.{and-false}
use Rattle.std.proofs.lemmas.Bool.{lt-leb}
use Rattle.schedule.specs.Length.{dialling_samples}
use Rattle.schedule.proofs.dialling_samples.Goals as goal

pub returns-in-Some : goal.returns-in-Some
unfolding dialling_samples
returns-in-Some c =
    c.dialling_end.ensures ∙ rw (← c.in-Some.ensures, le-leb _ _ c.in-Some.rate.slow, le-leb _ _ c.in-Some.rate.fast, le-leb _ _ c.if-digits-le-MAX_DIGITS.true)

pub returns-in_default : goal.returns-in_default
unfolding dialling_samples
returns-in_default c = rw (lt-leb _ _ c.if-digits-le-MAX_DIGITS.false, and-false)

pub returns-in_default-2 : goal.returns-in_default-2
unfolding dialling_samples
returns-in_default-2 c = rw c.in_default.ensures
