-- `samples_of_digits` meets its contract: none, or what the schedule tells. Assumes nothing.
use mathlib.Core.Path.{◌∙◌}
use Rattle.passage.proofs.Digits.{digits-told}
use Rattle.passage.proofs.samples_of_digits.Goals as goal

pub returns : goal.returns
returns c = c.dialling_samples.ensures ∙ digits-told _ _ c.if-digit-eq0.false c.args.rate.slow c.args.rate.fast
