-- `cue_sample` meets its contract: its sums are small. Assumes nothing.
use native.Mathlib.Nat.{le_of_lt}
use native.Mathlib.Omega.{arith}
use Rattle.schedule.proofs.Lengths.{click-range, dial-tone-range}
use Rattle.passage.proofs.Digits.{digits-before, digits-few}
use Rattle.cue.proofs.cue_sample.Goals as goal

pub overflow_add-result : goal.overflow_add-result
overflow_add-result c = let r = c.args.rate in omega (arith, c.stage_samples_for-click.ensures, c.stage_samples_for-tone.ensures, click-range _ r.slow r.fast, dial-tone-range _ r.slow r.fast)

pub overflow_add-result-2 : goal.overflow_add-result-2
overflow_add-result-2 c = let r = c.args.rate in omega (arith, c.stage_samples_for-click.ensures, c.stage_samples_for-tone.ensures, click-range _ r.slow r.fast, dial-tone-range _ r.slow r.fast, digits-few _ _ _ (le_of_lt c.requires) c.samples_of_digits-digits.ensures r.slow r.fast)

pub overflow_add-result-3 : goal.overflow_add-result-3
overflow_add-result-3 c = let r = c.args.rate in omega (arith, c.stage_samples_for-click.ensures, c.stage_samples_for-tone.ensures, click-range _ r.slow r.fast, dial-tone-range _ r.slow r.fast, digits-few _ _ _ (le_of_lt c.requires) c.samples_of_digits-digits.ensures r.slow r.fast)

pub returns : goal.returns
returns c = rw (digits-before _ _ _ (le_of_lt c.requires) c.samples_of_digits-digits.ensures, c.stage_samples_for-click.ensures, c.stage_samples_for-tone.ensures)
