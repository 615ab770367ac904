-- `Call::before_bits` meets its contract: each count is what its clock ensures, and fits by the stage's range. Assumes nothing.
use mathlib.Core.Path.{◌∙◌}
use native.Mathlib.Omega.{arith}
use Rattle.schedule.proofs.Constants.{four}
use Rattle.schedule.proofs.Lengths.{click-range, dial-tone-range, dialling-range, ringback-range}
use Rattle.plan.proofs.Dialled.{call-few}
use Rattle.plan.proofs.Counts.{dialling-is}
use Rattle.plan.proofs.call.Call.before_bits.Goals as goal

pub overflow_cast-click : goal.overflow_cast-click
overflow_cast-click c = let r = c.args.self.now.rate in omega (arith, c.stage_samples_for-click.ensures, (click-range _ r.slow r.fast).1)

pub overflow_cast-tone : goal.overflow_cast-tone
overflow_cast-tone c = let r = c.args.self.now.rate in omega (arith, c.stage_samples_for-tone.ensures, (dial-tone-range _ r.slow r.fast).1)

pub overflow_cast-dialling : goal.overflow_cast-dialling
overflow_cast-dialling c = let r = c.args.self.now.rate in
    let few = call-few c.args.self.now _ c.digits.ensures in
    omega (arith, c.dialling_samples-dialling.ensures, dialling-is _ r.slow r.fast _ few, (dialling-range _ r.slow r.fast _ few).1)

pub overflow_cast-ringback : goal.overflow_cast-ringback
overflow_cast-ringback c = let r = c.args.self.now.rate in omega (arith, rw four at c.stage_samples_for-ringback.ensures, (ringback-range _ r.slow r.fast).1)

pub returns : goal.returns
returns c = let r = c.args.self.now.rate in rw (
  c.stage_samples_for-click.ensures,
  c.stage_samples_for-tone.ensures,
  c.dialling_samples-dialling.ensures ∙ dialling-is _ r.slow r.fast _ (call-few c.args.self.now _ c.digits.ensures),
  c.digits.ensures,
  rw four at c.stage_samples_for-ringback.ensures,
)
