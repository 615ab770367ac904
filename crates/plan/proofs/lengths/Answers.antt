-- `plan::lengths` meets its contract: each count is what its clock ensures, and fits by the stage's range. Assumes nothing.
use mathlib.Core.Path.{refl, sym, subst}
use native.Mathlib.Omega.{arith}
use lib.Dec.{lit<, lit≤}
use Rattle.schedule.specs.Symbols.{phase_after, done_after}
use Rattle.schedule.proofs.Constants.{three}
use Rattle.schedule.proofs.Lengths.{bits_range, ansam-range, silence-range}
use Rattle.plan.proofs.Bits.{Fewer, fewer-before, clock-number, clock-whole}
use Rattle.plan.proofs.lengths.Goals as goal

pub overflow_cast-ansam : goal.overflow_cast-ansam
overflow_cast-ansam c = omega (arith, rw three at c.stage_samples_for-ansam.ensures, (ansam-range _ c.args.call.now.rate.slow c.args.call.now.rate.fast).1)

pub overflow_cast-silence : goal.overflow_cast-silence
overflow_cast-silence c = omega (arith, c.stage_samples_for-silence.ensures, (silence-range _ c.args.call.now.rate.slow c.args.call.now.rate.fast).1)

pub run_to-ci-requires : goal.run_to-ci-requires
unfolding phase_after done_after
run_to-ci-requires c = (lit≤ tt, refl, lit< tt, λ j h. absurd (omega arith))

pub run_to-cm_jm-requires : goal.run_to-cm_jm-requires
run_to-cm_jm-requires c = let call = c.args.call.now in (
  lit≤ tt,
  clock-whole _ 60 _ c.run_to-ci.ensures.0,
  omega (arith, c.run_to-ci.ensures.1),
  subst (Fewer call.rate.hertz 80) (sym (clock-number _ 60 _ c.run_to-ci.ensures.0)) (fewer-before _ call.rate.slow call.rate.fast 80 (lit< tt) (lit≤ tt) 60 (lit< tt) (lit≤ tt)),
)

pub run_to-training-requires : goal.run_to-training-requires
run_to-training-requires c = let call = c.args.call.now in (
  lit≤ tt,
  clock-whole _ 80 _ c.run_to-cm_jm.ensures.0,
  omega (arith, c.run_to-cm_jm.ensures.1),
  subst (Fewer call.rate.hertz 300) (sym (clock-number _ 80 _ c.run_to-cm_jm.ensures.0)) (fewer-before _ call.rate.slow call.rate.fast 300 (lit< tt) (lit≤ tt) 80 (lit< tt) (lit≤ tt)),
)

pub overflow_add-cj : goal.overflow_add-cj
overflow_add-cj c = omega (arith, clock-number _ 60 _ c.run_to-ci.ensures.0, (bits_range _ c.args.call.now.rate.slow c.args.call.now.rate.fast 60 (lit≤ tt)).1, c.stage_samples_for-silence.ensures, (silence-range _ c.args.call.now.rate.slow c.args.call.now.rate.fast).1)

pub returns : goal.returns
returns c = rw (
  c.before_bits.ensures,
  rw three at c.stage_samples_for-ansam.ensures,
  c.stage_samples_for-silence.ensures,
  clock-number _ 60 _ c.run_to-ci.ensures.0,
  clock-number _ 80 _ c.run_to-cm_jm.ensures.0,
  clock-number _ 300 _ c.run_to-training.ensures.0,
)
