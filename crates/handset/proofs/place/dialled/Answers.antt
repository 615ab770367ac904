-- `place::dialled` meets its contract: the clock's pair of digit and tone, for as long as it stays, after the steps since the digit's first sample.
-- Assumes nothing.
use Rattle.std.proofs.Common.{◌≡◌, ℕ, ◌≤◌, List, refl, ap, ◌∙◌, le_trans, le_of_eq, le_of_lt, lit≤, arith}
use Rattle.schedule.specs.Time.{time_at}
use Rattle.schedule.specs.Dialling.{digit_at, in_tone}
use Rattle.schedule.proofs.Lengths.{dialling-range}
use Rattle.tones.specs.Dial.{dialled_key}
use Rattle.plan.proofs.Dialled.{call-few}
use Rattle.passage.specs.Lengths.{samples_of_digits}
use Rattle.passage.proofs.Digits.{digits-before, digits-few}
use Rattle.handset.specs.Sound.{key_sound}
use Rattle.handset.proofs.Digits.{start-before}
use Rattle.handset.proofs.Stages.{digit-few}
use Rattle.handset.proofs.Lifted.{dialled-run}
use Rattle.handset.proofs.place.dialled.Goals as goal
use Rattle.handset.proofs.place.dialled.Goals.{After-dialled_key}

-- the digit is one that the call has, and n no less than its first sample
digit : (c : After-dialled_key) → c.dialling_phase-phase.result.digit ≡ digit_at (time_at c.args.call.now.rate.hertz c.args.n)
digit c = c.dialling_phase-phase.ensures.0 ∙ ap digit_at c.seconds.ensures

short : (c : After-dialled_key) → c.args.n ≤ 0x1000_0000
short c =
    le_trans (le_of_lt c.requires.0) (le_trans (dialling-range _ c.args.call.now.rate.slow c.args.call.now.rate.fast _ (call-few c.args.call.now _ refl)).1 (lit≤ tt))

few : (c : After-dialled_key) → digit_at (time_at c.args.call.now.rate.hertz c.args.n) ≤ 76
few c = le_trans (digit-few _ c.args.call.now.rate.slow c.args.call.now.rate.fast _ (call-few c.args.call.now _ refl) _ c.requires.0) (lit≤ tt)

begins : (c : After-dialled_key) → c.samples_of_digits-start.result ≡ samples_of_digits c.args.call.now.rate.hertz c.dialling_phase-phase.result.digit
begins c = digits-before _ _ _ (le_trans (le_of_eq (digit c)) (few c)) c.samples_of_digits-start.ensures

starts : (c : After-dialled_key) → c.samples_of_digits-start.result ≤ c.args.n
starts c = le_trans (le_of_eq (begins c ∙ ap (samples_of_digits _) (digit c))) (start-before _ c.args.call.now.rate.slow c.args.call.now.rate.fast _ _ (few c) refl)

pub overflow_cast-start : goal.overflow_cast-start
overflow_cast-start c =
    let digit = c.dialling_phase-phase.ensures.0 ∙ ap digit_at c.seconds.ensures in
    let few = le_trans (digit-few _ c.args.call.now.rate.slow c.args.call.now.rate.fast _ (call-few c.args.call.now _ refl) _ c.requires.0) (lit≤ tt) in
    omega (arith, digits-few _ _ _ (le_trans (le_of_eq digit) few) c.samples_of_digits-start.ensures c.args.call.now.rate.slow c.args.call.now.rate.fast)

pub overflow_sub-result : goal.overflow_sub-result
overflow_sub-result c = starts (goal.at.overflow_sub-result c).After-dialled_key

pub returns : goal.returns
returns c = dialled-run _ _ _ _ _ _ _ _ _ (short (goal.at.returns c).After-dialled_key) c.requires.1 c.requires.2 (digit (goal.at.returns c).After-dialled_key) (c.dialling_phase-phase.ensures.1 ∙ ap in_tone c.seconds.ensures) c.dialling_run-more.ensures (begins (goal.at.returns c).After-dialled_key) (starts (goal.at.returns c).After-dialled_key) (c.key_sound-sound.ensures ∙ ap key_sound c.dialled_key.ensures ∙ ap (λ (ds : List ℕ). key_sound (dialled_key ds c.dialling_phase-phase.result.digit c.dialling_phase-phase.result.tone)) c.digits.ensures)
