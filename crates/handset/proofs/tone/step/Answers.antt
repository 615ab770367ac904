-- `tone::step` meets its contract: a tone below the rate has a step below 2^32. Assumes nothing.
use Rattle.std.proofs.Common.{ℕ, ◌*◌, ◌/◌, ◌^◌, ◌<◌, ◌≤◌, refl, div-lt_iff_lt-mul, arith}
use Rattle.handset.specs.Tone.{step_of}
use Rattle.handset.proofs.tone.step.Goals as goal

small : (f r : ℕ) → f < 8000 → 8000 ≤ r → f * 4294967296 / r < 2 ^ 32
small f r h k =
    let some : 0 < r = omega arith in
    let most : f * 4294967296 < 2 ^ 32 * r = omega arith in
    (div-lt_iff_lt-mul some).1 most

pub overflow_cast-result-3 : goal.overflow_cast-result-3
overflow_cast-result-3 c = record { fits = small c.args.hertz c.args.rate.hertz c.requires c.args.rate.slow }

pub returns : goal.returns
unfolding step_of
returns c = refl
