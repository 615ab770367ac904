-- 01, "Stages": how many samples each stage has, and how many come before it, for d digits at the rate r.
use Rattle.std.specs.Prelude.{ℕ, zero, suc, ◌-◌, get_or, take}
use Rattle.schedule.specs.Length.{stage_lengths, sum, dialling_length}
use Rattle.stage.specs.declared.Stage.{Stage}
use Rattle.stage.specs.Stage.{stage_number}

-- Connected has no end, and no samples of its own are counted
unfoldable pub stage_length : Stage → ℕ → ℕ → ℕ
stage_length k r d = get_or (stage_lengths r d) (stage_number k - 1) 0

-- the samples before a stage's first
unfoldable pub samples_before : Stage → ℕ → ℕ → ℕ
samples_before k r d = sum (take (stage_number k - 1) (stage_lengths r d))

-- of Dialling, the samples before those of the digit at position p: the p digits' before it, tones and gaps
abbrev pub samples_of_digits : ℕ → ℕ → ℕ
samples_of_digits r zero = 0
samples_of_digits r (suc p) = dialling_length r (suc p)
