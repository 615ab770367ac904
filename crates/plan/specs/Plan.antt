-- 02, E4: for digit bytes and a rate, the samples of each of stages 1 to 9 and T.
use Rattle.std.specs.Prelude.{ℕ, ◌+◌, ◌*◌, ◌≤◌, Bool, true, false, ◌&&◌, List, ◌∷◌, leb, length, get_or, replicate, Result, Ok, Err}
use Rattle.keys.specs.Keys.{digits_of}
use Rattle.schedule.specs.Time.{min_rate, max_rate}
use Rattle.schedule.specs.Length.{max_digits, stage_lengths, total}
use Rattle.refusal.specs.declared.Refusal.{Refusal}
use Rattle.refusal.specs.declared.Refusal.TheVariants.{Rate, Digits}
use Rattle.refusal.specs.Refusal.{answer_number}
use Rattle.plan.specs.declared.Plan.{Plan}

-- 1 and 10, and 0 for none
abbrev pub plan_refusal_number : Result (Unit {0}) Refusal → ℕ
plan_refusal_number cause = answer_number cause

-- a bad rate gives 1, then more than 76 bytes, keys or not, give 10
abbrev pub cause_of_plan : (rate few : Bool) → Result (Unit {0}) Refusal
cause_of_plan false few = Err Rate
cause_of_plan true false = Err Digits
cause_of_plan true true = Ok tt

unfoldable pub plan_cause : ℕ → ℕ → Result (Unit {0}) Refusal
plan_cause len r = cause_of_plan (leb min_rate r && leb r max_rate) (leb len max_digits)

-- bytes that are no keys are dropped as in a dial line
abbrev pub digit_count : List ℕ → ℕ
digit_count bytes = length (digits_of bytes)

-- of d digits at the rate r
abbrev pub plan_at : ℕ → ℕ → Plan
plan_at r d = record { samples = stage_lengths r d }

-- what is declined has no plan
abbrev pub plan_by : Result (Unit {0}) Refusal → ℕ → ℕ → Result Plan Refusal
plan_by (Ok accepted) r d = Ok (plan_at r d)
plan_by (Err refusal) r d = Err refusal

unfoldable pub plan_of : List ℕ → ℕ → Result Plan Refusal
plan_of bytes r = plan_by (plan_cause (length bytes) r) r (digit_count bytes)

-- all counts are zero without a plan
abbrev pub counts_of : Result Plan Refusal → List ℕ
counts_of (Ok plan) = plan.samples
counts_of (Err refusal) = replicate 9 0

-- the samples of a stage, 0 for a stage outside 1 to 9
unfoldable pub stage_samples : List ℕ → ℕ → ℕ → ℕ
stage_samples bytes r stage = get_or (0 ∷ counts_of (plan_of bytes r)) stage 0

-- T
abbrev pub total_by : Result (Unit {0}) Refusal → ℕ → ℕ → ℕ
total_by (Ok accepted) r d = total r d
total_by (Err refusal) r d = 0

unfoldable pub total_samples : List ℕ → ℕ → ℕ
total_samples bytes r = total_by (plan_cause (length bytes) r) r (digit_count bytes)

-- demand 3's bounds, of T
pub record BoundsOf (r d T : ℕ) : Type 0 where
  pub least : 1175 * r + 24 * d * r ≤ 120 * T + 120
  pub most : 120 * T ≤ 1175 * r + 24 * d * r + 720
