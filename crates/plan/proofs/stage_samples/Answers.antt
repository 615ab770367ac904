-- `plan::stage_samples` meets its contract: one of the plan's nine counts by its number, and 0 outside them. Assumes nothing.
use Rattle.std.proofs.Common.{ℕ, ◌-◌, ◌≤◌, List, get_or, ap, ◌∙◌, sym, arith}
use Rattle.std.proofs.lemmas.Grind.{common_steps}
use Rattle.plan.proofs.Counts.{stage-count, stage-none}
use Rattle.plan.proofs.stage_samples.Goals as goal

pub returns-then-contains : goal.returns-then-contains
returns-then-contains c =
    let some : 1 ≤ c.args.stage = grind (arith, common_steps) in
    ap (λ (s : List ℕ). get_or s (c.args.stage - 1) 0) c.samples_of.ensures ∙ stage-count _ _ _ some

pub returns : goal.returns
returns c = sym (stage-none _ _ _ (λ lo hi. grind (arith, common_steps)))
