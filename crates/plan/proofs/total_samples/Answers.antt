-- `plan::total_samples` meets its contract: the nine counts' sum is T, so no part of it is too large, and T is the overture's length. Assumes nothing.
use Rattle.std.proofs.Common.{◌≡◌, ◌<◌, ap, ◌∙◌, sym, subst, lt_of_le_of_lt, le_of_eq, le_trans, lit<, rules}
use Rattle.std.specs.Prelude.{sum}
use Rattle.keys.specs.Keys.{digits_of}
use Rattle.passage.specs.Overture.{HasLength}
use Rattle.plan.specs.Plan.{digit_count, total_samples, BoundsOf}
use Rattle.plan.proofs.Counts.{sum-is, total-small, planned-length, planned-bounds}
use Rattle.plan.proofs.total_samples.Goals as goal
use Rattle.plan.proofs.total_samples.Goals.{After-samples_of-counts}

total : (c : After-samples_of-counts) → sum c.samples_of-counts.result ≡ total_samples c.args.digits.now c.args.rate
total c = ap sum c.samples_of-counts.ensures ∙ sum-is _ _

pub sum-requires-clause-fits : goal.sum-requires-clause-fits
sum-requires-clause-fits c =
    let h : sum c.samples_of-counts.result < 4294967296 = lt_of_le_of_lt (le_trans (le_of_eq (total (goal.at.sum-requires-clause-fits c).After-samples_of-counts)) (total-small _ _)) (lit< tt) in search rules

pub returns : goal.returns
returns c =
    let e : c.sum.result ≡ sum c.samples_of-counts.result = search rules in
    let T : c.sum.result ≡ total_samples c.args.digits.now c.args.rate = e ∙ total (goal.at.returns c).After-samples_of-counts in record {
      value = T;
      has_length = λ lo hi few. subst (HasLength (digits_of c.args.digits.now) c.args.rate) (sym T) (planned-length _ _ lo hi few);
      bounds_of = λ lo hi few. subst (BoundsOf c.args.rate (digit_count c.args.digits.now)) (sym T) (planned-bounds _ _ lo hi few);
    }
