-- `Call::rate_of` meets its contract: the causes in their order. Assumes nothing.
use Rattle.std.proofs.Common.{◌≡◌, ◌≤◌, false, length, sym, ap, ◌∙◌, subst, ℕ, rules}
use Rattle.std.specs.Prelude.{Err}
use Rattle.schedule.specs.Rate.{is_rate}
use Rattle.refusal.specs.declared.Refusal.TheVariants.{Rate}
use Rattle.plan.specs.Plan.{plan_cause}
use Rattle.plan.proofs.Counts.{limits-accepted, no_rate, too_many}
use Rattle.plan.proofs.call.Call.rate_of.Goals as goal
use Rattle.plan.proofs.call.Call.rate_of.Goals.{In_ok-rate}

given : (c : In_ok-rate) → c.in_ok-rate.rate.hertz ≡ c.args.rate
given c = rw c.in_ok-rate.ensures.ok_part at c.new.ensures

slow : (c : In_ok-rate) → 8000 ≤ c.args.rate
slow c = subst (λ (r : ℕ). 8000 ≤ r) (given c) c.in_ok-rate.rate.slow

fast : (c : In_ok-rate) → c.args.rate ≤ 192000
fast c = subst (λ (r : ℕ). r ≤ 192000) (given c) c.in_ok-rate.rate.fast

pub returns-in_err-rate : goal.returns-in_err-rate
returns-in_err-rate c =
    let none : is_rate c.args.rate ≡ false = rw c.in_err-rate.ensures.ok_part at c.new.ensures in
    let value = rw c.in_err-rate.ensures.ok_part at c.in_err-rate.ensures.value in
    let why : c.in_err-rate.field-0.0 ≡ Rate = cc in
    let e : plan_cause c.args.count c.args.rate ≡ Err c.in_err-rate.field-0.0 = no_rate _ _ none ∙ ap Err (sym why) in search rules

pub returns-then-count-gt-MAX_DIGITS : goal.returns-then-count-gt-MAX_DIGITS
returns-then-count-gt-MAX_DIGITS c = let k = (goal.at.returns-then-count-gt-MAX_DIGITS c).In_ok-rate in too_many _ _ (slow k) (fast k) c.if-count-gt-MAX_DIGITS.true

pub returns : goal.returns
returns c = let k = (goal.at.returns c).In_ok-rate in record {
  is_taken = limits-accepted _ _ (slow k) (fast k) c.if-count-gt-MAX_DIGITS.false;
  few = c.if-count-gt-MAX_DIGITS.false;
  rate = given k;
}
