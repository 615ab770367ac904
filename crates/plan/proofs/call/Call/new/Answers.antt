-- `Call::new` meets its contract: a line has room for all of so few bytes. Assumes nothing.
use Rattle.plan.proofs.Dialled.{digits_are, count-few}
use Rattle.plan.proofs.call.Call.new.Goals as goal

pub invariant_of-result : goal.invariant_of-result
invariant_of-result c = record { few = count-few _ _ c.dialled-digits.ensures c.in_ok-rate.ensures.few }

pub returns : goal.returns
returns c = let e = c.in_ok-rate.ensures in record {
  accepted = e.is_taken;
  digits = digits_are _ _ c.dialled-digits.ensures e.few;
  rate = e.rate;
}
