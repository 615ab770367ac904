-- 02, E4: a call's digits, and of which bytes and at which rate a call is.
use Rattle.std.specs.Prelude.{◌≡◌, ◌≤◌, ℕ, List, length, take, Ok}
use Rattle.keys.specs.Keys.{digits_of}
use Rattle.schedule.specs.declared.rate.Rate.{Rate}
use Rattle.schedule.specs.Length.{max_digits}
use Rattle.plan.specs.declared.call.Call.{Call}
use Rattle.plan.specs.Plan.{plan_cause}

abbrev pub call_digits : Call → List ℕ
call_digits call = take call.digits.len call.digits.keys

pub record IsCallOf (call : Call) (bytes : List ℕ) (r : ℕ) : Type 0 where
  pub accepted : plan_cause (length bytes) r ≡ Ok tt
  pub digits : call_digits call ≡ digits_of bytes
  pub rate : call.rate.hertz ≡ r

-- the rate of a call of so many bytes
pub record IsRateOf (accepted : Rate) (count r : ℕ) : Type 0 where
  pub is_taken : plan_cause count r ≡ Ok tt
  pub few : count ≤ max_digits
  pub rate : accepted.hertz ≡ r
