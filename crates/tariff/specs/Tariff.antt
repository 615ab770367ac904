-- 02, E11: what a call would have cost. "Connected time is in whole milliseconds; a unit is 60,000 ms and 5 pence."
use Rattle.std.specs.Prelude.{ℕ, ◌+◌, ◌*◌, ◌/◌, ◌≤◌, Bool, true, false, ltb, Result, Ok, Err}
use Rattle.refusal.specs.declared.Refusal.{Refusal}
use Rattle.refusal.specs.declared.Refusal.TheVariants.{TooLong}
use Rattle.tariff.specs.declared.Bill.{Bill}

abbrev pub unit : ℕ
unit = 60000

abbrev pub unit_pence : ℕ
unit_pence = 5

abbrev pub longest_call : ℕ
longest_call = 86400000

-- "the answer holds the unit count and the pence"
abbrev pub charged : ℕ → Bill
charged units = record { units = units; pence = units * unit_pence }

-- what is told of an answer: one that is declined has the number of its cause, "with zeros"
abbrev pub told : Result Bill Refusal → Bill
told (Ok bill) = bill
told (Err cause) = record { units = 0; pence = 0 }

-- "a call of 0 ms costs nothing, otherwise each unit begun is charged"
unfoldable pub units_begun : ℕ → ℕ
units_begun ms = (ms + 59999) / unit

-- "up to 86,400,000 ms; above that it gives 13"
abbrev pub bill_by : (long : Bool) → ℕ → Result Bill Refusal
bill_by true units = Err TooLong
bill_by false units = Ok (charged units)

unfoldable pub bill_of : ℕ → Result Bill Refusal
bill_of ms = bill_by (ltb longest_call ms) (units_begun ms)

-- "no fewer units would cover the time"
pub record Least (units ms : ℕ) : Type 0 where
  pub covers : ms ≤ units * unit
  pub fewest : (k : ℕ) → ms ≤ k * unit → units ≤ k
