-- 02, E12: peak and cheap hours. "The start is a second of the week, from Monday 00:00."
use Rattle.std.specs.Prelude.{ℕ, zero, suc, ◌+◌, ◌*◌, ◌/◌, ◌%◌, ◌≤◌, ◌<◌, Bool, true, false, cond, ◌&&◌, leb, ltb, Result, Ok, Err}
use Rattle.refusal.specs.declared.Refusal.{Refusal}
use Rattle.refusal.specs.declared.Refusal.TheVariants.{TooLong, Start}
use Rattle.tariff.specs.declared.Bill.{Bill}
use Rattle.tariff.specs.Tariff.{unit, longest_call, charged}

-- a week in seconds, and in milliseconds
abbrev pub week_seconds : ℕ
week_seconds = 604800

abbrev pub week : ℕ
week = 604800000

-- a day, 08:00:00 and 18:00:00 in milliseconds
abbrev pub day : ℕ
day = 86400000

abbrev pub peak_begins : ℕ
peak_begins = 28800000

abbrev pub peak_ends : ℕ
peak_ends = 64800000

-- "Monday to Friday from 08:00:00 to before 18:00:00 is peak": of a millisecond of the week
unfoldable pub is_peak : ℕ → Bool
is_peak t = ltb (t / day) 5 && (leb peak_begins (t % day) && ltb (t % day) peak_ends)

-- "a unit of 60,000 ms; all else is cheap, 180,000 ms"
abbrev pub unit_by : (peak : Bool) → ℕ
unit_by true = unit
unit_by false = 180000

unfoldable pub unit_at : ℕ → ℕ
unit_at t = unit_by (is_peak t)

-- "a unit has the length of the band in which it starts, to the millisecond, and Sunday runs on into Monday": the next unit after so many milliseconds
abbrev pub next_unit : ℕ → ℕ → ℕ
next_unit start bought = unit_at ((start * 1000 + bought) % week)

-- the milliseconds bought with k units, one after another
unfoldable pub bought : ℕ → ℕ → ℕ
bought start zero = 0
bought start (suc k) = bought start k + next_unit start (bought start k)

-- "units are bought until the time is covered": from k units on, with so many steps at most
unfoldable pub buying : (steps : ℕ) → ℕ → ℕ → ℕ → ℕ
buying zero start ms k = k
buying (suc steps) start ms k = cond (leb ms (bought start k)) k (buying steps start ms (suc k))

-- "their count in the answer is that of these steps"; a unit is a millisecond at least, so as many steps as milliseconds are enough
unfoldable pub units_bought : ℕ → ℕ → ℕ
units_bought start ms = buying ms start ms 0

-- they cover the time, and all but the last do not
pub record Bought (start ms units : ℕ) : Type 0 where
  pub covers : ms ≤ bought start units
  pub needed : (k : ℕ) → k < units → bought start k < ms

-- "after 13, a start of 604,800 or more gives 14, with zeros" (`told`)
abbrev pub bill_from_by : (long late : Bool) → ℕ → Result Bill Refusal
bill_from_by true late units = Err TooLong
bill_from_by false true units = Err Start
bill_from_by false false units = Ok (charged units)

unfoldable pub bill_from : ℕ → ℕ → Result Bill Refusal
bill_from ms start = bill_from_by (ltb longest_call ms) (leb week_seconds start) (units_bought start ms)

-- "calls inside peak": from the start on, within one of the five peak periods
pub record InsidePeak (start ms : ℕ) : Type 0 where
  pub weekday : ℕ
  pub is_weekday : weekday < 5
  pub begins : weekday * day + peak_begins ≤ start * 1000
  pub ends : start * 1000 + ms ≤ weekday * day + peak_ends
