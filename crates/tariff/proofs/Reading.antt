-- 02, E11 and E12 read off `charge` and `charge_from`, each promise at its full strength, so that one that says less is refused here. Assumes
-- nothing.
use Prim.Native.Nat.{ℕ, ◌+◌, ◌*◌, ◌≤◌, ◌<◌}
use mathlib.Core.Path.{◌≡◌}
use Rattle.std.specs.Prelude.{Result}
use Rattle.refusal.specs.declared.Refusal.{Refusal}
use Rattle.tariff.specs.declared.Bill.{Bill}
use Rattle.tariff.specs.Tariff.{unit, longest_call, told, bill_of}
use Rattle.tariff.specs.Hours.{week_seconds, bought, bill_from}
use Rattle.tariff.proofs.charge.Reads as charge
use Rattle.tariff.proofs.charge_from.Reads as charge-from

module _ (ms : ℕ) (bill : Result Bill Refusal) (d : charge.Learnt tt (ms, tt) bill (ms, tt)) where
  pub is-the-bill : bill ≡ bill_of ms
  is-the-bill = d.0

  pub units-cover : ms ≤ longest_call → ms ≤ (told bill).units * unit
  units-cover most = (d.1.0 most).covers

  pub no-fewer-cover : ms ≤ longest_call → (k : ℕ) → ms ≤ k * unit → (told bill).units ≤ k
  no-fewer-cover most = (d.1.0 most).fewest

  pub longer-costs-no-less : (longer : ℕ) → ms ≤ longer → longer ≤ longest_call → (told bill).pence ≤ (told (bill_of longer)).pence
  longer-costs-no-less = d.1.1

module _ (ms start : ℕ) (bill : Result Bill Refusal) (d : charge-from.Learnt tt (ms, (start, tt)) bill (ms, (start, tt))) where
  pub is-the-bill-from : bill ≡ bill_from ms start
  is-the-bill-from = d.0

  module _ (most : ms ≤ longest_call) (in_week : start < week_seconds) where
    pub bought-cover : ms ≤ bought start (told bill).units
    bought-cover = (d.1.0 most in_week).covers

    pub all-but-the-last-do-not : (k : ℕ) → k < (told bill).units → bought start k < ms
    all-but-the-last-do-not = (d.1.0 most in_week).needed

  pub longer-from-costs-no-less : (longer : ℕ) → ms ≤ longer → longer ≤ longest_call → (told bill).pence ≤ (told (bill_from longer start)).pence
  longer-from-costs-no-less = d.1.1.0

  -- from 08:00:00 to 18:00:00 of whichever of the five days
  pub inside-peak-is-plain : (weekday : ℕ) → weekday < 5 → weekday * 86400000 + 28800000 ≤ start * 1000 → start * 1000 + ms ≤ weekday * 86400000 + 64800000 → bill ≡ bill_of ms
  inside-peak-is-plain weekday early begins ends = d.1.1.1 (record { weekday = weekday; is_weekday = early; begins = begins; ends = ends })
