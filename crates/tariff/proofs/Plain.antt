-- The plain tariff: the units begun cover the time, no fewer do, and a longer call never costs less, by what a quotient of whole numbers is. Computed
-- at the edges that 02 names. Assumes nothing.
use Prim.Native.Nat.{ℕ, ◌≤◌, ◌<◌}
use mathlib.Core.Path.{◌≡◌, refl}
use mathlib.Core.List.{[], ◌∷◌, map}
use native.Mathlib.Nat.{le_trans}
use native.Mathlib.Omega.{arith}
use borrow.Author.Tests.{le-ltb, lt-ltb}
use Rattle.std.specs.Int.{div_ceil}
use Rattle.std.specs.Prelude.{Result, Ok, Err}
use Rattle.refusal.specs.declared.Refusal.{Refusal}
use Rattle.refusal.specs.declared.Refusal.TheVariants.{TooLong}
use Rattle.tariff.specs.declared.Bill.{Bill}
use Rattle.tariff.specs.Tariff.{unit, longest_call, charged, told, units_begun, bill_of, Least}

pub begun-least : (ms : ℕ) → Least (units_begun ms) ms
unfolding units_begun
begun-least ms = record { covers = omega arith; fewest = λ k h. omega arith }

pub begun-ceiling : (ms : ℕ) → div_ceil ms unit ≡ units_begun ms
unfolding units_begun
begun-ceiling ms = omega arith

pub begun-rises : (ms longer : ℕ) → ms ≤ longer → units_begun ms ≤ units_begun longer
begun-rises ms longer h = (begun-least ms).fewest (units_begun longer) (le_trans h (begun-least longer).covers)

pub charged-bill : (ms : ℕ) → ms ≤ longest_call → bill_of ms ≡ Ok (charged (units_begun ms))
unfolding bill_of
charged-bill ms h = rw (le-ltb _ _ h)

pub declined-bill : (ms : ℕ) → longest_call < ms → bill_of ms ≡ Err TooLong
unfolding bill_of
declined-bill ms h = rw (lt-ltb _ _ h)

pub bill-least : (ms : ℕ) → ms ≤ longest_call → Least (told (bill_of ms)).units ms
bill-least ms h = rw (charged-bill ms h) (begun-least ms)

pub bill-rises : (ms longer : ℕ) → ms ≤ longer → longer ≤ longest_call → (told (bill_of ms)).pence ≤ (told (bill_of longer)).pence
bill-rises ms longer h l = rw (charged-bill ms (le_trans h l), charged-bill longer l) (omega (arith, begun-rises ms longer h))

-- so whatever answer is the bill's keeps what `charge` promises
pub promised : (ms : ℕ) (r : Result Bill Refusal) → r ≡ bill_of ms → (r ≡ bill_of ms) × ((ms ≤ longest_call → Least (told r).units ms) × ((longer : ℕ) → ms ≤ longer → longer ≤ longest_call → (told r).pence ≤ (told (bill_of longer)).pence))
promised ms r e = (e, (λ h. rw e (bill-least ms h), λ longer h l. rw e (bill-rises ms longer h l)))

-- 0 ms, 1 ms, 60,000 ms, 60,001 ms, the longest call, one longer
pub edges : map bill_of (0 ∷ 1 ∷ 60000 ∷ 60001 ∷ 86400000 ∷ 86400001 ∷ []) ≡ Ok (charged 0) ∷ Ok (charged 1) ∷ Ok (charged 1) ∷ Ok (charged 2) ∷ Ok (charged 1440) ∷ Err TooLong ∷ []
unfolding bill_of units_begun
edges = refl
