-- Peak and cheap hours: the steps stop at the first number of units that covers the time (`bought-units`), and there is one such number
-- (`bought-once`). So a longer call has no fewer, and inside peak, where each unit has 60,000 ms, it is the plain tariff's. Computed at the edges. Assumes nothing.
use Prim.Native.Nat.{ℕ, zero, suc, ◌+◌, ◌-◌, ◌*◌, ◌/◌, ◌%◌, ◌≤◌, ◌<◌, zero-le}
use mathlib.Core.Path.{◌≡◌, refl, sym, ap, ◌∙◌, subst}
use mathlib.Core.Bool.{Bool, true, false, cond}
use mathlib.Core.Logic.{inl, inr}
use mathlib.Core.List.{[], ◌∷◌, map}
use native.Mathlib.Nat.{le_refl, le_trans, lt_of_lt_of_le, lt_of_le_of_lt, eq-or-lt_of_le, le_of_suc-le-suc}
use native.Mathlib.Omega.{arith}
use borrow.Author.Tests.{leb-true, leb-false, le-leb, lt-leb, le-ltb, lt-ltb}
use lib.Dec.{leb}
use Rattle.std.specs.Prelude.{Result, Ok, Err}
use Rattle.refusal.specs.declared.Refusal.{Refusal}
use Rattle.refusal.specs.declared.Refusal.TheVariants.{TooLong, Start}
use Rattle.tariff.specs.declared.Bill.{Bill}
use Rattle.tariff.specs.Tariff.{unit, longest_call, charged, told, units_begun, bill_of}
use Rattle.tariff.specs.Hours.{week_seconds, week, day, peak_begins, peak_ends, is_peak, unit_by, unit_at, next_unit, bought, buying, units_bought, Bought, bill_from, InsidePeak}
use Rattle.tariff.proofs.Plain.{begun-least, charged-bill}

-- ---- a unit is one of two lengths
pub unit-low : (t : ℕ) → 60000 ≤ unit_at t
unfolding unit_at
unit-low t = go (is_peak t)
  where
    go : (b : Bool) → 60000 ≤ unit_by b
    go true = omega arith
    go false = omega arith

pub unit-high : (t : ℕ) → unit_at t ≤ 180000
unfolding unit_at
unit-high t = go (is_peak t)
  where
    go : (b : Bool) → unit_by b ≤ 180000
    go true = omega arith
    go false = omega arith

-- so each step is a millisecond at least
pub bought-grows : (start k : ℕ) → k ≤ bought start k
unfolding bought
bought-grows start zero = zero-le
bought-grows start (suc k) = more k (bought start k) (next_unit start (bought start k)) (bought-grows start k) (unit-low _)
  where
    more : (k b u : ℕ) → k ≤ b → 60000 ≤ u → suc k ≤ b + u
    more k b u h l = omega arith

pub bought-next : (start k : ℕ) → bought start (suc k) ≡ bought start k + next_unit start (bought start k)
unfolding bought
bought-next start k = refl

-- ---- the steps
module _ (start ms : ℕ) where
  abbrev pub Needed : ℕ → Type 0
  Needed k = (j : ℕ) → j < k → bought start j < ms

  pub one_more : (k : ℕ) → Needed k → bought start k < ms → Needed (suc k)
  one_more k h l j p = elim (eq-or-lt_of_le {n = j} {m = k} (le_of_suc-le-suc p)) [ inl e ↦ subst (λ (z : ℕ). bought start z < ms) (sym e) l | inr q ↦ h j q ]

  steps-stop : (steps k : ℕ) → Needed k → ms ≤ steps + k → Bought start ms (buying steps start ms k)
  unfolding buying
  steps-stop zero k h l = record { covers = le_trans (plain k l) (bought-grows start k); needed = h }
    where
      plain : (k : ℕ) → ms ≤ 0 + k → ms ≤ k
      plain k l = omega arith
  steps-stop (suc steps) k h l = go (leb ms (bought start k)) refl (λ e. steps-stop steps (suc k) (one_more k h (leb-false _ _ e)) (omega arith))
    where
      go : (t : Bool) → leb ms (bought start k) ≡ t → (leb ms (bought start k) ≡ false → Bought start ms (buying steps start ms (suc k))) → Bought start ms (cond t k (buying steps start ms (suc k)))
      go true e later = record { covers = leb-true _ _ e; needed = h }
      go false e later = later e

  pub bought-units : Bought start ms (units_bought start ms)
  unfolding units_bought
  bought-units = steps-stop ms 0 (λ j p. absurd (omega arith)) (plain ms)
    where
      plain : (m : ℕ) → m ≤ m + 0
      plain m = omega arith

-- ---- what the loop knows: b milliseconds are bought with so many units, and fewer do not cover the time
pub record Buying (start ms b units : ℕ) : Type 0 where
  pub at : b ≡ bought start units
  pub needed : Needed start ms units

pub buying-none : (start ms : ℕ) → Buying start ms 0 0
unfolding bought
buying-none start ms = record { at = refl; needed = λ j p. absurd (omega arith) }

pub buying-on : (start ms b units u : ℕ) → u ≡ next_unit start b → Buying start ms b units → b < ms → Buying start ms (b + u) (units + 1)
buying-on start ms b units u q i l = subst (λ (k : ℕ). Buying start ms (b + u) k) (omega arith) (record { at = sum; needed = one_more start ms units i.needed (subst (λ (z : ℕ). z < ms) i.at l) })
  where
    sum : b + u ≡ bought start (suc units)
    sum = ap (λ (z : ℕ). b + z) (q ∙ ap (λ (z : ℕ). next_unit start z) i.at) ∙ ap (λ (z : ℕ). z + next_unit start (bought start units)) i.at ∙ sym (bought-next start units)

pub buying-few : (start ms b units : ℕ) → Buying start ms b units → units ≤ b
buying-few start ms b units i = subst (λ (z : ℕ). units ≤ z) (sym i.at) (bought-grows start units)

pub needed-few : (start ms units : ℕ) → Needed start ms units → units ≤ ms
needed-few start ms zero h = zero-le
needed-few start ms (suc k) h = lt_of_le_of_lt (bought-grows start k) (h k (le_refl (suc k)))

-- ---- no fewer units for a longer call
pub no-fewer : (start ms longer u v : ℕ) → ms ≤ longer → Bought start ms u → Bought start longer v → u ≤ v
no-fewer start ms longer u v h p q = go (leb u v) refl
  where
    go : (t : Bool) → leb u v ≡ t → u ≤ v
    go true e = leb-true _ _ e
    go false e = absurd (omega (arith, p.needed v (leb-false _ _ e), q.covers))

pub bought-once : (start ms u v : ℕ) → Bought start ms u → Bought start ms v → u ≡ v
bought-once start ms u v p q = omega (arith, no-fewer start ms ms u v (le_refl ms) p q, no-fewer start ms ms v u (le_refl ms) q p)

pub buying-done : (start ms b units : ℕ) → Buying start ms b units → ms ≤ b → units ≡ units_bought start ms
buying-done start ms b units i l = bought-once start ms units (units_bought start ms) (record { covers = subst (λ (z : ℕ). ms ≤ z) i.at l; needed = i.needed }) (bought-units start ms)

-- ---- inside peak
peak-hour : (t d : ℕ) → d < 5 → d * day + peak_begins ≤ t → t < d * day + peak_ends → is_peak (t % week) ≡ true
unfolding is_peak
peak-hour t d D b e =
    let w : t % week ≡ t = omega arith in
    let q : t / day ≡ d = omega arith in
    let r : t % day ≡ t - d * day = omega arith in
    rw (w, q, r, lt-ltb d 5 D, le-leb peak_begins (t - d * day) (omega arith), lt-ltb (t - d * day) peak_ends (omega arith))

module _ (start ms : ℕ) (p : InsidePeak start ms) where
  peak-unit : (b : ℕ) → b < ms → next_unit start b ≡ unit
  unfolding unit_at
  peak-unit b h = ap unit_by (peak-hour (start * 1000 + b) p.weekday p.is_weekday (low p.weekday p.begins) (high p.weekday p.ends))
    where
      low : (d : ℕ) → d * day + peak_begins ≤ start * 1000 → d * day + peak_begins ≤ start * 1000 + b
      low d l = omega arith

      high : (d : ℕ) → start * 1000 + ms ≤ d * day + peak_ends → start * 1000 + b < d * day + peak_ends
      high d l = omega arith

  peak-bought : (k : ℕ) → ((j : ℕ) → j < k → j * unit < ms) → bought start k ≡ k * unit
  unfolding bought
  peak-bought zero h = refl
  peak-bought (suc k) h =
      let e : bought start k ≡ k * unit = peak-bought k (λ j q. h j (up j k q)) in
      rw (e, peak-unit (k * unit) (h k (le_refl (suc k)))) (one k)
    where
      up : (j k : ℕ) → j < k → j < suc k
      up j k q = omega arith

      one : (k : ℕ) → k * unit + unit ≡ suc k * unit
      one k = omega arith

  pub peak-units : units_bought start ms ≡ units_begun ms
  peak-units = bought-once start ms (units_bought start ms) (units_begun ms) (bought-units start ms) (record { covers = rw (all (units_begun ms) (le_refl (units_begun ms))) (begun-least ms).covers; needed = λ k q. rw (all k (below k q)) (short k q) })
    where
      off : (m k u : ℕ) → (m ≤ k * unit → u ≤ k) → k < u → k * unit < m
      off m k u f q = go (leb m (k * unit)) refl
        where
          no : (k u : ℕ) → u ≤ k → k < u → ⊥
          no k u a b = omega arith

          go : (t : Bool) → leb m (k * unit) ≡ t → k * unit < m
          go true e = absurd (no k u (f (leb-true _ _ e)) q)
          go false e = leb-false _ _ e

      short : (k : ℕ) → k < units_begun ms → k * unit < ms
      short k q = off ms k (units_begun ms) ((begun-least ms).fewest k) q

      below : (k : ℕ) → k < units_begun ms → k ≤ units_begun ms
      below k q = omega arith

      all : (k : ℕ) → k ≤ units_begun ms → bought start k ≡ k * unit
      all k l = peak-bought k (λ j q. short j (lt_of_lt_of_le q l))

-- ---- the bill
pub long-bill : (ms start : ℕ) → longest_call < ms → bill_from ms start ≡ Err TooLong
unfolding bill_from
long-bill ms start h = rw (lt-ltb _ _ h)

pub late-bill : (ms start : ℕ) → ms ≤ longest_call → week_seconds ≤ start → bill_from ms start ≡ Err Start
unfolding bill_from
late-bill ms start h l = rw (le-ltb _ _ h, le-leb _ _ l)

pub bought-bill : (ms start : ℕ) → ms ≤ longest_call → start < week_seconds → bill_from ms start ≡ Ok (charged (units_bought start ms))
unfolding bill_from
bought-bill ms start h l = rw (le-ltb _ _ h, lt-leb _ _ l)

-- what `charge_from` promises of an answer that is the bill's
module _ (ms start : ℕ) where
  from-bought : ms ≤ longest_call → start < week_seconds → Bought start ms (told (bill_from ms start)).units
  from-bought h l = rw (bought-bill ms start h l) (bought-units start ms)

  from-rises : (longer : ℕ) → ms ≤ longer → longer ≤ longest_call → (told (bill_from ms start)).pence ≤ (told (bill_from longer start)).pence
  from-rises longer h l = go (leb week_seconds start) refl
    where
      go : (t : Bool) → leb week_seconds start ≡ t → (told (bill_from ms start)).pence ≤ (told (bill_from longer start)).pence
      go true e = rw (late-bill ms start (le_trans h l) (leb-true _ _ e), late-bill longer start l (leb-true _ _ e)) zero-le
      go false e =
          rw (bought-bill ms start (le_trans h l) (leb-false _ _ e), bought-bill longer start l (leb-false _ _ e))
          (omega (arith, no-fewer start ms longer _ _ h (bought-units start ms) (bought-units start longer)))

  from-peak : InsidePeak start ms → bill_from ms start ≡ bill_of ms
  from-peak p = bought-bill ms start (short p.weekday p.begins p.ends) (omega (arith, p.is_weekday, p.ends)) ∙ ap (λ (n : ℕ). Ok (charged n)) (peak-units start ms p) ∙ sym (charged-bill ms (short p.weekday p.begins p.ends))
    where
      short : (d : ℕ) → d * day + peak_begins ≤ start * 1000 → start * 1000 + ms ≤ d * day + peak_ends → ms ≤ longest_call
      short d b e = omega arith

  pub promised-from : (r : Result Bill Refusal) → r ≡ bill_from ms start → (r ≡ bill_from ms start) × ((ms ≤ longest_call → start < week_seconds → Bought start ms (told r).units) × (((longer : ℕ) → ms ≤ longer → longer ≤ longest_call → (told r).pence ≤ (told (bill_from longer start)).pence) × (InsidePeak start ms → r ≡ bill_of ms)))
  promised-from r e = (e, (λ h l. rw e (from-bought h l), (λ longer h l. rw e (from-rises longer h l), λ p. e ∙ from-peak p)))

-- ---- computed: Monday 07:59:59, 08:00:00, 17:59:59 and 18:00:00, Friday 17:59:59, Sunday 23:59:59, the longest call, one longer, a start past the week
pub hours-edges : map (λ (b : ℕ × ℕ). bill_from b.0 b.1)
    ((60001, 28799) ∷ (180001, 28799) ∷ (60001, 28800) ∷ (60001, 64799) ∷ (240001, 64799) ∷ (60001, 64800) ∷ (60001, 410399) ∷ (180001, 604799) ∷ (86400001, 604800) ∷ (0, 604800) ∷ (0, 0) ∷ [])
    ≡ Ok (charged 1) ∷ Ok (charged 2) ∷ Ok (charged 2) ∷ Ok (charged 2) ∷ Ok (charged 3) ∷ Ok (charged 1) ∷ Ok (charged 2) ∷ Ok (charged 2) ∷ Err TooLong ∷ Err Start ∷ Ok (charged 0) ∷ []
unfolding bill_from units_bought buying bought unit_at is_peak
hours-edges = refl
