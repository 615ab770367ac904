-- One more of a count, whichever number is the largest that it can hold: below it n + 1, and from it on n. Assumes nothing.
use Rattle.std.proofs.Common.{◌≡◌, ℕ, ◌+◌, ◌<◌, ◌≤◌, min, sym, inl, inr, le-ltb, lt-ltb, arith}
use Rattle.std.proofs.Math.Nat.{min-eq_left}
use Rattle.std.proofs.lemmas.Bool.{cases_lt}
use Rattle.schedule.specs.Time.{inc_up_to, saturating_inc}

module _ (largest n : ℕ) where
  pub inc-below : n < largest → inc_up_to largest n ≡ n + 1
  unfolding inc_up_to
  inc-below h = rw (lt-ltb n largest h)

  pub inc-stays : largest ≤ n → inc_up_to largest n ≡ n
  unfolding inc_up_to
  inc-stays h = rw (le-ltb n largest h)

pub saturating-inc-is : (n : ℕ) → n < 0xffff_ffff → saturating_inc n ≡ n + 1
unfolding saturating_inc
saturating-inc-is n h = inc-below 0xffff_ffff n h

-- std's `saturating_add` of one
pub inc_saturates : (largest n : ℕ) → n ≤ largest → inc_up_to largest n ≡ min (n + 1) largest
inc_saturates largest n h =
    elim (cases_lt n largest) [
      | inl l ↦ rw (inc-below largest n l) (sym (min-eq_left (omega arith)))
      | inr l ↦ rw (inc-stays largest n l) (omega arith)
    ]

pub saturating_inc_is : (n : ℕ) → n ≤ 0xffff_ffff → saturating_inc n ≡ min (n + 1) 0xffff_ffff
unfolding saturating_inc
saturating_inc_is n h = inc_saturates 0xffff_ffff n h
