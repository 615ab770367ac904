-- Where a digit begins: the schedule tells it, and it is small. Assumes nothing.
use Prim.Native.Nat.{ℕ, zero, suc, ◌≤◌}
use mathlib.Core.Path.{◌≡◌, refl, ◌∙◌}
use mathlib.Core.Bool.{cond}
use lib.Dec.{lit≤, leb}
use borrow.Author.Tests.{le-leb}
use Rattle.schedule.specs.Length.{max_digits, dialling_samples}
use Rattle.schedule.proofs.Lengths.{dialling-range}
use Rattle.passage.specs.Lengths.{samples_of_digits}

pub digits-told : (d r : ℕ) → (d ≡ 0 → ⊥) → 8000 ≤ r → r ≤ 192000 → dialling_samples r d ≡ cond (leb d max_digits) (samples_of_digits r d) 0
unfolding dialling_samples
digits-told zero r some lo hi = absurd (some refl)
digits-told (suc d) r some lo hi = rw (le-leb 8000 r lo, le-leb r 192000 hi)

-- of a digit that a call may have
module _ (d r n : ℕ) (few : d ≤ 76) (told : n ≡ cond (leb d max_digits) (samples_of_digits r d) 0) where
  pub digits-before : n ≡ samples_of_digits r d
  digits-before = told ∙ rw (le-leb d max_digits few)

  pub digits-few : 8000 ≤ r → r ≤ 192000 → n ≤ 2918401
  digits-few lo hi = rw digits-before (most d few)
    where
      most : (d : ℕ) → d ≤ 76 → samples_of_digits r d ≤ 2918401
      most zero h = lit≤ tt
      most (suc d) h = (dialling-range r lo hi (suc d) h).1
