-- What the tests of the rate and of the digits tell as numbers. Assumes nothing.
use mathlib.Core.Path.{◌≡◌}
use mathlib.Core.Bool.{true, and-eq-true_iff}
use mathlib.Core.List.{List}
use Prim.Native.Nat.{ℕ, ◌≤◌}
use lib.Dec.{leb}
use lib.ListN.{length}
use borrow.Author.Tests.{leb-true}
use Rattle.soundness.specs.Sound.{rate_ok, digits_ok}

pub rate-low : (r : ℕ) → rate_ok r ≡ true → 8000 ≤ r
unfolding rate_ok
rate-low r e = leb-true 8000 r ((and-eq-true_iff (leb 8000 r) _).0 e).0

pub rate-high : (r : ℕ) → rate_ok r ≡ true → r ≤ 192000
unfolding rate_ok
rate-high r e = leb-true r 192000 ((and-eq-true_iff (leb 8000 r) _).0 e).1

pub digits-few : (digits : List ℕ) → digits_ok digits ≡ true → length digits ≤ 76
unfolding digits_ok
digits-few digits e = leb-true (length digits) 76 ((and-eq-true_iff (leb (length digits) 76) _).0 e).0
