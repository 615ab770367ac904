-- The wave passes the test at each of its entries: one computation. So each entry is right. Assumes nothing.
use Rattle.std.proofs.Common.{◌≡◌, ℕ, zero, suc, ◌+◌, ◌/◌, ◌^◌, ◌<◌, ◌≤◌, Bool, T, leb, List, [], ◌∷◌, length, get_or, ℤ, pos, nat_abs, sym, refl, ◌∙◌, subst, le_of_suc-le-suc, not-suc-le-zero, add-zero, add-suc, suc-add, zero-add, arith, lit≤, leb→le}
use Rattle.handset.specs.Sine.{plus_terms, minus_terms, denominator}
use Rattle.handset.specs.Rule.{IsSine}
use Rattle.handset.proofs.Fits.{fits, fits-above, fits_below, all_fit}
use Rattle.handset.specs.Wave.{wave}
use Rattle.handset.specs.Tone.{entry_at}
use Rattle.handset.proofs.Bound.{both_left, both_right, enough}

from : (f : ℕ → ℤ → Bool) (xs : List ℤ) (i : ℕ) → T (all_fit f i xs) → (k : ℕ) → k < length xs → T (f (i + k) (get_or xs k (pos 0)))
from f [] i t k h = absurd (not-suc-le-zero h)
from f (x ∷ xs) i t zero h = subst (λ (m : ℕ). T (f m x)) (sym (add-zero i)) (both_left (f i x) (all_fit f (suc i) xs) t)
from f (x ∷ xs) i t (suc k) h =
    subst (λ (m : ℕ). T (f m (get_or xs k (pos 0)))) (suc-add i k ∙ sym (add-suc i k))
    (from f xs (suc i) (both_right (f i x) (all_fit f (suc i) xs) t) k (le_of_suc-le-suc h))

passed : T (all_fit fits 0 wave)
unfolding wave fits fits-above fits_below plus_terms minus_terms denominator
passed = tt

long : length wave ≡ 1024
unfolding wave
long = refl

pub right : (k : ℕ) → k < 1024 → IsSine k (get_or wave k (pos 0))
right k h = enough k (get_or wave k (pos 0)) h (subst (λ (m : ℕ). T (fits m (get_or wave k (pos 0)))) (zero-add k) (from fits wave 0 passed k (subst (λ (n : ℕ). k < n) (sym long) h)))

-- so is the one that a phase picks
pub picked : (phase : ℕ) → phase < 2 ^ 32 → IsSine (phase / 2 ^ 22) (entry_at phase)
picked phase h = right (phase / 2 ^ 22) (omega arith)

-- and none is past 32,767
abbrev small : ℕ → ℤ → Bool
small k e = leb (nat_abs e) 32767

low-enough : T (all_fit small 0 wave)
unfolding wave
low-enough = tt

anywhere : (xs : List ℤ) (i : ℕ) → T (all_fit small i xs) → (k : ℕ) → nat_abs (get_or xs k (pos 0)) ≤ 32767
anywhere [] i t k = lit≤ tt
anywhere (x ∷ xs) i t zero = leb→le (nat_abs x) 32767 (both_left (small i x) (all_fit small (suc i) xs) t)
anywhere (x ∷ xs) i t (suc k) = anywhere xs (suc i) (both_right (small i x) (all_fit small (suc i) xs) t) k

pub bounded : (k : ℕ) → nat_abs (get_or wave k (pos 0)) ≤ 32767
bounded k = anywhere wave 0 low-enough k
