-- A list of ten is its elements, from the first to the last. Assumes nothing.
use Prim.Native.Nat.{ℕ, zero, suc, ◌+◌}
use native.Mathlib.Omega.{arith}
use mathlib.Core.List.{List, [], ◌∷◌}
use mathlib.Core.Path.{◌≡◌, sym, ap, ◌∙◌}
use lib.ListN.{length, drop, get_or, drop_of_length-le}
use lib.Seq.{drop-cons}
use Rattle.deframe.specs.Read.{is_mark, marks_of}

-- n elements from number k on
abbrev from : (n k : ℕ) → List ℕ → List ℕ
from zero k l = []
from (suc n) k l = get_or l k 0 ∷ from n (suc k) l

elements : (n k : ℕ) (l : List ℕ) → k + n ≡ length l → drop k l ≡ from n k l
elements zero k l h = drop_of_length-le l {i = k} (omega (arith, h))
elements (suc n) k l h = drop-cons l k 0 (omega (arith, h)) ∙ ap (λ (r : List ℕ). get_or l k 0 ∷ r) (elements n (suc k) l (omega (arith, h)))

pub ten-marks : (l : List ℕ) → length l ≡ 10
    → is_mark (get_or l 0 0) ∷ is_mark (get_or l 1 0) ∷ is_mark (get_or l 2 0) ∷ is_mark (get_or l 3 0) ∷ is_mark (get_or l 4 0)
    ∷ is_mark (get_or l 5 0) ∷ is_mark (get_or l 6 0) ∷ is_mark (get_or l 7 0) ∷ is_mark (get_or l 8 0) ∷ is_mark (get_or l 9 0) ∷ []
    ≡ marks_of l
ten-marks l h = sym (ap marks_of (elements 10 0 l (omega (arith, h))))
