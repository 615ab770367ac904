-- A list mapped in place, one element a turn: what is done, followed by what is to come mapped, is the whole mapped.
-- Assumes nothing.
use Prim.Native.Nat.{ℕ, ◌+◌, ◌<◌, ◌≤◌}
use native.Mathlib.Numerals.{add-one}
use native.Mathlib.Omega.{arith}
use mathlib.Core.Path.{◌≡◌}
use mathlib.Core.List.{List, ◌++◌, map, append_assoc, append-nil}
use lib.ListN.{length, take, drop, set, get_or, drop_of_length-le}
use lib.Seq.{take-suc-set, drop-set-lt, drop-cons, take_all}

module _ (f : ℕ → ℕ) (xs : List ℕ) where
  pub turn : (i : ℕ) → i < length xs → take (i + 1) (set xs i (f (get_or xs i 0))) ++ map f (drop (i + 1) (set xs i (f (get_or xs i 0)))) ≡ take i xs ++ map f (drop i xs)
  turn i l =
      let k : i < i + 1 = omega arith in
      rw (drop-set-lt (i + 1) xs i _ k, add-one, take-suc-set xs i _ l, drop-cons xs i 0 l, append_assoc)

  pub done : (i : ℕ) → length xs ≤ i → take i xs ++ map f (drop i xs) ≡ xs
  done i l = rw (drop_of_length-le xs l, take_all i xs l, append-nil)
