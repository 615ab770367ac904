-- A call that is lent the front of a buffer: it is made where the front is no longer than the buffer. Assumes nothing.
use Prim.Native.Nat.{ℕ, ◌<◌, ◌≤◌}
use mathlib.Core.Bool.{◌&&◌}
use mathlib.Core.List.{List}
use mathlib.Core.Path.{◌≡◌, ap}
use borrow.Author.Tests.{le-leb, lt-leb}
use lib.Dec.{leb}
use lib.ListN.{length, take}
use lib.Seq.{length-take-le}
use Rattle.set.specs.declared.Set.{Set}
use Rattle.panel.specs.declared.shown.Shown.{Shown}
use Rattle.panel.specs.Wall.{if_room, nothing_shown}

module _ {A : Type 0} (s : Set) (shown : ℕ → Shown) (n : ℕ) (xs : List A) where
  pub no_room : length xs < n → nothing_shown s ≡ if_room (leb n (length xs)) s (shown n)
  no_room h = rw (lt-leb n (length xs) h)

  pub front-lent : n ≤ length xs → shown (length (take n xs)) ≡ if_room (leb n (length xs)) s (shown n)
  front-lent h = rw (le-leb n (length xs) h) (ap shown (length-take-le n xs h))

pub both-lent : {A : Type 0} (s : Set) (shown : ℕ → ℕ → Shown) (n m : ℕ) (xs ys : List A) → n ≤ length xs → m ≤ length ys
    → shown (length (take n xs)) (length (take m ys)) ≡ if_room (leb n (length xs) && leb m (length ys)) s (shown n m)
both-lent s shown n m xs ys h g =
    let first : length (take n xs) ≡ n = length-take-le n xs h in
    let second : length (take m ys) ≡ m = length-take-le m ys g in
    rw (le-leb n (length xs) h, le-leb m (length ys) g, first, second)
