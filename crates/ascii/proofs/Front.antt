-- What `put` leaves: bytes that fit, bytes that do not, and no bytes at all. Assumes nothing.
use Prim.Native.Nat.{ℕ, ◌≤◌, ◌<◌, zero-le}
use mathlib.Core.Path.{◌≡◌}
use mathlib.Core.List.{List, [], ◌++◌}
use lib.ListN.{length, drop}
use borrow.Author.Tests.{le-leb, lt-leb}
use Rattle.ascii.specs.Front.{put}

module _ (bytes buffer : List ℕ) where
  pub put-fits : length bytes ≤ length buffer → put bytes buffer ≡ bytes ++ drop (length bytes) buffer
  unfolding put
  put-fits l = rw (le-leb _ _ l)

  pub put-short : length buffer < length bytes → put bytes buffer ≡ buffer
  unfolding put
  put-short l = rw (lt-leb _ _ l)

pub put-none : (buffer : List ℕ) → put [] buffer ≡ buffer
unfolding put
put-none buffer = rw (le-leb _ _ zero-le)
