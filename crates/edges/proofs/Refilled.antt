-- A fill that is accepted leaves the buffer by its length alone, so one that is filled again is as a buffer filled once. Assumes nothing.
use mathlib.Core.List.{List}
use mathlib.Core.Path.{◌≡◌, refl, subst}
use lib.ListN.{length}
use lib.Ieee.{Float}
use Rattle.std.specs.Prelude.{Ok, IsOk}
use Rattle.set.specs.declared.Set.{Set}
use Rattle.set.specs.declared.Filled.{Filled}
use Rattle.set.specs.Set.{fill_cause, fill, buffer}
use Rattle.set.proofs.Accepted.{taken}

pub refilled : (s : Set) (xs ys : List Float) (filled : Filled) → length ys ≡ length xs → Ok filled ≡ fill s (length xs) → buffer s ys ≡ buffer s xs
unfolding fill buffer
refilled s xs ys filled e h = rw (e, taken (fill_cause s (length xs)) _ (subst IsOk h refl))
