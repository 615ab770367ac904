-- `shown::feed_all` meets its contract: the call's answer, shown; an accepted string is short. Assumes nothing.
use Prim.Native.Nat.{ℕ, ◌≤◌}
use mathlib.Core.Path.{◌≡◌, refl, subst}
use mathlib.Core.Bool.{Bool}
use mathlib.Core.List.{List}
use native.Mathlib.Omega.{arith}
use lib.ListN.{length}
use Rattle.std.specs.Prelude.{Ok, IsOk}
use Rattle.set.specs.declared.Set.{Set}
use Rattle.set.specs.declared.TypedAll.{TypedAll}
use Rattle.set.specs.String.{string_cause, typed_all}
use Rattle.set.proofs.Accepted.{taken}
use Rattle.set.proofs.String.{fits}
use Rattle.panel.proofs.shown.feed_all.Goals as goal

short : (s : Set) (bytes : List ℕ) (carrier : Bool) (room places : ℕ) (a : TypedAll) → Ok a ≡ typed_all s bytes carrier room places → length bytes ≤ 256
unfolding typed_all
short s bytes carrier room places a told =
    (fits s (length bytes) room places (taken (string_cause s (length bytes) room places) _ (subst IsOk told refl))).few

pub overflow_mul-places : goal.overflow_mul-places
overflow_mul-places c = omega (arith, short _ _ _ _ _ _ c.in-Ok.ensures.value)
