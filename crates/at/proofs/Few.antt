-- A plus that is withheld finds at most two held: the rule has a case for none, one and two. Assumes nothing.
use Prim.Native.Nat.{ℕ, ◌≤◌}
use Prim.Native.Char.{code}
use native.Mathlib.Omega.{arith}
use mathlib.Core.Path.{◌≡◌, refl}
use mathlib.Core.Bool.{Bool, true, false, ◌&&◌, ◌||◌}
use lib.Dec.{leb, eqb}
use borrow.Author.Tests.{eqb-true}
use Rattle.at.specs.declared.AtProcessor.{AtProcessor}
use Rattle.at.specs.Processor.{pluses}
use Rattle.at.specs.Escape.{withheld, guard_time}

few : (n : ℕ) (plus long short t0 t1 t2 : Bool) → eqb n 0 ≡ t0 → eqb n 1 ≡ t1 → eqb n 2 ≡ t2 → (plus && ((t0 && long) || ((t1 || t2) && short))) ≡ true → n ≤ 2
few n plus long short true t1 t2 e0 e1 e2 w = omega (arith, eqb-true n 0 e0)
few n plus long short false true t2 e0 e1 e2 w = omega (arith, eqb-true n 1 e1)
few n plus long short false false true e0 e1 e2 w = omega (arith, eqb-true n 2 e2)
few n true long short false false false e0 e1 e2 w = let z : ◌≡◌ {A = ℕ} 0 1 = cc in omega arith
few n false long short false false false e0 e1 e2 w = let z : ◌≡◌ {A = ℕ} 0 1 = cc in omega arith

pub withheld-few : (p : AtProcessor) (byte : ℕ) → withheld p byte ≡ true → pluses p ≤ 2
unfolding withheld
withheld-few p byte w = few (pluses p) (eqb byte (code "+")) (leb (guard_time p) p.idle) (leb p.idle (guard_time p)) _ _ _ refl refl refl w
