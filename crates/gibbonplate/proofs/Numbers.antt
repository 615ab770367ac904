-- A number that is no stage's is taken for Connected's. Assumes nothing.
use Prim.Native.Nat.{ℕ, zero, suc}
use mathlib.Core.Path.{◌≡◌, refl}
use lib.ListN.{get_or}
use Rattle.stage.specs.declared.StageState.TheVariants.{Connected}
use Rattle.gibbonplate.specs.declared.plain.PlainStage.{PlainStage}
use Rattle.gibbonplate.specs.Memory.{stages}

pub other-stage : (p : PlainStage) (n : ℕ) → (n ≡ 1 → ⊥) → (n ≡ 2 → ⊥) → (n ≡ 3 → ⊥) → (n ≡ 4 → ⊥) → (n ≡ 5 → ⊥) → (n ≡ 6 → ⊥) → (n ≡ 7 → ⊥) → (n ≡ 8 → ⊥) → (n ≡ 9 → ⊥) → get_or (stages p) n Connected ≡ Connected
other-stage p zero n1 n2 n3 n4 n5 n6 n7 n8 n9 = refl
other-stage p (suc zero) n1 n2 n3 n4 n5 n6 n7 n8 n9 = absurd (n1 refl)
other-stage p (suc (suc zero)) n1 n2 n3 n4 n5 n6 n7 n8 n9 = absurd (n2 refl)
other-stage p (suc (suc (suc zero))) n1 n2 n3 n4 n5 n6 n7 n8 n9 = absurd (n3 refl)
other-stage p (suc (suc (suc (suc zero)))) n1 n2 n3 n4 n5 n6 n7 n8 n9 = absurd (n4 refl)
other-stage p (suc (suc (suc (suc (suc zero))))) n1 n2 n3 n4 n5 n6 n7 n8 n9 = absurd (n5 refl)
other-stage p (suc (suc (suc (suc (suc (suc zero)))))) n1 n2 n3 n4 n5 n6 n7 n8 n9 = absurd (n6 refl)
other-stage p (suc (suc (suc (suc (suc (suc (suc zero))))))) n1 n2 n3 n4 n5 n6 n7 n8 n9 = absurd (n7 refl)
other-stage p (suc (suc (suc (suc (suc (suc (suc (suc zero)))))))) n1 n2 n3 n4 n5 n6 n7 n8 n9 = absurd (n8 refl)
other-stage p (suc (suc (suc (suc (suc (suc (suc (suc (suc zero))))))))) n1 n2 n3 n4 n5 n6 n7 n8 n9 = absurd (n9 refl)
other-stage p (suc (suc (suc (suc (suc (suc (suc (suc (suc (suc n)))))))))) n1 n2 n3 n4 n5 n6 n7 n8 n9 = refl
