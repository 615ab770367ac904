-- What an overture's length says: the line is up from sample T on and nowhere before, so there is one such T, and past it all samples are zeros.
-- Connected is followed by itself. Assumes nothing.
use mathlib.Core.Path.{◌≡◌, refl, sym, ap, subst, ◌∙◌}
use mathlib.Core.Logic.{◌↔◌}
use mathlib.Core.List.{List, ◌∷◌, ◌++◌}
use Prim.Native.Nat.{ℕ, zero, suc, ◌+◌, ◌-◌, ◌≤◌}
use native.Mathlib.Nat.{le_refl, le_antisymm, le_of_suc-le-suc, lt_of_not-le, add-zero, add-sub_of_le}
use native.Mathlib.Omega.{arith}
use lib.Ieee.{Float, binary32, of_bits}
use Rattle.stage.specs.declared.Stage.TheVariants as stage
use Rattle.stage.specs.declared.StageState.TheVariants.{Connected}
use Rattle.stage.specs.Stage.{stage_number, stage_of}
use Rattle.stage.specs.Enter.{enter_of}
use Rattle.stage.specs.Next.{connected_of, generate_of, sample_next, state_next}
use Rattle.overture.specs.Iteration.{fresh, after, samples, zeros}
use Rattle.overture.proofs.Iteration.{samples-add}
use Rattle.overture.proofs.Playing.{zero-narrowed}
use Rattle.passage.specs.Overture.{HasLength}
use Rattle.passage.proofs.Lasting.{Lasts}

-- ---- from Connected on
module _ (digits : List ℕ) (r : ℕ) where
  pub connected-stays : (j : ℕ) → after j Connected digits r ≡ Connected
  unfolding after state_next generate_of connected_of
  connected-stays zero = refl
  connected-stays (suc j) = connected-stays j

  -- it has no samples to count
  pub connected-lasts : Lasts digits r (enter_of stage.Connected digits r) stage.Connected 0 (enter_of stage.Connected digits r)
  unfolding after
  connected-lasts = record { stays = λ j l. absurd (omega arith); ends = refl }

  pub connected-zeros : (j : ℕ) → samples j Connected digits r ≡ zeros j
  unfolding samples state_next sample_next generate_of connected_of
  connected-zeros zero = refl
  connected-zeros (suc j) = ap (λ (x : Float). x ∷ samples j Connected digits r) (sym zero-narrowed) ∙ ap (λ (l : List Float). of_bits binary32 0 ∷ l) (connected-zeros j)

  -- ---- an overture of the length T
  module _ (T : ℕ) (h : HasLength digits r T) where
    pub connected-exactly : (k : ℕ) → (stage_of (after k (fresh digits r) digits r) ≡ stage.Connected) ↔ (T ≤ k)
    connected-exactly k = (from, up)
      where
        from : stage_of (after k (fresh digits r) digits r) ≡ stage.Connected → T ≤ k
        from e = le_of_suc-le-suc (lt_of_not-le (λ (l : suc k ≤ T). omega (arith, ap stage_number e, h.playing k l)))

        up : T ≤ k → stage_of (after k (fresh digits r) digits r) ≡ stage.Connected
        up l = subst (λ (n : ℕ). stage_of (after n (fresh digits r) digits r) ≡ stage.Connected) (add-sub_of_le l) (ap stage_of (h.connected (k - T)))

    pub samples-past : (j : ℕ) → samples (T + j) (fresh digits r) digits r ≡ samples T (fresh digits r) digits r ++ zeros j
    samples-past j = rw (samples-add digits r T j (fresh digits r), line-up, connected-zeros j)
      where
        line-up : after T (fresh digits r) digits r ≡ Connected
        line-up = rw add-zero at (h.connected 0)

  pub one-length : (S T : ℕ) → HasLength digits r S → HasLength digits r T → S ≡ T
  one-length S T f g = le_antisymm (no_longer S T f g) (no_longer T S g f)
    where
      no_longer : (S T : ℕ) → HasLength digits r S → HasLength digits r T → S ≤ T
      no_longer S T f g = (connected-exactly S f T).0 ((connected-exactly T g T).1 (le_refl T))
