-- A stage lasts until a count has reached its number: what one sample does to the stage's state says where the iteration is after each of its samples,
-- and where it is after the last. By induction on the samples. Assumes nothing.
use mathlib.Core.Path.{◌≡◌, refl, sym, ap, subst, ◌∙◌}
use mathlib.Core.List.{List}
use mathlib.Core.Bool.{Bool, true, false}
use Prim.Native.Nat.{ℕ, zero, suc, ◌+◌, ◌-◌, ◌≤◌, ◌<◌}
use native.Mathlib.Nat.{le_of_eq, le_of_lt, zero-lt-suc, add-sub_of_le}
use native.Mathlib.Omega.{arith}
use lib.Dec.{leb, ltb}
use borrow.Author.Tests.{ltb-true, ltb-false, le-leb, lt-leb}
use Rattle.schedule.proofs.First.{Reaches}
use Rattle.stage.specs.declared.Stage.{Stage}
use Rattle.stage.specs.declared.StageState.{StageState}
use Rattle.stage.specs.Stage.{next_stage, stage_of}
use Rattle.stage.specs.Enter.{enter_of}
use Rattle.stage.specs.Next.{generate_of, state_next}
use Rattle.overture.specs.Iteration.{after}
use Rattle.overture.proofs.Iteration.{after-suc, after-add}
use Rattle.passage.proofs.Stages.{stage-same}

-- from the state s the iteration is in the stage k for L samples, and then at `next`
pub record Lasts (digits : List ℕ) (r : ℕ) (s : StageState) (k : Stage) (L : ℕ) (next : StageState) : Type 0 where
  pub stays : (j : ℕ) → j < L → stage_of (after j s digits r) ≡ k
  pub ends : after L s digits r ≡ next

-- and after j of those samples At holds of its state
pub record LastsWith (digits : List ℕ) (r : ℕ) (s : StageState) (k : Stage) (At : ℕ → StageState → Type 0) (L : ℕ) (next : StageState) : Type 0 where
  pub during : (j : ℕ) → j < L → At j (after j s digits r)
  pub lasts : Lasts digits r s k L next

-- one sample of a stage, of which At holds after j samples, and which ends once the count has reached N
pub record StageInvariant (digits : List ℕ) (r : ℕ) (k : Stage) (At : ℕ → StageState → Type 0) (count : ℕ → ℕ) (N L : ℕ) : Type 0 where
  pub named : (j : ℕ) (s : StageState) → At j s → stage_of s ≡ k
  pub moves : (j : ℕ) (s : StageState) → At j s → suc j < L → At (suc j) (generate_of s digits r).state
  pub finishes : (j : ℕ) (s : StageState) → At j s → j < L → (generate_of s digits r).finished ≡ leb N (count (suc j))

module _ (digits : List ℕ) (r : ℕ) where
  -- a stage in two parts
  pub then-lasts : (s t u : StageState) (k : Stage) (a b : ℕ) → Lasts digits r s k a t → Lasts digits r t k b u → Lasts digits r s k (a + b) u
  then-lasts s t u k a b f g = record { stays = stays; ends = after-add digits r a b s ∙ ap (λ (x : StageState). after b x digits r) f.ends ∙ g.ends }
    where
      later : (j : ℕ) → j < a + b → a ≤ j → stage_of (after j s digits r) ≡ k
      later j h l =
          subst (λ (n : ℕ). stage_of (after n s digits r) ≡ k) (add-sub_of_le l)
          (rw (after-add digits r a (j - a) s, f.ends) (g.stays (j - a) (omega arith)))

      by : (j : ℕ) → j < a + b → (c : Bool) → ltb j a ≡ c → stage_of (after j s digits r) ≡ k
      by j h true e = f.stays j (ltb-true j a e)
      by j h false e = later j h (ltb-false j a e)

      stays : (j : ℕ) → j < a + b → stage_of (after j s digits r) ≡ k
      stays j h = by j h (ltb j a) refl

  module _ (k : Stage) (At : ℕ → StageState → Type 0) (count : ℕ → ℕ) (N L : ℕ) (c : StageInvariant digits r k At count N L) (reaches : Reaches count N L) where
    goes : (j : ℕ) (s : StageState) → At j s → suc j < L → state_next s digits r ≡ (generate_of s digits r).state
    unfolding state_next
    goes j s a l = rw (c.finishes j s a (le_of_lt l), lt-leb N (count (suc j)) (reaches.before (suc j) (zero-lt-suc j) l))

    leaves : (j : ℕ) (s : StageState) → At j s → suc j ≡ L → state_next s digits r ≡ enter_of (next_stage k) digits r
    unfolding state_next
    leaves j s a e =
        rw (c.finishes j s a (le_of_eq e), le-leb N (count (suc j)) (subst (λ (n : ℕ). N ≤ count n) (sym e) reaches.reached))
        (ap (λ (x : Stage). enter_of (next_stage x) digits r) (stage-same s digits r ∙ c.named j s a))

    at_each : (s : StageState) → At 0 s → (j : ℕ) → j < L → At j (after j s digits r)
    unfolding after
    at_each s a zero l = a
    at_each s a (suc j) l =
        let t = after j s digits r in
        let h = at_each s a j (le_of_lt l) in
        rw (after-suc digits r j s, goes j t h l) (c.moves j t h l)

    last : (s : StageState) → At 0 s → (l : ℕ) → suc l ≡ L → after (suc l) s digits r ≡ enter_of (next_stage k) digits r
    last s a l e = after-suc digits r l s ∙ leaves l (after l s digits r) (at_each s a l (le_of_eq e)) e

    ended : (s : StageState) → At 0 s → (m : ℕ) → m ≡ L → after m s digits r ≡ enter_of (next_stage k) digits r
    ended s a zero e = absurd (omega (arith, subst (λ (n : ℕ). 1 ≤ n) (sym e) reaches.some))
    ended s a (suc l) e = last s a l e

    pub lasts-with : (s : StageState) → At 0 s → LastsWith digits r s k At L (enter_of (next_stage k) digits r)
    lasts-with s a = record {
      during = at_each s a;
      lasts = record { stays = λ j l. c.named j (after j s digits r) (at_each s a j l); ends = ended s a L refl };
    }
