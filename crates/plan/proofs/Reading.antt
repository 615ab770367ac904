-- 02, E4 read off the calls, which ask nothing: an overture is in a stage for just as many samples as are told of it, and then enters the next one. So counts
-- that change places are refused here, though their sum is T. Assumes nothing.
use Prim.Native.Nat.{ℕ, ◌-◌, ◌≤◌}
use mathlib.Core.Path.{◌≡◌, refl, sym, subst, ◌∙◌}
use mathlib.Core.List.{List, ◌∷◌}
use contract.Lifetimes.{Lfts}
use denote.Ref.{Bor}
use lib.ListN.{length, get_or}
use Rattle.keys.specs.Keys.{digits_of}
use Rattle.schedule.specs.Length.{stage_lengths}
use Rattle.stage.specs.declared.Stage.{Stage}
use Rattle.stage.specs.declared.Stage.TheVariants as stage
use Rattle.stage.specs.Stage.{stage_number, next_stage}
use Rattle.stage.specs.Enter.{enter_of}
use Rattle.passage.specs.Lengths.{stage_length}
use Rattle.passage.proofs.Lasting.{Lasts}
use Rattle.passage.proofs.Overture.{stage-lasts}
use Rattle.plan.specs.Plan.{digit_count, plan_of, stage_samples}
use Rattle.plan.proofs.Counts.{limits-accepted, digits-few}
use Rattle.plan.proofs.planned.Reads as planned
use Rattle.plan.proofs.plan_refusal.Reads as plan-refusal
use Rattle.plan.proofs.stage_samples.Reads as stage-samples
use Rattle.plan.proofs.total_samples.Reads as total-samples

module _ (κs : Lfts 1) (digits : Bor (List ℕ)) (rate : ℕ) where
  pub asks_nothing : (number : ℕ)
      → planned.Asked κs (digits, (rate, tt))
      × plan-refusal.Asked κs (digits, (rate, tt))
      × stage-samples.Asked κs (digits, (rate, (number, tt)))
      × total-samples.Asked κs (digits, (rate, tt))
  asks_nothing number = (tt, tt, tt, tt)

  module _ (slow : 8000 ≤ rate) (fast : rate ≤ 192000) (few : length digits.now ≤ 76) (k : Stage) where
    told : stage_samples digits.now rate (stage_number k) ≡ stage_length k rate (digit_count digits.now)
    unfolding stage_samples plan_of stage_length
    told = rw (limits-accepted (length digits.now) rate slow fast few) (go k)
      where
        go : (k : Stage) → get_or (0 ∷ stage_lengths rate (digit_count digits.now)) (stage_number k) 0 ≡ get_or (stage_lengths rate (digit_count digits.now)) (stage_number k - 1) 0
        go stage.OffHook = refl
        go stage.DialTone = refl
        go stage.Dialling = refl
        go stage.Ringback = refl
        go stage.Ci = refl
        go stage.Ansam = refl
        go stage.CmJm = refl
        go stage.Cj = refl
        go stage.Training = refl
        go stage.Connected = refl

    pub lasts-as-told : (n : ℕ) → stage-samples.Learnt κs (digits, (rate, (stage_number k, tt))) n (digits, (rate, (stage_number k, tt)))
        → Lasts (digits_of digits.now) rate (enter_of k (digits_of digits.now) rate) k n (enter_of (next_stage k) (digits_of digits.now) rate)
    lasts-as-told n d =
        let ds = digits_of digits.now in
        subst (λ (l : ℕ). Lasts ds rate (enter_of k ds rate) k l (enter_of (next_stage k) ds rate)) (sym (d ∙ told)) (stage-lasts ds rate slow fast (digits-few digits.now few) k)
