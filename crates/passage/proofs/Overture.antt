-- An overture from its first sample on: each stage is entered where the ones before it have ended, it is in stages 1 to 9 for exactly T samples, and in stage 10 ever after.
-- The stages' own laws, one after the other; that nothing before T is Connected, by the stage of sample T and the number that never falls. Assumes nothing.
use mathlib.Core.Path.{◌≡◌, refl, sym, ap, ◌∙◌}
use mathlib.Core.List.{List}
use Prim.Native.Nat.{ℕ, zero, suc, ◌+◌, ◌-◌, ◌*◌, ◌≤◌, ◌<◌}
use native.Mathlib.Nat.{le_trans, le_of_eq, zero-add, add-zero, le-add_right}
use native.Mathlib.Omega.{arith}
use lib.Dec.{lit≤}
use lib.ListN.{length}
use Rattle.schedule.specs.Length.{total}
use Rattle.schedule.proofs.Lengths.{click-range, dial-tone-range, dialling-range, ringback-range, ansam-range, bits_range}
use Rattle.schedule.proofs.Total.{total-bounds, total-range}
use Rattle.stage.specs.declared.Stage.{Stage}
use Rattle.stage.specs.declared.Stage.TheVariants as stage
use Rattle.stage.specs.declared.StageState.{StageState}
use Rattle.stage.specs.Stage.{stage_number, next_stage, stage_of}
use Rattle.stage.specs.Enter.{enter_of}
use Rattle.overture.specs.Iteration.{fresh, after}
use Rattle.overture.proofs.Iteration.{after-add}
use Rattle.passage.specs.Lengths.{stage_length, samples_before}
use Rattle.passage.specs.Overture.{HasLength}
use Rattle.passage.proofs.Stages.{never-falls}
use Rattle.passage.proofs.Lasting.{Lasts}
use Rattle.passage.proofs.Counted.{off-hook-lasts, dial-tone-lasts, ringback-lasts, ansam-lasts}
use Rattle.passage.proofs.Bits.{ci-lasts, cm-jm-lasts, cj-lasts, training-lasts}
use Rattle.passage.proofs.Dialling.{dialling-lasts}
use Rattle.passage.proofs.Connected.{connected-stays, connected-lasts, one-length}

-- ---- the order of the stages
-- the stage whose number is k + 1
abbrev stage_at : ℕ → Stage
stage_at zero = stage.OffHook
stage_at (suc k) = next_stage (stage_at k)

before-next : (k : Stage) (r d : ℕ) → samples_before (next_stage k) r d ≡ samples_before k r d + stage_length k r d
unfolding samples_before stage_length
before-next stage.OffHook r d = sym (zero-add _)
before-next stage.DialTone r d = refl
before-next stage.Dialling r d = refl
before-next stage.Ringback r d = refl
before-next stage.Ci r d = refl
before-next stage.Ansam r d = refl
before-next stage.CmJm r d = refl
before-next stage.Cj r d = refl
before-next stage.Training r d = refl
before-next stage.Connected r d = sym (add-zero _)

-- ---- the overture
-- every stage but Connected has a sample
pub stage-some : (r : ℕ) → 8000 ≤ r → r ≤ 192000 → (d : ℕ) → d ≤ 76 → (k : Stage) → stage_number k ≤ 9 → 1 ≤ stage_length k r d
unfolding stage_length
stage-some r lo hi d few stage.OffHook h = (click-range r lo hi).0
stage-some r lo hi d few stage.DialTone h = (dial-tone-range r lo hi).0
stage-some r lo hi d few stage.Dialling h = (dialling-range r lo hi d few).0
stage-some r lo hi d few stage.Ringback h = (ringback-range r lo hi).0
stage-some r lo hi d few stage.Ci h = (bits_range r lo hi 60 (lit≤ tt)).0
stage-some r lo hi d few stage.Ansam h = (ansam-range r lo hi).0
stage-some r lo hi d few stage.CmJm h = (bits_range r lo hi 80 (lit≤ tt)).0
stage-some r lo hi d few stage.Cj h = le_trans (bits_range r lo hi 60 (lit≤ tt)).0 (le-add_right _ _)
stage-some r lo hi d few stage.Training h = (bits_range r lo hi 300 (lit≤ tt)).0
stage-some r lo hi d few stage.Connected h = absurd (omega arith)

module _ (digits : List ℕ) (r : ℕ) (lo : 8000 ≤ r) (hi : r ≤ 192000) (few : length digits ≤ 76) where
  -- each stage lasts its length
  pub stage-lasts : (k : Stage) → Lasts digits r (enter_of k digits r) k (stage_length k r (length digits)) (enter_of (next_stage k) digits r)
  unfolding stage_length
  stage-lasts stage.OffHook = (off-hook-lasts digits r lo hi).lasts
  stage-lasts stage.DialTone = (dial-tone-lasts digits r lo hi).lasts
  stage-lasts stage.Dialling = dialling-lasts digits r lo hi few
  stage-lasts stage.Ringback = (ringback-lasts digits r lo hi).lasts
  stage-lasts stage.Ci = (ci-lasts digits r lo hi).lasts
  stage-lasts stage.Ansam = (ansam-lasts digits r lo hi).lasts
  stage-lasts stage.CmJm = (cm-jm-lasts digits r lo hi).lasts
  stage-lasts stage.Cj = cj-lasts digits r lo hi
  stage-lasts stage.Training = (training-lasts digits r lo hi).lasts
  stage-lasts stage.Connected = connected-lasts digits r

  -- and begins where those before it have ended
  enters-number : (k : ℕ) → after (samples_before (stage_at k) r (length digits)) (fresh digits r) digits r ≡ enter_of (stage_at k) digits r
  unfolding after samples_before
  enters-number zero = refl
  enters-number (suc k) =
      ap (λ (n : ℕ). after n (fresh digits r) digits r) (before-next (stage_at k) r (length digits))
      ∙ after-add digits r (samples_before (stage_at k) r (length digits)) (stage_length (stage_at k) r (length digits)) (fresh digits r)
      ∙ ap (λ (s : StageState). after (stage_length (stage_at k) r (length digits)) s digits r) (enters-number k)
      ∙ (stage-lasts (stage_at k)).ends

  pub enters : (k : Stage) → after (samples_before k r (length digits)) (fresh digits r) digits r ≡ enter_of k digits r
  enters stage.OffHook = enters-number 0
  enters stage.DialTone = enters-number 1
  enters stage.Dialling = enters-number 2
  enters stage.Ringback = enters-number 3
  enters stage.Ci = enters-number 4
  enters stage.Ansam = enters-number 5
  enters stage.CmJm = enters-number 6
  enters stage.Cj = enters-number 7
  enters stage.Training = enters-number 8
  enters stage.Connected = enters-number 9

  pub after-entry : (k : Stage) (j : ℕ) → after (samples_before k r (length digits) + j) (fresh digits r) digits r ≡ after j (enter_of k digits r) digits r
  after-entry k j =
      after-add digits r (samples_before k r (length digits)) j (fresh digits r)
      ∙ ap (λ (s : StageState). after j s digits r) (enters k)

  pub stage_at_lem : (k : Stage) (j : ℕ) → j < stage_length k r (length digits) → stage_of (after (samples_before k r (length digits) + j) (fresh digits r) digits r) ≡ k
  stage_at_lem k j h = ap stage_of (after-entry k j) ∙ (stage-lasts k).stays j h

  -- up to a stage's last sample, none is of a stage after it
  pub not_after : (k : Stage) → stage_number k ≤ 9 → (j : ℕ) → j < samples_before (next_stage k) r (length digits)
      → stage_number (stage_of (after j (fresh digits r) digits r)) ≤ stage_number k
  not_after k h j l =
      let some = stage-some r lo hi (length digits) few k h in
      le_trans (never-falls digits r (fresh digits r) j (samples_before k r (length digits) + (stage_length k r (length digits) - 1)) (omega (arith, rw (before-next k r (length digits)) at l)))
      (le_of_eq (ap stage_number (stage_at_lem k (stage_length k r (length digits) - 1) (omega arith))))

  -- ---- T
  pub overture-length : HasLength digits r (total r (length digits))
  unfolding total samples_before enter_of
  overture-length = record {
    playing = not_after stage.Training (lit≤ tt);
    connected = λ j. after-entry stage.Connected j ∙ connected-stays digits r j;
  }

-- ---- demand 3's bounds on T, and 01's on m: T and a buffer of 65,536 samples
pub total-room : (r : ℕ) → 8000 ≤ r → r ≤ 192000 → (d : ℕ) → d ≤ 76 → total r d + 65536 ≤ 4863942
total-room r lo hi d few = omega (arith, (total-range r lo hi d few).1)

module _ (digits : List ℕ) (r : ℕ) (lo : 8000 ≤ r) (hi : r ≤ 192000) (few : length digits ≤ 76) where
  pub length-bounds : (T : ℕ) → HasLength digits r T
      → (1175 * r + 24 * length digits * r ≤ 120 * T + 120) × (120 * T ≤ 1175 * r + 24 * length digits * r + 720)
  length-bounds T h =
      let bounds = total-bounds r lo hi (length digits) few in
      rw (one-length digits r T (total r (length digits)) h (overture-length digits r lo hi few)) (bounds.least, bounds.most)
