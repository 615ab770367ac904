-- A sample leaves its stage as it is or moves on to the next one, so that the stage's number never falls, from any state. By cases of the state. Assumes nothing.
use mathlib.Core.Path.{◌≡◌, refl, sym, ap, subst}
use mathlib.Core.Bool.{Bool, true, false}
use mathlib.Core.List.{List}
use Prim.Native.Nat.{ℕ, zero, suc, ◌-◌, ◌≤◌}
use native.Mathlib.Nat.{le_refl, le_trans, le_of_eq, add-sub_of_le}
use lib.Dec.{leb, lit≤}
use Rattle.fsk.specs.declared.FskChannel.{FskChannel}
use Rattle.stage.specs.declared.Stage.{Stage}
use Rattle.stage.specs.declared.Stage.TheVariants as stage
use Rattle.stage.specs.declared.StageState.{StageState}
use Rattle.stage.specs.declared.StageState.TheVariants.{OffHook, DialTone, Dialling, Ringback, Ci, Ansam, CmJm, Cj, Training, Connected}
use Rattle.stage.specs.Stage.{stage_number, next_stage, stage_of}
use Rattle.stage.specs.Enter.{enter_of}
use Rattle.stage.specs.Next.{off_hook_of, dial_tone_of, dialling_of, ringback_of, ci_of, ansam_of, cm_jm_of, cj_at, cj_of, training_of, connected_of, generate_of, onward, state_next}
use Rattle.overture.specs.Iteration.{after}
use Rattle.overture.proofs.Iteration.{after-add}

-- ---- one sample
cj-same : (b : Bool) (f : FskChannel) (z r : ℕ) → stage_of (cj_at b f z r).state ≡ stage.Cj
unfolding cj_at
cj-same true f z r = refl
cj-same false f z r = refl

pub stage-same : (s : StageState) (digits : List ℕ) (r : ℕ) → stage_of (generate_of s digits r).state ≡ stage_of s
unfolding generate_of off_hook_of dial_tone_of dialling_of ringback_of ci_of ansam_of cm_jm_of cj_of training_of connected_of
stage-same (OffHook rng n) digits r = refl
stage-same (DialTone a b n) digits r = refl
stage-same (Dialling i on a b n) digits r = refl
stage-same (Ringback a b n ring) digits r = refl
stage-same (Ci f) digits r = refl
stage-same (Ansam carrier env n) digits r = refl
stage-same (CmJm f) digits r = refl
stage-same (Cj f z) digits r = cj-same (leb 60 f.done) f z r
stage-same (Training f) digits r = refl
stage-same Connected digits r = refl

stage-entered : (k : Stage) (digits : List ℕ) (r : ℕ) → stage_of (enter_of k digits r) ≡ k
unfolding enter_of
stage-entered stage.OffHook digits r = refl
stage-entered stage.DialTone digits r = refl
stage-entered stage.Dialling digits r = refl
stage-entered stage.Ringback digits r = refl
stage-entered stage.Ci digits r = refl
stage-entered stage.Ansam digits r = refl
stage-entered stage.CmJm digits r = refl
stage-entered stage.Cj digits r = refl
stage-entered stage.Training digits r = refl
stage-entered stage.Connected digits r = refl

next-no-lower : (k : Stage) → stage_number k ≤ stage_number (next_stage k)
next-no-lower stage.OffHook = lit≤ tt
next-no-lower stage.DialTone = lit≤ tt
next-no-lower stage.Dialling = lit≤ tt
next-no-lower stage.Ringback = lit≤ tt
next-no-lower stage.Ci = lit≤ tt
next-no-lower stage.Ansam = lit≤ tt
next-no-lower stage.CmJm = lit≤ tt
next-no-lower stage.Cj = lit≤ tt
next-no-lower stage.Training = lit≤ tt
next-no-lower stage.Connected = lit≤ tt

-- ---- the iteration
module _ (digits : List ℕ) (r : ℕ) where
  onward-no-lower : (b : Bool) (s : StageState) → stage_number (stage_of s) ≤ stage_number (stage_of (onward b s digits r))
  onward-no-lower true s = rw (stage-entered (next_stage (stage_of s)) digits r) (next-no-lower (stage_of s))
  onward-no-lower false s = le_refl _

  one-no-lower : (s : StageState) → stage_number (stage_of s) ≤ stage_number (stage_of (state_next s digits r))
  unfolding state_next
  one-no-lower s = le_trans (le_of_eq (ap stage_number (sym (stage-same s digits r)))) (onward-no-lower (generate_of s digits r).finished (generate_of s digits r).state)

  some-no-lower : (k : ℕ) (s : StageState) → stage_number (stage_of s) ≤ stage_number (stage_of (after k s digits r))
  unfolding after
  some-no-lower zero s = le_refl _
  some-no-lower (suc k) s = le_trans (one-no-lower s) (some-no-lower k (state_next s digits r))

  -- from every state
  pub never-falls : (s : StageState) (j k : ℕ) → j ≤ k → stage_number (stage_of (after j s digits r)) ≤ stage_number (stage_of (after k s digits r))
  never-falls s j k h =
      subst (λ (n : ℕ). stage_number (stage_of (after j s digits r)) ≤ stage_number (stage_of (after n s digits r))) (add-sub_of_le h)
      (rw (after-add digits r j (k - j) s) (some-no-lower (k - j) (after j s digits r)))
