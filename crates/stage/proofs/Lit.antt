-- 02, E8: the key of a state's next sample: in a digit's tone that of its row and its column, "none in a gap, in another stage"; and none where no sample
-- was made. Assumes nothing.
use Prim.Native.Nat.{ℕ}
use mathlib.Core.Path.{◌≡◌, refl}
use mathlib.Core.Bool.{true, false}
use mathlib.Core.List.{List}
use lib.ListN.{get_or}
use Rattle.nco.specs.declared.Nco.{Nco}
use Rattle.std.specs.Prelude.{Some, None}
use Rattle.keys.specs.Keys.{is_key, key_row, key_column}
use Rattle.tones.proofs.Lit.{digit-lit, gap-dark}
use Rattle.stage.specs.declared.Stage.TheVariants as stage
use Rattle.stage.specs.declared.StageState.{StageState}
use Rattle.stage.specs.declared.StageState.TheVariants.{OffHook, DialTone, Dialling, Ringback, Ci, Ansam, CmJm, Cj, Training, Connected}
use Rattle.stage.specs.Stage.{stage_of, key_of, waiting_of}

module _ (digits : List ℕ) (i : ℕ) (a b : Nco) (n : ℕ) where
  pub tone-lit : is_key (get_or digits i 0) ≡ true → key_of (Dialling i true a b n) digits ≡ Some (record { row = key_row (get_or digits i 0); column = key_column (get_or digits i 0) })
  tone-lit key = digit-lit digits i key

  pub gap-is-dark : key_of (Dialling i false a b n) digits ≡ None
  gap-is-dark = gap-dark digits i

pub other-stage-dark : (s : StageState) (digits : List ℕ) → (stage_of s ≡ stage.Dialling → ⊥) → key_of s digits ≡ None
other-stage-dark (Dialling i on a b n) digits other = absurd (other refl)
other-stage-dark (OffHook rng n) digits other = refl
other-stage-dark (DialTone a b n) digits other = refl
other-stage-dark (Ringback a b n ring) digits other = refl
other-stage-dark (Ci f) digits other = refl
other-stage-dark (Ansam c e n) digits other = refl
other-stage-dark (CmJm f) digits other = refl
other-stage-dark (Cj f z) digits other = refl
other-stage-dark (Training f) digits other = refl
other-stage-dark Connected digits other = refl

pub waiting-dark : (s : StageState) → (waiting_of s).key ≡ None
waiting-dark s = refl
