-- 02, E14: "Stage edges and T are the float overture's at every rate". The state that a sample is made from is one and the same here and there; and of the
-- stages that sound, tone and gap are the same too: the float sample is its two oscillators' mix where something sounds here, and 0.0 where nothing does.
-- And the phases start and step with those two oscillators.
use Rattle.std.specs.Prelude.{◌≡◌, ℕ, suc, ◌≤◌, Bool, true, false, List, replicate, pos, Some, None}
use Rattle.math.specs.Float.{zero}
use Rattle.nco.specs.declared.Nco.{Nco}
use Rattle.tones.specs.Mixed.{gated_of}
use Rattle.stage.specs.declared.StageState.{StageState}
use Rattle.stage.specs.declared.StageState.TheVariants.{OffHook, DialTone, Dialling, Ringback, Ci, Ansam, CmJm, Cj, Training, Connected}
use Rattle.stage.specs.Stage.{stage_number, stage_of}
use Rattle.stage.specs.Next.{sample_next}
use Rattle.passage.specs.Overture.{HasLength}
use Rattle.handset.specs.Sound.{Sound, takes_fresh, state_after, sound_after, samples_after}

abbrev pub is_sounding : Sound → Bool
is_sounding None = false
is_sounding (Some tones) = true

-- the two oscillators that a state of stages 2 to 4 holds
abbrev pub Holds : StageState → (a b : Nco) → Type 0
Holds (OffHook rng n) a b = ⊥
Holds (DialTone x y n) a b = (x ≡ a) × (y ≡ b)
Holds (Dialling i on x y n) a b = (x ≡ a) × (y ≡ b)
Holds (Ringback x y n ring) a b = (x ≡ a) × (y ≡ b)
Holds (Ci f) a b = ⊥
Holds (Ansam c e n) a b = ⊥
Holds (CmJm f) a b = ⊥
Holds (Cj f z) a b = ⊥
Holds (Training f) a b = ⊥
Holds Connected a b = ⊥

-- the float overture's sample k + 1, of stages 2 to 4, by the oscillators that it is made from
pub record SameGate (digits : List ℕ) (r k : ℕ) : Type 0 where
  pub a : Nco
  pub b : Nco
  pub held : Holds (state_after digits r k) a b
  pub sample : sample_next (state_after digits r k) digits r ≡ (gated_of (is_sounding (sound_after digits r k)) a b).sample

-- "it starts at 0 where 01 takes a fresh oscillator, steps after a sample where 01's does": a and b are what sample k + 1 leaves
pub record SameSteps (digits : List ℕ) (r k : ℕ) (a b : Nco) : Type 0 where
  pub starts : takes_fresh (state_after digits r k) (state_after digits r (suc k)) ≡ true → (a.phase ≡ zero) × (b.phase ≡ zero)
  pub steps : takes_fresh (state_after digits r k) (state_after digits r (suc k)) ≡ false → (x y : Nco) → Holds (state_after digits r k) x y
      → (a ≡ (gated_of (is_sounding (sound_after digits r k)) x y).a) × (b ≡ (gated_of (is_sounding (sound_after digits r k)) x y).b)

-- T is where the float overture is Connected, and not before; from there on all is 0
pub record FloatEdges (digits : List ℕ) (r T : ℕ) : Type 0 where
  pub ends : HasLength digits r T
  pub gate : (k : ℕ) → 2 ≤ stage_number (stage_of (state_after digits r k)) → stage_number (stage_of (state_after digits r k)) ≤ 4 → SameGate digits r k
  pub steps : (k : ℕ) (a b : Nco) → Holds (state_after digits r (suc k)) a b → SameSteps digits r k a b
  pub other : (k : ℕ) → (stage_number (stage_of (state_after digits r k)) ≤ 1) → sound_after digits r k ≡ None
  pub later : (k : ℕ) → 5 ≤ stage_number (stage_of (state_after digits r k)) → sound_after digits r k ≡ None
  pub past : (pass n : ℕ) → T ≤ pass → samples_after digits r pass n ≡ replicate n (pos 0)
