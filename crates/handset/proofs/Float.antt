-- Stage, tone and gap are the float overture's: by the cases of its state, whose sample is gated by the very test that says what sounds. Assumes nothing.
use Rattle.std.proofs.Common.{◌≡◌, ℕ, suc, ◌≤◌, Bool, true, false, not, ◌&&◌, leb, List, length, sym, refl, ap, ◌∙◌, subst, le_trans, arith}
use Rattle.nco.specs.declared.Nco.{Nco}
use Rattle.keys.specs.Keys.{all_keys}
use Rattle.schedule.specs.Time.{time_at, saturating_inc}
use Rattle.schedule.specs.Length.{total}
use Rattle.schedule.specs.Ringback.{ring_time, ring_tone}
use Rattle.tones.specs.declared.Dial.{Dial}
use Rattle.tones.specs.Mixed.{gated_of}
use Rattle.tones.specs.Dial.{dialled_by, dial_step_of}
use Rattle.stage.specs.declared.Stage.TheVariants as stage
use Rattle.stage.specs.declared.StageState.{StageState}
use Rattle.stage.specs.declared.StageState.TheVariants.{OffHook, DialTone, Dialling, Ringback, Ci, Ansam, CmJm, Cj, Training, Connected}
use Rattle.stage.specs.Stage.{stage_number, stage_of}
use Rattle.stage.specs.Next.{dial_tone_of, dialling_of, ringback_of, generate_of, sample_next}
use Rattle.overture.specs.Iteration.{fresh}
use Rattle.overture.proofs.Iteration.{after-suc}
use Rattle.passage.specs.Lengths.{samples_before}
use Rattle.passage.proofs.Overture.{overture-length}
use Rattle.handset.specs.Sound.{sound_of, state_after}
use Rattle.handset.specs.Float.{is_sounding, Holds, SameSteps, FloatEdges}
use Rattle.handset.proofs.Stages.{silent-stage, late-stage}
use Rattle.handset.proofs.Heard.{zeros}
use Rattle.handset.proofs.Joined.{silence-after}
use Rattle.handset.proofs.Gate.{ring-gate, dial-sounds}
use Rattle.handset.proofs.Oscillators.{Stepped, stepped}

-- ---- a state
record Gated (s : StageState) (digits : List ℕ) (r : ℕ) : Type 0 where
  a : Nco
  b : Nco
  held : Holds s a b
  sample : sample_next s digits r ≡ (gated_of (is_sounding (sound_of s digits r)) a b).sample

-- no digit at the position gives 0.0, and so does a gap
dial-sample : (c : Bool) (dial : Dial) (n : ℕ) (digits : List ℕ) (r : ℕ) → (dialled_by c dial n digits r).sample ≡ (gated_of (not c && dial.tone) dial.a dial.b).sample
unfolding gated_of
dial-sample true dial n digits r = refl
dial-sample false dial n digits r = refl

dial-gate : (digits : List ℕ) → all_keys digits ≡ true → (r i : ℕ) (on : Bool) (a b : Nco) (n : ℕ) → Gated (Dialling i on a b n) digits r
unfolding sample_next generate_of dialling_of dial_step_of sound_of
dial-gate digits keys r i on a b n = record {
  a = a;
  b = b;
  held = (refl, refl);
  sample =
      dial-sample (leb (length digits) i) (record { digit = i; tone = on; a = a; b = b }) (saturating_inc n) digits r
      ∙ ap (λ (t : Bool). (gated_of t a b).sample) (sym (dial-sounds digits keys i on));
}

gated : (digits : List ℕ) → all_keys digits ≡ true → (r : ℕ) (s : StageState) → 2 ≤ stage_number (stage_of s) → stage_number (stage_of s) ≤ 4 → Gated s digits r
unfolding sample_next generate_of dial_tone_of ringback_of sound_of
gated digits keys r (OffHook rng n) lo hi = absurd (omega arith)
gated digits keys r (DialTone a b n) lo hi = record { a = a; b = b; held = (refl, refl); sample = refl }
gated digits keys r (Dialling i on a b n) lo hi = dial-gate digits keys r i on a b n
gated digits keys r (Ringback a b n ring) lo hi = record { a = a; b = b; held = (refl, refl); sample = rw (ring-gate (ring_tone (ring_time (time_at r n)))) }
gated digits keys r (Ci f) lo hi = absurd (omega arith)
gated digits keys r (Ansam c e n) lo hi = absurd (omega arith)
gated digits keys r (CmJm f) lo hi = absurd (omega arith)
gated digits keys r (Cj f z) lo hi = absurd (omega arith)
gated digits keys r (Training f) lo hi = absurd (omega arith)
gated digits keys r Connected lo hi = absurd (omega arith)

-- ---- T
module _ (digits : List ℕ) (r : ℕ) (lo : 8000 ≤ r) (hi : r ≤ 192000) (few : length digits ≤ 76) (keys : all_keys digits ≡ true) where
  within : samples_before stage.Ci r (length digits) ≤ total r (length digits)
  unfolding samples_before total
  within = omega arith

  same-steps : (k : ℕ) (a b : Nco) → Holds (state_after digits r (suc k)) a b → SameSteps digits r k a b
  same-steps k a b h =
      let g = subst (λ (t : StageState). Holds t a b → Stepped (state_after digits r k) t digits r a b) (sym (after-suc digits r k (fresh digits r))) (stepped digits keys r (state_after digits r k) a b) h in
      record { starts = g.starts; steps = g.steps }

  pub float-edges : FloatEdges digits r (total r (length digits))
  float-edges = record {
    ends = overture-length digits r lo hi few;
    gate = λ k l h. let g = gated digits keys r (state_after digits r k) l h in record { a = g.a; b = g.b; held = g.held; sample = g.sample };
    steps = same-steps;
    other = λ k h. silent-stage (state_after digits r k) digits r h;
    later = λ k h. late-stage (state_after digits r k) digits r h;
    past = λ pass n h. silence-after digits r lo hi few pass n (le_trans within h) ∙ zeros n;
  }
