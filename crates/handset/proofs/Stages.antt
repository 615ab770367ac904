-- The float overture, stage by stage: what sounds after n samples of a stage, and how many samples have sounded since its last fresh oscillators.
-- The stages' own laws say which state a sample is made from; the steps follow by induction on the samples. Assumes nothing.
use Rattle.std.proofs.Common.{◌≡◌, ℕ, zero, suc, ◌+◌, ◌^◌, ◌<◌, ◌≤◌, Bool, true, false, ◌&&◌, eqb, List, [], ◌∷◌, length, sym, refl, ap, ◌∙◌, subst, le_trans, le_of_eq, lt_of_lt_of_le, le_of_suc-le-suc, not-suc-le-zero, lt_of_le_of_lt, add-zero, le_of_lt, add-suc, zero-lt-suc, arith, lit<, lit≤, ne_eqb, eqb-true}
use Rattle.math.specs.Float.{one, of_nat}
use Rattle.nco.specs.declared.Nco.{Nco}
use Rattle.nco.specs.Nco.{fresh_nco}
use Rattle.schedule.specs.Time.{time_at, samples_in}
use Rattle.schedule.specs.Dialling.{in_tone}
use Rattle.schedule.specs.Length.{click_time, ringback_time, dialling_length}
use Rattle.schedule.proofs.Lengths.{digit_after, dialling-none, dialling-ends, click-range, dialling-range}
use Rattle.stage.specs.declared.Stage.{Stage}
use Rattle.stage.specs.declared.Stage.TheVariants as stage
use Rattle.stage.specs.declared.StageState.{StageState}
use Rattle.stage.specs.declared.StageState.TheVariants.{OffHook, DialTone, Dialling, Ringback, Ci, Ansam, CmJm, Cj, Training, Connected}
use Rattle.stage.specs.Stage.{stage_number, stage_of, next_stage}
use Rattle.stage.specs.Enter.{enter_of}
use Rattle.tones.specs.Dial.{digit_tones, dialled_key}
use Rattle.overture.specs.Iteration.{fresh, after}
use Rattle.passage.specs.Lengths.{samples_before, samples_of_digits}
use Rattle.passage.proofs.Stages.{never-falls}
use Rattle.passage.proofs.Counted.{HasCount, dial_tone, ringback, dial-tone-lasts, ringback-lasts}
use Rattle.passage.proofs.Dialling.{no-time, digit-first, tone-first, some-digits-last}
use Rattle.passage.proofs.Overture.{after-entry, stage_at_lem, not_after, stage-some}
use Rattle.std.specs.Prelude.{Some, None}
use Rattle.handset.specs.declared.Tones.{Tones}
use Rattle.handset.specs.Sound.{Sound}
use Rattle.handset.specs.Sound.{sounding_tones, key_sound, ring_sound, sound_of, takes_fresh, state_after, sound_after, sounding, steps_after}
use Rattle.handset.specs.Runs.{count_if, rings_at, rung_before}
use Rattle.handset.proofs.Digits.{tone-begins}

-- ---- one sample
module _ (digits : List ℕ) (r k : ℕ) where
  pub steps_on : (s t : StageState) → state_after digits r k ≡ s → state_after digits r (suc k) ≡ t → takes_fresh s t ≡ false
      → steps_after digits r (suc k) ≡ sounding (sound_of s digits r) (steps_after digits r k)
  unfolding steps_after
  steps_on s t e f h = rw (e, f, h)

  pub steps-fresh : (s t : StageState) → state_after digits r k ≡ s → state_after digits r (suc k) ≡ t → takes_fresh s t ≡ true → steps_after digits r (suc k) ≡ 0
  unfolding steps_after
  steps-fresh s t e f h = rw (e, f, h)

other-stage : (s t : StageState) → stage_number (stage_of s) < stage_number (stage_of t) → takes_fresh s t ≡ true
unfolding takes_fresh
other-stage s t h = rw (ne_eqb (stage_number (stage_of s)) (stage_number (stage_of t)) (λ e. omega arith))

-- in the stages that are none of the three, nothing sounds
pub silent-stage : (s : StageState) (digits : List ℕ) (r : ℕ) → (stage_number (stage_of s) ≤ 1) → sound_of s digits r ≡ None
unfolding sound_of
silent-stage (OffHook rng n) digits r h = refl
silent-stage (DialTone a b n) digits r h = absurd (omega arith)
silent-stage (Dialling i on a b n) digits r h = absurd (omega arith)
silent-stage (Ringback a b n ring) digits r h = absurd (omega arith)
silent-stage (Ci f) digits r h = refl
silent-stage (Ansam c e n) digits r h = refl
silent-stage (CmJm f) digits r h = refl
silent-stage (Cj f z) digits r h = refl
silent-stage (Training f) digits r h = refl
silent-stage Connected digits r h = refl

pub late-stage : (s : StageState) (digits : List ℕ) (r : ℕ) → (5 ≤ stage_number (stage_of s)) → sound_of s digits r ≡ None
unfolding sound_of
late-stage (OffHook rng n) digits r h = refl
late-stage (DialTone a b n) digits r h = absurd (omega arith)
late-stage (Dialling i on a b n) digits r h = absurd (omega arith)
late-stage (Ringback a b n ring) digits r h = absurd (omega arith)
late-stage (Ci f) digits r h = refl
late-stage (Ansam c e n) digits r h = refl
late-stage (CmJm f) digits r h = refl
late-stage (Cj f z) digits r h = refl
late-stage (Training f) digits r h = refl
late-stage Connected digits r h = refl

-- ---- Dialling's states
pub digit-few : (r : ℕ) → 8000 ≤ r → r ≤ 192000 → (d : ℕ) → d ≤ 76 → (n : ℕ) → n < dialling_length r d → digit_after r n ≤ 75
digit-few r lo hi d D zero h = rw (no-time r lo hi, digit-first) (lit≤ tt)
digit-few r lo hi zero D (suc n) h = absurd (none (subst (λ (m : ℕ). suc n < m) (dialling-none r) h))
  where
    none : suc n < 1 → ⊥
    none l = omega arith
digit-few r lo hi (suc d) D (suc n) h = le_of_suc-le-suc (le_trans ((dialling-ends r lo hi (suc d) D (zero-lt-suc d)).before (suc n) (zero-lt-suc n) h) D)

-- one that holds the pair of t = n / r
record Dials (r n : ℕ) (s : StageState) : Type 0 where
  a : Nco
  b : Nco
  state : s ≡ Dialling (digit_after r n) (in_tone (time_at r n)) a b n

dials : (digits : List ℕ) (r : ℕ) → 8000 ≤ r → r ≤ 192000 → length digits ≤ 76 → (n : ℕ) → n < dialling_length r (length digits)
    → Dials r n (after n (enter_of stage.Dialling digits r) digits r)
unfolding after enter_of
dials [] r lo hi few zero h = record {
  a = fresh_nco (digit_tones [] 0).low (of_nat r);
  b = fresh_nco (digit_tones [] 0).high (of_nat r);
  state = rw (no-time r lo hi, digit-first, tone-first);
}
dials [] r lo hi few (suc n) h = absurd (none (subst (λ (m : ℕ). suc n < m) (dialling-none r) h))
  where
    none : suc n < 1 → ⊥
    none l = omega arith
dials (x ∷ xs) r lo hi few n h =
    let at = (some-digits-last (x ∷ xs) r lo hi (zero-lt-suc (length xs)) few).during n h in
    record { a = at.dial.a; b = at.dial.b; state = at.state ∙ rw (at.pair.digit, at.pair.tone) }

-- what sounds is in tone
in-tone-of : (digits : List ℕ) (i : ℕ) (on : Bool) (tones : Tones) → key_sound (dialled_key digits i on) ≡ Some tones → on ≡ true
unfolding dialled_key
in-tone-of digits i true tones e = refl
in-tone-of digits i false tones e = cc

module _ (digits : List ℕ) (r : ℕ) (lo : 8000 ≤ r) (hi : r ≤ 192000) (few : length digits ≤ 76) where
  abbrev d : ℕ
  d = length digits

  -- ---- before dial tone, and after Ringback
  pub silent-before : (k : ℕ) → k < samples_before stage.DialTone r d → sound_after digits r k ≡ None
  silent-before k h = silent-stage (state_after digits r k) digits r (not_after digits r lo hi few stage.OffHook (lit≤ tt) k h)

  pub silent-after : (k : ℕ) → samples_before stage.Ci r d ≤ k → sound_after digits r k ≡ None
  silent-after k h =
      late-stage (state_after digits r k) digits r
      (le_trans (le_of_eq (sym (ap stage_number (stage_at_lem digits r lo hi few stage.Ci 0 (stage-some r lo hi d few stage.Ci (lit≤ tt))))))
      (never-falls digits r (fresh digits r) (samples_before stage.Ci r d + 0) k (le_trans (le_of_eq (add-zero _)) h)))

  -- ---- oscillators are fresh where a stage begins
  begins-fresh : (p : Stage) → stage_number p ≤ 8 → stage_number p < stage_number (next_stage p) → stage_number (next_stage p) ≤ 9 → 1 ≤ samples_before (next_stage p) r d
      → steps_after digits r (samples_before (next_stage p) r d) ≡ 0
  begins-fresh p P l Q some = go (samples_before (next_stage p) r d) refl some
    where
      go : (b : ℕ) → b ≡ samples_before (next_stage p) r d → 1 ≤ b → steps_after digits r b ≡ 0
      go zero e h = absurd (not-suc-le-zero h)
      go (suc b) e h =
          let here : stage_of (state_after digits r (suc b)) ≡ next_stage p =
          subst (λ (k : ℕ). stage_of (state_after digits r k) ≡ next_stage p) (add-zero _ ∙ sym e) (stage_at_lem digits r lo hi few (next_stage p) 0 (stage-some r lo hi d few (next_stage p) Q)) in
          steps-fresh digits r b (state_after digits r b) (state_after digits r (suc b)) refl refl
          (other-stage (state_after digits r b) (state_after digits r (suc b))
          (lt_of_le_of_lt (not_after digits r lo hi few p (le_trans P (lit≤ tt)) b (le_of_eq e)) (lt_of_lt_of_le l (le_of_eq (sym (ap stage_number here))))))

  click-some : 1 ≤ samples_in click_time r
  click-some = (click-range r lo hi).0

  -- ---- dial tone: all of it sounds
  pub dial-tone-state : (n : ℕ) → n < samples_in one r → HasCount dial_tone n (state_after digits r (samples_before stage.DialTone r d + n))
  dial-tone-state n h = subst (HasCount dial_tone n) (sym (after-entry digits r lo hi few stage.DialTone n)) ((dial-tone-lasts digits r lo hi).during n h)

  pub dial-tone-sound : (n : ℕ) → n < samples_in one r → sound_after digits r (samples_before stage.DialTone r d + n) ≡ sounding_tones 350 450
  unfolding sound_of
  dial-tone-sound n h = ap (λ (s : StageState). sound_of s digits r) (dial-tone-state n h).1

  pub dial-tone-steps : (n : ℕ) → n < samples_in one r → steps_after digits r (samples_before stage.DialTone r d + n) ≡ n
  unfolding samples_before sound_of takes_fresh
  dial-tone-steps zero h = rw (add-zero) (begins-fresh stage.OffHook (lit≤ tt) (lit< tt) (lit≤ tt) click-some)
  dial-tone-steps (suc n) h =
      ap (steps_after digits r) (add-suc (samples_before stage.DialTone r d) n)
      ∙ steps_on digits r (samples_before stage.DialTone r d + n) _ _ (dial-tone-state n (le_of_lt h)).1 (subst (λ (k : ℕ). state_after digits r k ≡ dial_tone (dial-tone-state (suc n) h).0 (suc n)) (add-suc (samples_before stage.DialTone r d) n) (dial-tone-state (suc n) h).1) refl
      ∙ ap suc (dial-tone-steps n (le_of_lt h))

  -- ---- Ringback: they rest in gaps, and go on
  pub ringback-state : (n : ℕ) → n < samples_in ringback_time r → HasCount ringback n (state_after digits r (samples_before stage.Ringback r d + n))
  ringback-state n h = subst (HasCount ringback n) (sym (after-entry digits r lo hi few stage.Ringback n)) ((ringback-lasts digits r lo hi).during n h)

  pub ringback-sound : (n : ℕ) → n < samples_in ringback_time r → sound_after digits r (samples_before stage.Ringback r d + n) ≡ ring_sound (rings_at r n)
  unfolding sound_of
  ringback-sound n h = ap (λ (s : StageState). sound_of s digits r) (ringback-state n h).1

  rung-one : (b : Bool) (k : ℕ) → sounding (ring_sound b) k ≡ count_if b k
  rung-one true k = refl
  rung-one false k = refl

  pub ringback-steps : (n : ℕ) → n < samples_in ringback_time r → steps_after digits r (samples_before stage.Ringback r d + n) ≡ rung_before r n
  unfolding samples_before sound_of takes_fresh rung_before
  ringback-steps zero h = rw (add-zero) (begins-fresh stage.Dialling (lit≤ tt) (lit< tt) (lit≤ tt) (omega (arith, click-some)))
  ringback-steps (suc n) h =
      ap (steps_after digits r) (add-suc (samples_before stage.Ringback r d) n)
      ∙ steps_on digits r (samples_before stage.Ringback r d + n) _ _ (ringback-state n (le_of_lt h)).1 (subst (λ (k : ℕ). state_after digits r k ≡ ringback (ringback-state (suc n) h).0 (suc n)) (add-suc (samples_before stage.Ringback r d) n) (ringback-state (suc n) h).1) refl
      ∙ rung-one (rings_at r n) _
      ∙ ap (count_if (rings_at r n)) (ringback-steps n (le_of_lt h))

  -- ---- Dialling: by the pair of digit and tone of t = n / r
  abbrev dialling : ℕ → ℕ
  dialling n = samples_before stage.Dialling r d + n

  dialling-state : (n : ℕ) → n < dialling_length r d → Dials r n (state_after digits r (dialling n))
  dialling-state n h = subst (Dials r n) (sym (after-entry digits r lo hi few stage.Dialling n)) (dials digits r lo hi few n h)

  pub dialling-sound : (n : ℕ) → n < dialling_length r d → sound_after digits r (dialling n) ≡ key_sound (dialled_key digits (digit_after r n) (in_tone (time_at r n)))
  unfolding sound_of
  dialling-sound n h = ap (λ (s : StageState). sound_of s digits r) (dialling-state n h).state

  -- in tone, what has sounded are the samples since the digit's first
  pub dialling-steps : (n : ℕ) → n < dialling_length r d → (tones : Tones) → sound_after digits r (dialling n) ≡ Some tones
      → steps_after digits r (dialling n) + samples_of_digits r (digit_after r n) ≡ n
  unfolding samples_before sound_of takes_fresh
  dialling-steps zero h tones e =
      rw (add-zero, begins-fresh stage.DialTone (lit≤ tt) (lit< tt) (lit≤ tt) (omega (arith, click-some)), no-time r lo hi, digit-first)
  dialling-steps (suc n) h tones e = go (eqb (digit_after r n) (digit_after r (suc n))) (in_tone (time_at r n)) refl refl (dialling-steps n (le_of_lt h) tones)
    where
      here : Dials r n (state_after digits r (dialling n))
      here = dialling-state n (le_of_lt h)

      next : Dials r (suc n) (state_after digits r (suc (dialling n)))
      next = subst (λ (k : ℕ). Dials r (suc n) (state_after digits r k)) (add-suc (samples_before stage.Dialling r d) n) (dialling-state (suc n) h)

      on : in_tone (time_at r (suc n)) ≡ true
      on = in-tone-of digits (digit_after r (suc n)) (in_tone (time_at r (suc n))) tones (sym (dialling-sound (suc n) h) ∙ e)

      short : suc n ≤ 2 ^ 32
      short = le_trans (le_of_lt h) (le_trans (dialling-range r lo hi d few).1 (lit≤ tt))

      counts : (k a x : ℕ) → k ≡ suc a → a + x ≡ n → k + x ≡ suc n
      counts k a x e f = omega arith

      begins : (k x : ℕ) → k ≡ 0 → x ≡ suc n → k + x ≡ suc n
      begins k x e f = omega arith

      changed : takes_fresh (Dialling (digit_after r n) (in_tone (time_at r n)) here.a here.b n) (Dialling (digit_after r (suc n)) (in_tone (time_at r (suc n))) next.a next.b (suc n)) ≡ true
          → eqb (digit_after r n) (digit_after r (suc n)) && in_tone (time_at r n) ≡ false
          → steps_after digits r (dialling (suc n)) + samples_of_digits r (digit_after r (suc n)) ≡ suc n
      changed f new =
          begins _ _ (ap (steps_after digits r) (add-suc (samples_before stage.Dialling r d) n) ∙ steps-fresh digits r (dialling n) _ _ here.state next.state f)
          (tone-begins r lo hi n short (digit-few r lo hi d few (suc n) h) on new)

      go : (a b : Bool) → eqb (digit_after r n) (digit_after r (suc n)) ≡ a → in_tone (time_at r n) ≡ b
          → (sound_after digits r (dialling n) ≡ Some tones → steps_after digits r (dialling n) + samples_of_digits r (digit_after r n) ≡ n)
          → steps_after digits r (dialling (suc n)) + samples_of_digits r (digit_after r (suc n)) ≡ suc n
      go true true ea eb before =
          let same : digit_after r n ≡ digit_after r (suc n) = eqb-true (digit_after r n) (digit_after r (suc n)) ea in
          let heard : sound_after digits r (dialling n) ≡ Some tones =
          dialling-sound n (le_of_lt h)
          ∙ ap (λ (i : ℕ). key_sound (dialled_key digits i (in_tone (time_at r n)))) same
          ∙ ap (λ (b : Bool). key_sound (dialled_key digits (digit_after r (suc n)) b)) (eb ∙ sym on)
          ∙ sym (dialling-sound (suc n) h)
          ∙ e in
          counts _ (steps_after digits r (dialling n)) (samples_of_digits r (digit_after r (suc n)))
          (ap (steps_after digits r) (add-suc (samples_before stage.Dialling r d) n)
          ∙ steps_on digits r (dialling n) _ _ here.state next.state (rw (ea, eb, on))
          ∙ ap (λ (x : Sound). sounding x (steps_after digits r (dialling n))) (ap (λ (s : StageState). sound_of s digits r) (sym here.state) ∙ heard))
          (ap (λ (i : ℕ). steps_after digits r (dialling n) + samples_of_digits r i) (sym same) ∙ before heard)
      go true false ea eb before = changed (rw (ea, eb, on)) (rw (ea, eb))
      go false b ea eb before = changed (rw (ea, on)) (rw ea)
