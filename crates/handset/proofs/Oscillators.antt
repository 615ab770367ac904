-- The phases start and step with the float overture's oscillators: by the cases of its state and of what 01 has after a sample. Assumes nothing.
use Rattle.std.proofs.Common.{◌≡◌, ℕ, Bool, true, false, not, ◌&&◌, ◌||◌, eqb, leb, List, length, sym, refl, ap, ◌∙◌, true≢false, eq-eqb, ne_eqb, eqb-true}
use mathlib.Core.Bool.{beq}
use Rattle.math.specs.Float.{zero, one}
use Rattle.nco.specs.declared.Nco.{Nco}
use Rattle.keys.specs.Keys.{all_keys}
use Rattle.schedule.specs.Time.{time_at, samples_in, saturating_inc}
use Rattle.schedule.specs.Dialling.{digit_at, in_tone}
use Rattle.schedule.specs.Ringback.{ring_at, ring_time, ring_tone}
use Rattle.frame.specs.Frame.{ci_payload, cm_jm_payload, training_payload}
use Rattle.fsk.specs.declared.FskChannel.{FskChannel}
use Rattle.fsk.specs.Channel.{next_channel}
use Rattle.schedule.specs.Ansam.{sign_at}
use Rattle.schedule.specs.Length.{click_time, ringback_time, ansam_time, cj_silence, ci_bits, cm_jm_bits, cj_bits, training_bits}
use Rattle.tones.specs.Samples.{shifted}
use Rattle.tones.specs.Mixed.{gated_of, answer_of}
use Rattle.tones.specs.Dial.{pair_stays, taken_over, dialled_by, dial_step_of}
use Rattle.stage.specs.declared.StageState.{StageState}
use Rattle.stage.specs.declared.StageState.TheVariants.{OffHook, DialTone, Dialling, Ringback, Ci, Ansam, CmJm, Cj, Training, Connected}
use Rattle.stage.specs.Enter.{enter_of}
use Rattle.stage.specs.Next.{off_hook_of, dial_tone_of, dial_state, dialling_of, ringback_of, ci_of, ansam_of, cm_jm_of, cj_at, cj_of, training_of, connected_of, generate_of, onward, state_next}
use Rattle.handset.specs.Sound.{sound_of, takes_fresh}
use Rattle.handset.specs.Float.{is_sounding, Holds}
use Rattle.handset.proofs.Gate.{ring-gate, dial-sounds}

pub record Stepped (s t : StageState) (digits : List ℕ) (r : ℕ) (a b : Nco) : Type 0 where
  pub starts : takes_fresh s t ≡ true → (a.phase ≡ zero) × (b.phase ≡ zero)
  pub steps : takes_fresh s t ≡ false → (x y : Nco) → Holds s x y
      → (a ≡ (gated_of (is_sounding (sound_of s digits r)) x y).a) × (b ≡ (gated_of (is_sounding (sound_of s digits r)) x y).b)

module _ (digits : List ℕ) (r : ℕ) (s t : StageState) (a b : Nco) where
  -- fresh ones
  taken : (u v : Nco) → takes_fresh s t ≡ true → (u ≡ a) × (v ≡ b) → u.phase ≡ zero → v.phase ≡ zero → Stepped s t digits r a b
  taken u v f h p q = record {
    starts = λ k. (ap (λ (o : Nco). o.phase) (sym h.0) ∙ p, ap (λ (o : Nco). o.phase) (sym h.1) ∙ q);
    steps = λ k. absurd (true≢false (sym f ∙ k));
  }

  -- those that were there, gated
  kept : (u v : Nco) (on : Bool) → takes_fresh s t ≡ false → ((x y : Nco) → Holds s x y → (u ≡ x) × (v ≡ y)) → is_sounding (sound_of s digits r) ≡ on
      → ((gated_of on u v).a ≡ a) × ((gated_of on u v).b ≡ b) → Stepped s t digits r a b
  kept u v on f own e h = record {
    starts = λ k. absurd (true≢false (sym k ∙ f));
    steps = λ k x y held. (
      sym h.0 ∙ ap (λ (u : Nco). (gated_of on u v).a) (own x y held).0 ∙ ap (λ (v : Nco). (gated_of on x v).a) (own x y held).1 ∙ ap (λ (on : Bool). (gated_of on x y).a) (sym e),
      sym h.1 ∙ ap (λ (u : Nco). (gated_of on u v).b) (own x y held).0 ∙ ap (λ (v : Nco). (gated_of on x v).b) (own x y held).1 ∙ ap (λ (on : Bool). (gated_of on x y).b) (sym e),
    );
  }

swapped : (i j : ℕ) (q : Bool) → eqb i j ≡ q → eqb j i ≡ q
swapped i j true e = eq-eqb j i (sym (eqb-true i j e))
swapped i j false e = ne_eqb j i (λ h. true≢false (sym (eq-eqb i j (sym h)) ∙ e))

module _ (digits : List ℕ) (keys : all_keys digits ≡ true) (r : ℕ) where
  off-hook : (rng n : ℕ) (rng' n' : ℕ) (c : Bool) (a b : Nco) → Holds (onward c (OffHook rng' n') digits r) a b
      → Stepped (OffHook rng n) (onward c (OffHook rng' n') digits r) digits r a b
  unfolding enter_of takes_fresh
  off-hook rng n rng' n' true a b h = taken digits r _ _ a b _ _ refl h refl refl
  off-hook rng n rng' n' false a b h = absurd h

  dial-tone : (x y : Nco) (n n' : ℕ) (c : Bool) (a b : Nco) → Holds (onward c (DialTone (gated_of true x y).a (gated_of true x y).b n') digits r) a b
      → Stepped (DialTone x y n) (onward c (DialTone (gated_of true x y).a (gated_of true x y).b n') digits r) digits r a b
  unfolding enter_of takes_fresh sound_of
  dial-tone x y n n' true a b h = taken digits r _ _ a b _ _ refl h refl refl
  dial-tone x y n n' false a b h = kept digits r _ _ a b x y true refl (λ u v o. o) refl h

  ringback : (x y : Nco) (n ring n' ring' : ℕ) (c : Bool) (a b : Nco)
      → Holds (onward c (Ringback (gated_of (ring_tone (ring_time (time_at r n))) x y).a (gated_of (ring_tone (ring_time (time_at r n))) x y).b n' ring') digits r) a b
      → Stepped (Ringback x y n ring) (onward c (Ringback (gated_of (ring_tone (ring_time (time_at r n))) x y).a (gated_of (ring_tone (ring_time (time_at r n))) x y).b n' ring') digits r) digits r a b
  unfolding enter_of takes_fresh sound_of
  ringback x y n ring n' ring' true a b h = absurd h
  ringback x y n ring n' ring' false a b h =
      kept digits r _ _ a b x y (ring_tone (ring_time (time_at r n))) refl (λ u v o. o) (ring-gate (ring_tone (ring_time (time_at r n)))) h

  -- a digit is there: f says whether the stage ends, q whether the digit is the same
  module _ (i : ℕ) (x y : Nco) (n n' i' : ℕ) (a b : Nco) where
    abbrev then : (f q on' on : Bool) → StageState
    then f q on' on = onward f (dial_state (taken_over (f || (q && beq on' on)) i' on' (record { digit = i; tone = on; a = (gated_of on x y).a; b = (gated_of on x y).b }) digits r) n') digits r

    digit : (f q on' on : Bool) → eqb i i' ≡ q → is_sounding (sound_of (Dialling i on x y n) digits r) ≡ on → Holds (then f q on' on) a b
        → Stepped (Dialling i on x y n) (then f q on' on) digits r a b
    unfolding enter_of takes_fresh taken_over
    digit true q on' on e g h = taken digits r _ _ a b _ _ refl h refl refl
    digit false true true true e g h = kept digits r _ _ a b x y true (rw (eq-eqb i i refl)) (λ u v o. o) g h
    digit false true true false e g h = taken digits r _ _ a b _ _ (rw e) h refl refl
    digit false true false true e g h = kept digits r _ _ a b x y true refl (λ u v o. o) g h
    digit false true false false e g h = kept digits r _ _ a b x y false refl (λ u v o. o) g h
    digit false false true on e g h = taken digits r _ _ a b _ _ (rw e) h refl refl
    digit false false false on e g h = kept digits r _ _ a b x y on refl (λ u v o. o) g h

  module _ (i : ℕ) (on : Bool) (x y : Nco) (n n' : ℕ) (a b : Nco) where
    abbrev next : Bool → StageState
    next c =
        let g = dialled_by c (record { digit = i; tone = on; a = x; b = y }) n' digits r in
        onward g.finished (dial_state g.dial n') digits r

    dialling : (c : Bool) → leb (length digits) i ≡ c → Holds (next c) a b → Stepped (Dialling i on x y n) (next c) digits r a b
    unfolding enter_of takes_fresh pair_stays sound_of
    dialling true e h = taken digits r _ _ a b _ _ refl h refl refl
    dialling false e h =
        digit i x y n n' (digit_at (time_at r n')) a b (leb (length digits) (digit_at (time_at r n'))) (eqb (digit_at (time_at r n')) i) (in_tone (time_at r n')) on
        (swapped (digit_at (time_at r n')) i _ refl) (dial-sounds digits keys i on ∙ ap (λ (c : Bool). not c && on) e) h

  -- no later stage holds the two
  ci : (c : Bool) (f : FskChannel) (a b : Nco) → Holds (onward c (Ci f) digits r) a b → ⊥
  unfolding enter_of
  ci true f a b h = h
  ci false f a b h = h

  ansam : (c : Bool) (u v : Nco) (n : ℕ) (a b : Nco) → Holds (onward c (Ansam u v n) digits r) a b → ⊥
  unfolding enter_of
  ansam true u v n a b h = h
  ansam false u v n a b h = h

  cm-jm : (c : Bool) (f : FskChannel) (a b : Nco) → Holds (onward c (CmJm f) digits r) a b → ⊥
  unfolding enter_of
  cm-jm true f a b h = h
  cm-jm false f a b h = h

  cj-ends : (c : Bool) (f : FskChannel) (z : ℕ) (a b : Nco) → Holds (onward c (Cj f z) digits r) a b → ⊥
  unfolding enter_of
  cj-ends true f z a b h = h
  cj-ends false f z a b h = h

  cj : (c : Bool) (f : FskChannel) (z : ℕ) (a b : Nco) → Holds (onward (cj_at c f z r).finished (cj_at c f z r).state digits r) a b → ⊥
  unfolding cj_at
  cj true f z a b h = cj-ends (leb (samples_in cj_silence r) (saturating_inc z)) f (saturating_inc z) a b h
  cj false f z a b h = h

  training : (c : Bool) (f : FskChannel) (a b : Nco) → Holds (onward c (Training f) digits r) a b → ⊥
  unfolding enter_of
  training true f a b h = h
  training false f a b h = h

  pub stepped : (s : StageState) (a b : Nco) → Holds (state_next s digits r) a b → Stepped s (state_next s digits r) digits r a b
  unfolding state_next generate_of off_hook_of dial_tone_of dialling_of dial_step_of ringback_of ci_of ansam_of cm_jm_of cj_of training_of connected_of
  stepped (OffHook rng n) a b h = off-hook rng n (shifted rng) (saturating_inc n) (leb (samples_in click_time r) (saturating_inc n)) a b h
  stepped (DialTone x y n) a b h = dial-tone x y n (saturating_inc n) (leb (samples_in one r) (saturating_inc n)) a b h
  stepped (Dialling i on x y n) a b h = dialling i on x y n (saturating_inc n) a b (leb (length digits) i) refl h
  stepped (Ringback x y n ring) a b h = ringback x y n ring (saturating_inc n) (ring_at (time_at r n)) (leb (samples_in ringback_time r) (saturating_inc n)) a b h
  stepped (Ci f) a b h = absurd (ci (leb ci_bits (next_channel f ci_payload).done) (next_channel f ci_payload) a b h)
  stepped (Ansam c e n) a b h = absurd (ansam (leb (samples_in ansam_time r) (saturating_inc n)) (answer_of c e (sign_at (time_at r n))).a (answer_of c e (sign_at (time_at r n))).b (saturating_inc n) a b h)
  stepped (CmJm f) a b h = absurd (cm-jm (leb cm_jm_bits (next_channel f cm_jm_payload).done) (next_channel f cm_jm_payload) a b h)
  stepped (Cj f z) a b h = absurd (cj (leb cj_bits f.done) f z a b h)
  stepped (Training f) a b h = absurd (training (leb training_bits (next_channel f training_payload).done) (next_channel f training_payload) a b h)
  stepped Connected a b h = absurd h
