-- A sound state is followed by a sound one. Where the stage ends the next one begins, sound; where it goes on its count is below its end,
-- since that is what it asks; oscillators and modulators stay sound, and Dialling takes over positions below d only. Assumes nothing.
use mathlib.Core.Path.{◌≡◌, refl, sym, subst, ◌∙◌}
use mathlib.Core.Bool.{Bool, true, false, ◌||◌, true≢false}
use mathlib.Core.List.{List}
use Prim.Native.Nat.{ℕ, ◌^◌, ◌≤◌, ◌<◌}
use native.Mathlib.Nat.{le_of_lt}
use native.Mathlib.Omega.{arith}
use lib.Dec.{leb, eqb}
use lib.ListN.{length}
use lib.Ieee.{Float}
use borrow.Author.Tests.{leb-false, lt-ltb, ltb-true}
use Rattle.nco.specs.declared.Nco.{Nco}
use Rattle.frame.specs.Frame.{ci_payload, cm_jm_payload, cj_payload, training_payload}
use Rattle.schedule.specs.Time.{time_at, samples_in, saturating_inc}
use Rattle.schedule.specs.Dialling.{digit_at, in_tone}
use Rattle.schedule.specs.Ringback.{second_ring, ring_by, ring_at, ring_time, ring_tone}
use Rattle.schedule.specs.Symbols.{done_by}
use Rattle.schedule.specs.Length.{click_time, cj_silence, dialling_length}
use Rattle.schedule.proofs.Count.{saturating-inc-is}
use Rattle.schedule.proofs.Lengths.{dialling-range}
use Rattle.fsk.specs.declared.FskChannel.{FskChannel}
use Rattle.fsk.specs.Modulator.{bit_ends}
use Rattle.fsk.specs.Channel.{next_channel}
use Rattle.fsk.proofs.Channel.{next-done}
use Rattle.tones.specs.declared.Dial.{Dial}
use Rattle.tones.specs.Mixed.{gated_of, answer_of}
use Rattle.tones.specs.Dial.{pair_stays, taken_over, dialled_by, dial_step_of}
use Rattle.stage.specs.declared.StageState.{StageState}
use Rattle.stage.specs.declared.StageState.TheVariants.{OffHook, DialTone, Dialling, Ringback, Ci, Ansam, CmJm, Cj, Training, Connected}
use Rattle.stage.specs.Stage.{stage_of, next_stage}
use Rattle.stage.specs.Next.{off_hook_of, dial_tone_of, dialling_of, ringback_of, ci_of, ansam_of, cm_jm_of, cj_at, cj_of, training_of, connected_of, generate_of, onward, state_next}
use Rattle.soundness.specs.Sound.{digit_ok, ring_ok}
use Rattle.soundness.proofs.Limits.{rate-low, rate-high, digits-few}
use Rattle.soundness.proofs.Dialling.{goes_on}
use Rattle.soundness.proofs.Oscillators.{SoundNco, fresh-nco, stepped-nco}
use Rattle.soundness.proofs.Modulators.{next-channel}
use Rattle.soundness.proofs.States.{SoundTones, SoundBits, SoundCj, Facts, facts, sound-parts, Sound, facts-sound}
use Rattle.soundness.proofs.First.{digit-hertz, first-facts}

ring-ok : (t : Float) → ring_ok (ring_at t) ≡ true
unfolding ring_at
ring-ok t = go (second_ring t)
  where
    go : (b : Bool) → eqb (ring_by b) 1 || eqb (ring_by b) 2 ≡ true
    go true = refl
    go false = refl

below-ok : (i d : ℕ) → i < d → digit_ok i d ≡ true
below-ok i d h = rw (lt-ltb i d h)

module _ (r : ℕ) (lo : 8000 ≤ r) (hi : r ≤ 192000) where
  -- ---- two oscillators, mixed or at rest, while the stage goes on
  gated-tones : (on : Bool) (a b : Nco) (n m end : ℕ) → SoundTones a b n end r → m < end → SoundTones (gated_of on a b).a (gated_of on a b).b m end r
  unfolding gated_of
  gated-tones true a b n m end k h = record { first = stepped-nco r lo hi a k.first; second = stepped-nco r lo hi b k.second; count = h }
  gated-tones false a b n m end k h = record { first = k.first; second = k.second; count = h }

  -- ---- bits
  bits-next : (f : FskChannel) (payload : List ℕ) (N : ℕ) → SoundBits f N r → leb N (next_channel f payload).done ≡ false → SoundBits (next_channel f payload) N r
  bits-next f payload N k e = record { modulator = next-channel r lo hi f payload k.modulator; done = leb-false N (next_channel f payload).done e }

  done-few : (f : FskChannel) (payload : List ℕ) → f.done < 60 → (next_channel f payload).done ≤ 60
  done-few f payload h = rw (next-done f payload (omega arith)) (go (bit_ends f.modulator))
    where
      go : (b : Bool) → done_by b f.done ≤ 60
      go true = h
      go false = le_of_lt h

  cj-next : (b : Bool) (f : FskChannel) (z d : ℕ) → leb 60 f.done ≡ b → SoundCj f z r → (cj_at b f z r).finished ≡ false → Facts (cj_at b f z r).state d r
  unfolding cj_at
  cj-next true f z d t k e = record { modulator = k.modulator; done = k.done; zeros = leb-false (samples_in cj_silence r) (saturating_inc z) e }
  cj-next false f z d t k e = record { modulator = next-channel r lo hi f cj_payload k.modulator; done = done-few f cj_payload (leb-false 60 f.done t); zeros = k.zeros }

  -- ---- what is dialled
  record SoundDial (dial : Dial) (d : ℕ) : Type 0 where
    digit : digit_ok dial.digit d ≡ true
    a : SoundNco dial.a r
    b : SoundNco dial.b r

  taken-over : (stays : Bool) (i : ℕ) (on : Bool) (dial : Dial) (digits : List ℕ) → i < length digits → SoundDial dial (length digits) → SoundDial (taken_over stays i on dial digits r) (length digits)
  unfolding taken_over
  taken-over true i on dial digits h k = k
  taken-over false i true dial digits h k =
      let f = digit-hertz digits i in
      record { digit = below-ok i (length digits) h; a = fresh-nco r lo hi _ f.0; b = fresh-nco r lo hi _ f.1 }
  taken-over false i false dial digits h k = record { digit = below-ok i (length digits) h; a = k.a; b = k.b }

  gated-dial : (on : Bool) (dial : Dial) (d : ℕ) → SoundDial dial d → SoundDial (record { digit = dial.digit; tone = dial.tone; a = (gated_of on dial.a dial.b).a; b = (gated_of on dial.a dial.b).b }) d
  unfolding gated_of
  gated-dial true dial d k = record { digit = k.digit; a = stepped-nco r lo hi dial.a k.a; b = stepped-nco r lo hi dial.b k.b }
  gated-dial false dial d k = record { digit = k.digit; a = k.a; b = k.b }

  dialled : (ended : Bool) (dial : Dial) (n : ℕ) (digits : List ℕ) → SoundDial dial (length digits) → (dialled_by ended dial n digits r).finished ≡ false
      → SoundDial (dialled_by ended dial n digits r).dial (length digits) × (digit_at (time_at r n) < length digits)
  dialled true dial n digits k e = absurd (true≢false e)
  dialled false dial n digits k e =
      let t = time_at r n in
      let i = leb-false (length digits) (digit_at t) e in
      (taken-over (pair_stays (length digits) (digit_at t) (in_tone t) dial.digit dial.tone) (digit_at t) (in_tone t) _ digits i (gated-dial dial.tone dial (length digits) k), i)

  -- one more sample than n, which is below the end, with the digit below d, is below the end
  count-below : (n d : ℕ) → d ≤ 76 → n < dialling_length r d → digit_at (time_at r (saturating_inc n)) < d → saturating_inc n < dialling_length r d
  count-below n d D h i =
      ltb-true (saturating_inc n) (dialling_length r d)
      (sym (goes_on r lo hi d (saturating_inc n) D (most (dialling_length r d) h (dialling-range r lo hi d D).1)) ∙ rw (lt-ltb (digit_at (time_at r (saturating_inc n))) d i) (or-true (eqb (saturating_inc n) 0)))
    where
      or-true : (b : Bool) → b || true ≡ true
      or-true true = refl
      or-true false = refl

      most : (L : ℕ) → n < L → L ≤ 2918401 → saturating_inc n ≤ 2 ^ 32
      most L h l = subst (λ (z : ℕ). z ≤ 2 ^ 32) (sym (saturating-inc-is n (omega arith))) (omega arith)

  -- ---- states
  generated : (s : StageState) (digits : List ℕ) → length digits ≤ 76 → Facts s (length digits) r → (generate_of s digits r).finished ≡ false → Facts (generate_of s digits r).state (length digits) r
  unfolding generate_of off_hook_of dial_tone_of dialling_of dial_step_of ringback_of ci_of ansam_of answer_of cm_jm_of cj_of training_of connected_of gated_of
  generated (OffHook rng n) digits D k e = leb-false (samples_in click_time r) (saturating_inc n) e
  generated (DialTone a b n) digits D k e = gated-tones true a b n (saturating_inc n) _ k (leb-false _ (saturating_inc n) e)
  generated (Dialling i on a b n) digits D k e =
      let t = k.tones in
      let x = dialled (leb (length digits) i) (record { digit = i; tone = on; a = a; b = b }) (saturating_inc n) digits (record { digit = k.digit; a = t.first; b = t.second }) e in
      record { digit = x.0.digit; tones = record { first = x.0.a; second = x.0.b; count = count-below n (length digits) D t.count x.1 } }
  generated (Ringback a b n ring) digits D k e =
      let t = time_at r n in
      record { ring-ok = ring-ok t; tones = gated-tones (ring_tone (ring_time t)) a b n (saturating_inc n) _ k.tones (leb-false _ (saturating_inc n) e) }
  generated (Ci f) digits D k e = bits-next f ci_payload 60 k e
  generated (Ansam carrier env n) digits D k e = gated-tones true carrier env n (saturating_inc n) _ k (leb-false _ (saturating_inc n) e)
  generated (CmJm f) digits D k e = bits-next f cm_jm_payload 80 k e
  generated (Cj f z) digits D k e = cj-next (leb 60 f.done) f z (length digits) refl k e
  generated (Training f) digits D k e = bits-next f training_payload 300 k e
  generated Connected digits D k e = tt

  next-facts : (s : StageState) (digits : List ℕ) → length digits ≤ 76 → Facts s (length digits) r → Facts (state_next s digits r) (length digits) r
  unfolding state_next
  next-facts s digits D k = go (generate_of s digits r).finished (generate_of s digits r).state (generated s digits D k)
    where
      go : (b : Bool) (t : StageState) → (b ≡ false → Facts t (length digits) r) → Facts (onward b t digits r) (length digits) r
      go true t f = first-facts r lo hi (next_stage (stage_of t)) digits D
      go false t f = f refl

-- a sound state is followed by a sound one
pub next-sound : (s : StageState) (digits : List ℕ) (r : ℕ) → Sound s digits r → Sound (state_next s digits r) digits r
next-sound s digits r (fit, e) =
    let p = sound-parts s digits r e in
    let lo = rate-low r p.rate in
    let hi = rate-high r p.rate in
    facts-sound (state_next s digits r) digits r p.rate p.keys (next-facts r lo hi s digits (digits-few digits p.keys) (facts r lo hi s (length digits) fit p.state))
