-- What each stage's writer has written when it has played a run of its clock: the samples are the stage's by its definition, with the clock
-- told by the run. Assumes nothing.
use Prim.Native.Nat.{ℕ, zero, suc, min, ◌≤◌, ◌<◌}
use native.Mathlib.Nat.{lt_of_lt_of_le, le_trans, le_refl, le_of_suc-le-suc, not-suc-le-zero}
use native.Mathlib.Omega.{arith}
use mathlib.Core.Path.{◌≡◌, refl, sym, ap, subst, ◌∙◌}
use mathlib.Core.Bool.{Bool, true, false, beq}
use mathlib.Core.List.{List, ◌++◌}
use lib.Dec.{leb}
use lib.ListN.{length, drop, replicate}
use lib.Ieee.{Float}
use borrow.Author.Tests.{le-leb, lt-leb, eq-eqb}
use Rattle.math.specs.Float.{f64, one}
use Rattle.math.specs.Narrow.{narrowed}
use Rattle.nco.specs.declared.Nco.{Nco}
use Rattle.frame.specs.Frame.{ci_payload, cm_jm_payload, cj_payload, training_payload}
use Rattle.schedule.specs.Time.{time_at, samples_in, saturating_inc}
use Rattle.schedule.specs.Ansam.{sign_at}
use Rattle.schedule.specs.Ringback.{ring_at, ring_time, ring_tone}
use Rattle.schedule.specs.Dialling.{digit_at, in_tone}
use Rattle.schedule.specs.Length.{click_time, ansam_time, ringback_time, cj_silence, ci_bits, cm_jm_bits, training_bits}
use Rattle.schedule.proofs.Constants.{three, four}
use Rattle.runs.specs.Runs.{counted, Before, OneSign, OneGate, OneKey}
use Rattle.tones.specs.Mixed.{gated_of, answer_of}
use Rattle.tones.specs.declared.Dialled.{Dialled}
use Rattle.tones.specs.Dial.{pair_stays, taken_over, dial_step_of}
use Rattle.fsk.specs.declared.FskChannel.{FskChannel}
use Rattle.fsk.specs.Channel.{channel_sample, next_channel}
use Rattle.stage.specs.declared.StageState.{StageState}
use Rattle.stage.specs.declared.StageState.TheVariants.{OffHook, DialTone, Dialling, Ringback, Ci, Ansam, CmJm, Cj, Training, Connected}
use Rattle.stage.specs.Stage.{shown_of}
use Rattle.stage.specs.Next.{sample_next, state_next, onward, generate_of, off_hook_of, dial_tone_of, dialling_of, dial_state, ringback_of, ci_of, ansam_of, cm_jm_of, cj_of, cj_at, training_of, connected_of}
use Rattle.overture.specs.declared.Pair.{Pair}
use Rattle.overture.specs.declared.Click.{Click}
use Rattle.overture.specs.declared.Sent.{Sent}
use Rattle.overture.specs.declared.Wrote.{Wrote}
use Rattle.overture.specs.Iteration.{samples, after, zeros}
use Rattle.fsk.specs.Played.{Source, left, PlayedIs}
use Rattle.overture.specs.Writers.{mixing, sending, clicking, SentIs, AllSent, WroteIs}
use Rattle.overture.proofs.Playing.{wrote, zeros-played, only-zeros, resting}

module _ (digits : List ℕ) (r : ℕ) (was is : List Float) where
  -- ---- 1
  module _ (n end c rng : ℕ) (B : Before n end (length was) c) (ee : end ≡ samples_in click_time r) where
    count-is : (j : ℕ) → (left (clicking r) j (record { rng = rng; n = n })).n ≡ counted j n
    unfolding left counted
    count-is zero = refl
    count-is (suc j) = ap saturating_inc (count-is j)

    pub off-hook-wrote : (y : Click) → PlayedIs (clicking r) c (record { rng = rng; n = n }) was is y
        → WroteIs (OffHook rng n) digits r was is (record { state = OffHook y.rng y.n; ended = leb end y.n; written = c })
    unfolding sample_next state_next generate_of off_hook_of left
    off-hook-wrote y P =
        wrote (clicking r) (λ y j. OffHook y.rng y.n) (λ y j. leb end y.n) (record { rng = rng; n = n }) c digits r
        (record {
          sample = λ j l. refl;
          next = λ j l. rw ee;
          early = λ j l. lt-leb end _ (subst (λ (k : ℕ). k < end) (sym (count-is (suc j))) (B.early j l));
          shown = λ j l. refl;
        })
        was is y P B.some B.fits _ _ (λ _. refl)

  -- ---- the stages that end at a count: c samples of the most that are left, and k the count after them
  module _ (n end most c k : ℕ) (B : Before n end (length was) most) (fits : c ≤ most) (some : 0 < most → 0 < c) (ek : k ≡ counted c n) where
    -- the state after j samples is `at` of what is in hand and j
    module _ {X : Type 0} (f : Source X) (at : X → ℕ → StageState) (x : X)
        (sample : (j : ℕ) → j < c → sample_next (at (left f j x) j) digits r ≡ f.sample (left f j x))
        (next : (j : ℕ) → j < c → state_next (at (left f j x) j) digits r ≡ onward (leb end (counted (suc j) n)) (at (left f (suc j) x) (suc j)) digits r)
        (shown : (j : ℕ) → j < c → shown_of (at (left f j x) j) digits ≡ shown_of (at x 0) digits) where
      counts : (y : X) → PlayedIs f c x was is y → (s : StageState) → (0 < c → s ≡ at y c)
          → WroteIs (at x 0) digits r was is (record { state = s; ended = leb end k; written = c })
      counts y P s e =
          wrote f at (λ y j. leb end (counted j n)) x c digits r
          (record { sample = sample; next = next; early = λ j l. lt-leb end _ (B.early j (lt_of_lt_of_le l fits)); shown = shown })
          was is y P (λ m. some (B.some m)) (le_trans fits B.fits) s _ (λ h. rw (ek, e h))

    module _ (a b : Nco) (p : Pair) where
      -- 2
      pub dial-tone-wrote : end ≡ samples_in one r → PlayedIs (mixing (gated_of true)) c (record { a = a; b = b }) was is p
          → WroteIs (DialTone a b n) digits r was is (record { state = DialTone p.a p.b k; ended = leb end k; written = c })
      unfolding sample_next state_next generate_of dial_tone_of left counted
      dial-tone-wrote ee P =
          counts (mixing (gated_of true)) (λ p j. DialTone p.a p.b (counted j n)) (record { a = a; b = b })
          (λ j l. refl)
          (λ j l. rw ee)
          (λ j l. refl)
          p P _ (λ _. rw ek)

      -- 4: the ring is that of the sample before
      module _ (z : ℕ) (S : OneGate r n most c) where
        abbrev ring_before : ℕ → ℕ
        ring_before zero = z
        ring_before (suc j) = ring_at (time_at r n)

        last-ring : (j : ℕ) → 0 < j → ring_before j ≡ ring_at (time_at r n)
        last-ring zero h = absurd (not-suc-le-zero h)
        last-ring (suc j) h = refl

        pub ringback-wrote : end ≡ samples_in (f64 0x4010_0000_0000_0000) r → (u v : Float) (on : Bool) (ρ : ℕ) → u ≡ time_at r n → v ≡ ring_time u → on ≡ ring_tone v → ρ ≡ ring_at u
            → PlayedIs (mixing (gated_of on)) c (record { a = a; b = b }) was is p
            → WroteIs (Ringback a b n z) digits r was is (record { state = Ringback p.a p.b k ρ; ended = leb end k; written = c })
        unfolding sample_next state_next generate_of ringback_of left counted
        ringback-wrote ee u v on ρ eu ev eo er P =
            let gate : (j : ℕ) → j < c → ring_tone (ring_time (time_at r (counted j n))) ≡ on = λ j l. S.gate j l ∙ rw (eo, ev, eu) in
            let before : ℕ → Pair = λ j. left (mixing (gated_of on)) j (record { a = a; b = b }) in
            let rung : ℕ → Bool → ℕ → StageState = λ j g q.
            onward (leb (samples_in ringback_time r) (saturating_inc (counted j n))) (Ringback (gated_of g (before j).a (before j).b).a (gated_of g (before j).a (before j).b).b (saturating_inc (counted j n)) q) digits r in
            counts (mixing (gated_of on)) (λ p j. Ringback p.a p.b (counted j n) (ring_before j)) (record { a = a; b = b })
            (λ j l. ap (λ (g : Bool). (gated_of g (before j).a (before j).b).sample) (gate j l))
            (λ j l. rw (ee, four) (ap (λ (g : Bool). rung j g (ring_at (time_at r (counted j n)))) (gate j l) ∙ ap (rung j on) (S.ring j l)))
            (λ j l. refl)
            p P _ (λ h. ap (λ (q : ℕ). Ringback p.a p.b q ρ) ek ∙ ap (Ringback p.a p.b (counted c n)) (er ∙ ap ring_at eu ∙ sym (last-ring c h)))

      -- 6
      pub ansam-wrote : OneSign r n most c → end ≡ samples_in (f64 0x4008_0000_0000_0000) r → (u g : Float) → u ≡ time_at r n → g ≡ sign_at u
          → PlayedIs (mixing (λ x y. answer_of x y g)) c (record { a = a; b = b }) was is p
          → WroteIs (Ansam a b n) digits r was is (record { state = Ansam p.a p.b k; ended = leb end k; written = c })
      unfolding sample_next state_next generate_of ansam_of left counted
      ansam-wrote S ee u g eu eg P =
          let sign : (j : ℕ) → j < c → sign_at (time_at r (counted j n)) ≡ g = λ j l. S.sign j l ∙ rw (eg, eu) in
          let before : ℕ → Pair = λ j. left (mixing (λ x y. answer_of x y g)) j (record { a = a; b = b }) in
          counts (mixing (λ x y. answer_of x y g)) (λ p j. Ansam p.a p.b (counted j n)) (record { a = a; b = b })
          (λ j l. ap (λ (g : Float). (answer_of (before j).a (before j).b g).sample) (sign j l))
          (λ j l. rw (ee, three)
          (ap (λ (g : Float). onward (leb (samples_in ansam_time r) (saturating_inc (counted j n))) (Ansam (answer_of (before j).a (before j).b g).a (answer_of (before j).a (before j).b g).b (saturating_inc (counted j n))) digits r) (sign j l)))
          (λ j l. refl)
          p P _ (λ _. rw ek)

    -- 8: its zeros
    pub cj-silence-wrote : (f : FskChannel) → 60 ≤ f.done → end ≡ samples_in cj_silence r → is ≡ zeros c ++ drop c was
        → WroteIs (Cj f n) digits r was is (record { state = Cj f k; ended = leb end k; written = c })
    unfolding sample_next state_next generate_of cj_of cj_at counted
    cj-silence-wrote f h ee eb =
        counts resting (λ x j. Cj f (counted j n)) 0
        (λ j l. ap (λ (b : Bool). (cj_at b f (counted j n) r).sample) (le-leb 60 f.done h))
        (λ j l. rw ee (ap (λ (b : Bool). onward (cj_at b f (counted j n) r).finished (cj_at b f (counted j n) r).state digits r) (le-leb 60 f.done h)))
        (λ j l. refl)
        0 (zeros-played resting 0 refl refl c was is eb) _ (λ _. rw ek)

  -- ---- 3, which does not end in a run
  module _ (n digit : ℕ) (tone : Bool) (c : ℕ) (K : OneKey r n digit tone (length was) c) (h : digit < length digits) where
    alike : (g : Bool) → beq g g ≡ true
    alike true = refl
    alike false = refl

    stays : pair_stays (length digits) digit tone digit tone ≡ true
    unfolding pair_stays
    stays = rw (lt-leb (length digits) digit h, eq-eqb digit digit refl, alike tone)

    -- a sample after which the clock tells the same pair
    step : (x y : Nco) (k : ℕ) → digit_at (time_at r k) ≡ digit → in_tone (time_at r k) ≡ tone
        → dial_step_of (record { digit = digit; tone = tone; a = x; b = y }) k digits r
        ≡ record { sample = (gated_of tone x y).sample; dial = record { digit = digit; tone = tone; a = (gated_of tone x y).a; b = (gated_of tone x y).b }; finished = false }
    unfolding dial_step_of taken_over
    step x y k d t = rw (lt-leb (length digits) digit h, d, t, lt-leb (length digits) digit h, stays)

    pub dialling-wrote : (a b : Nco) (p : Pair) → PlayedIs (mixing (gated_of tone)) c (record { a = a; b = b }) was is p → 0 < c → (k : ℕ) → k ≡ counted c n
        → WroteIs (Dialling digit tone a b n) digits r was is (record { state = Dialling digit tone p.a p.b k; ended = false; written = c })
    unfolding sample_next state_next generate_of dialling_of left counted
    dialling-wrote a b p P some k ek =
        wrote (mixing (gated_of tone)) (λ p j. Dialling digit tone p.a p.b (counted j n)) (λ p j. false) (record { a = a; b = b }) c digits r
        (record {
          sample = λ j l. ap (λ (d : Dialled). d.sample) (step _ _ (saturating_inc (counted j n)) (K.digit-stays j l) (K.tone-stays j l));
          next = λ j l.
              ap (λ (d : Dialled). onward d.finished (dial_state d.dial (saturating_inc (counted j n))) digits r)
              (step _ _ (saturating_inc (counted j n)) (K.digit-stays j l) (K.tone-stays j l));
          early = λ j l. refl;
          shown = λ j l. refl;
        })
        was is p P (λ _. some) K.fits _ _ (λ _. rw ek)

  -- one sample of whichever stage, if there is room
  pub one-wrote : (s t : StageState) (ended : Bool) (v : Float) (c : ℕ) → c ≡ min (length was) 1 → v ≡ narrowed (sample_next s digits r) → onward ended t digits r ≡ state_next s digits r
      → is ≡ replicate c v ++ drop c was → WroteIs s digits r was is (record { state = t; ended = ended; written = c })
  unfolding samples after
  one-wrote s t ended v c ec ev et eb = record {
    some = λ h. omega arith;
    fits = omega arith;
    buffer = eb ∙ ap (λ (xs : List Float). xs ++ drop c was) (front c (omega arith));
    state = λ h. et ∙ sym (next c h (omega arith));
    same = λ k l. same c (omega arith) k l;
  }
    where
      front : (c : ℕ) → c ≤ 1 → replicate c v ≡ samples c s digits r
      front zero l = refl
      front (suc zero) l = rw ev
      front (suc (suc c)) l = absurd (not-suc-le-zero (le_of_suc-le-suc l))

      next : (c : ℕ) → 0 < c → c ≤ 1 → after c s digits r ≡ state_next s digits r
      next zero h l = absurd (not-suc-le-zero h)
      next (suc zero) h l = refl
      next (suc (suc c)) h l = absurd (not-suc-le-zero (le_of_suc-le-suc l))

      same : (c : ℕ) → c ≤ 1 → (k : ℕ) → k < c → shown_of (after k s digits r) digits ≡ shown_of s digits
      same c l zero m = refl
      same c l (suc k) m = absurd (not-suc-le-zero (le_of_suc-le-suc (le_trans m l)))

  -- ---- the stages that send bits
  module _ (f : FskChannel) (payload : List ℕ) (total : ℕ) (w : Sent) (B : SentIs f payload total was is w) where
    -- 5, 7, 9: a stage that ends with its bits
    bits-wrote : (at : FskChannel → StageState) → ((f : FskChannel) → sample_next (at f) digits r ≡ channel_sample f)
        → ((f : FskChannel) → state_next (at f) digits r ≡ onward (leb total (next_channel f payload).done) (at (next_channel f payload)) digits r)
        → ((f g : FskChannel) → shown_of (at f) digits ≡ shown_of (at g) digits)
        → WroteIs (at f) digits r was is (record { state = at w.fsk; ended = leb total w.fsk.done; written = w.written })
    unfolding left
    bits-wrote at sample next shown =
        wrote (sending payload) (λ f j. at f) (λ f j. leb total f.done) f w.written digits r
        (record { sample = λ j l. sample _; next = λ j l. next _; early = λ j l. lt-leb total _ (B.early j l); shown = λ j l. shown _ _ })
        was is w.fsk B.played B.some B.fits _ _ (λ _. refl)

  told : {s : StageState} (v : Wrote) (t : StageState) (ended : Bool) (written : ℕ) → v.state ≡ t → v.ended ≡ ended → v.written ≡ written
      → WroteIs s digits r was is (record { state = t; ended = ended; written = written }) → WroteIs s digits r was is v
  told {s} v t ended written es ee ew W =
      subst (λ (x : StageState). WroteIs s digits r was is (record { state = x; ended = v.ended; written = v.written })) (sym es)
      (subst (λ (x : Bool). WroteIs s digits r was is (record { state = t; ended = x; written = v.written })) (sym ee)
      (subst (λ (x : ℕ). WroteIs s digits r was is (record { state = t; ended = ended; written = x })) (sym ew) W))

  pub ci-wrote : (f : FskChannel) (v : Wrote) (at : FskChannel → StageState → Type 0) → ((g : FskChannel) (s : StageState) → at g s → s ≡ Ci g)
      → (w : Sent) × AllSent f ci_payload ci_bits was is at w v
      → WroteIs (Ci f) digits r was is v
  unfolding sample_next state_next generate_of ci_of
  ci-wrote f v at made (w, A) = told v _ _ _ (made _ _ A.state) A.ended A.written (bits-wrote f ci_payload ci_bits w A.sent Ci (λ f. refl) (λ f. refl) (λ f g. refl))

  pub cm-jm-wrote : (f : FskChannel) (v : Wrote) (at : FskChannel → StageState → Type 0) → ((g : FskChannel) (s : StageState) → at g s → s ≡ CmJm g)
      → (w : Sent) × AllSent f cm_jm_payload cm_jm_bits was is at w v
      → WroteIs (CmJm f) digits r was is v
  unfolding sample_next state_next generate_of cm_jm_of
  cm-jm-wrote f v at made (w, A) = told v _ _ _ (made _ _ A.state) A.ended A.written (bits-wrote f cm_jm_payload cm_jm_bits w A.sent CmJm (λ f. refl) (λ f. refl) (λ f g. refl))

  pub training-wrote : (f : FskChannel) (v : Wrote) (at : FskChannel → StageState → Type 0) → ((g : FskChannel) (s : StageState) → at g s → s ≡ Training g)
      → (w : Sent) × AllSent f training_payload training_bits was is at w v
      → WroteIs (Training f) digits r was is v
  unfolding sample_next state_next generate_of training_of
  training-wrote f v at made (w, A) = told v _ _ _ (made _ _ A.state) A.ended A.written (bits-wrote f training_payload training_bits w A.sent Training (λ f. refl) (λ f. refl) (λ f g. refl))

  -- 8: its bits, with which it does not end
  pub cj-bits-wrote : (f : FskChannel) (n : ℕ) (w : Sent) → f.done < 60 → SentIs f cj_payload 60 was is w
      → WroteIs (Cj f n) digits r was is (record { state = Cj w.fsk n; ended = false; written = w.written })
  unfolding sample_next state_next generate_of cj_of cj_at left
  cj-bits-wrote f n w h B =
      wrote (sending cj_payload) (λ f j. Cj f n) (λ f j. false) f w.written digits r
      (record {
        sample = λ j l. ap (λ (b : Bool). (cj_at b (left (sending cj_payload) j f) n r).sample) (bits_left j l);
        next = λ j l. ap (λ (b : Bool). onward (cj_at b (left (sending cj_payload) j f) n r).finished (cj_at b (left (sending cj_payload) j f) n r).state digits r) (bits_left j l);
        early = λ j l. refl;
        shown = λ j l. refl;
      })
      was is w.fsk B.played B.some B.fits _ _ (λ _. refl)
    where
      bits_left : (j : ℕ) → j < w.written → leb 60 (left (sending cj_payload) j f).done ≡ false
      bits_left zero l = lt-leb 60 _ h
      bits_left (suc j) l = lt-leb 60 _ (B.early j l)

  -- ---- 10
  pub connected-wrote : is ≡ zeros (length was) → WroteIs Connected digits r was is (record { state = Connected; ended = false; written = length was })
  unfolding sample_next state_next generate_of connected_of
  connected-wrote e =
      wrote resting (λ x j. Connected) (λ x j. false) 0 (length was) digits r
      (record { sample = λ j l. refl; next = λ j l. refl; early = λ j l. refl; shown = λ j l. refl })
      was is 0
      (zeros-played resting 0 refl refl (length was) was is (only-zeros was is e))
      (λ h. h) (le_refl _) _ _ (λ _. refl)
