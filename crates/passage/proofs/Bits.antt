-- The stages of bits: Ci, CmJm and Training, and Cj with the zeros after its bits. After n samples a channel's bits done and its phase are those that the
-- schedule's clock gives, so that a stage ends where the schedule says. Assumes nothing.
use mathlib.Core.Path.{◌≡◌, refl, sym, ap, subst, ◌∙◌}
use mathlib.Core.List.{List}
use Prim.Native.Nat.{ℕ, zero, suc, ◌+◌, ◌≤◌, ◌<◌}
use native.Mathlib.Nat.{le_refl, le_trans, le_of_lt, le-suc, lt_of_lt_of_le}
use lib.Dec.{leb, lit<, lit≤}
use borrow.Author.Tests.{le-leb, lt-leb}
use Rattle.frame.specs.Frame.{ci_payload, cm_jm_payload, cj_payload, training_payload}
use Rattle.schedule.specs.Time.{samples_in}
use Rattle.schedule.specs.Symbols.{symbol_step, phase_after, done_after}
use Rattle.schedule.specs.Length.{cj_silence, bits_length}
use Rattle.schedule.proofs.Lengths.{bits_after, bits-end, bits-before, silence-range}
use Rattle.fsk.specs.declared.FskChannel.{FskChannel}
use Rattle.fsk.specs.Channel.{fresh_channel, most_done, next_channel}
use Rattle.fsk.proofs.Channel.{next-phase, next-step, next-done}
use Rattle.stage.specs.declared.Stage.{Stage}
use Rattle.stage.specs.declared.Stage.TheVariants as stage
use Rattle.stage.specs.declared.StageState.{StageState}
use Rattle.stage.specs.declared.StageState.TheVariants.{Ci, CmJm, Cj, Training}
use Rattle.stage.specs.Stage.{next_stage, stage_of}
use Rattle.stage.specs.Enter.{enter_of}
use Rattle.stage.specs.Next.{ci_of, cm_jm_of, cj_at, cj_of, training_of, generate_of, state_next}
use Rattle.overture.specs.Iteration.{after}
use Rattle.overture.proofs.Iteration.{after-suc}
use Rattle.passage.proofs.Lasting.{Lasts, LastsWith, StageInvariant, then-lasts, lasts-with}
use Rattle.passage.proofs.Counted.{counted}

-- ---- the channel
-- after n samples of a payload
unfoldable pub channel_after : List ℕ → ℕ → ℕ → FskChannel
channel_after payload r zero = fresh_channel payload r
channel_after payload r (suc n) = next_channel (channel_after payload r n) payload

module _ (payload : List ℕ) (r : ℕ) where
  step_is : (n : ℕ) → (channel_after payload r n).modulator.step ≡ symbol_step r
  unfolding channel_after fresh_channel
  step_is zero = refl
  step_is (suc n) = next-step (channel_after payload r n) payload ∙ step_is n

  phase-is : (n : ℕ) → (channel_after payload r n).modulator.phase ≡ phase_after (symbol_step r) n
  unfolding channel_after fresh_channel phase_after
  phase-is zero = refl
  phase-is (suc n) = next-phase (channel_after payload r n) payload ∙ rw (step_is n, phase-is n)

  -- a sample adds a bit to fewer than its count can hold
  done-is : (n : ℕ) → ((j : ℕ) → j < n → bits_after r j < most_done) → (channel_after payload r n).done ≡ bits_after r n
  unfolding channel_after fresh_channel done_after
  done-is zero few = refl
  done-is (suc n) few =
      let e = done-is n (λ j l. few j (le_trans l (le-suc n))) in
      next-done (channel_after payload r n) payload (subst (λ (k : ℕ). k < most_done) (sym e) (few n (le_refl _))) ∙ rw (step_is n, phase-is n, e)

-- a state that is the payload's channel after j samples
abbrev pub IsChannelAfter : (FskChannel → StageState) → List ℕ → ℕ → ℕ → StageState → Type 0
IsChannelAfter state payload r j s = s ≡ state (channel_after payload r j)

module _ (digits : List ℕ) (r : ℕ) (lo : 8000 ≤ r) (hi : r ≤ 192000) where
  -- before the last of a stage's samples its bits are not all done, and there are 300 at most
  bits-done : (payload : List ℕ) (N : ℕ) → 0 < N → N ≤ 300 → (n : ℕ) → n ≤ bits_length r N → (channel_after payload r n).done ≡ bits_after r n
  bits-done payload N P B n l = done-is payload r n (λ j h. lt_of_lt_of_le (bits-before r lo hi N P B j (le_trans h l)) (le_trans B (lit≤ tt)))

  -- ---- a stage that is a channel and ends with its bits
  module _ (payload : List ℕ) (N : ℕ) (P : 0 < N) (B : N ≤ 300) (k : Stage) (state : FskChannel → StageState)
      (named : (f : FskChannel) → stage_of (state f) ≡ k)
      (moves : (f : FskChannel) → (generate_of (state f) digits r).state ≡ state (next_channel f payload))
      (finishes : (f : FskChannel) → (generate_of (state f) digits r).finished ≡ leb N (next_channel f payload).done) where
    invariant : StageInvariant digits r k (IsChannelAfter state payload r) (bits_after r) N (bits_length r N)
    unfolding channel_after
    invariant = record {
      named = λ j s a. ap stage_of a ∙ named (channel_after payload r j);
      moves = λ j s a l. ap (λ (t : StageState). (generate_of t digits r).state) a ∙ moves (channel_after payload r j);
      finishes = λ j s a l. ap (λ (t : StageState). (generate_of t digits r).finished) a ∙ finishes (channel_after payload r j) ∙ ap (leb N) (bits-done payload N P B (suc j) l);
    }

    bits-last : LastsWith digits r (state (fresh_channel payload r)) k (IsChannelAfter state payload r) (bits_length r N) (enter_of (next_stage k) digits r)
    unfolding channel_after
    bits-last = lasts-with digits r k (IsChannelAfter state payload r) (bits_after r) N (bits_length r N) invariant (bits-end r lo hi N B) (state (fresh_channel payload r)) refl

  pub ci-lasts : LastsWith digits r (enter_of stage.Ci digits r) stage.Ci (IsChannelAfter Ci ci_payload r) (bits_length r 60) (enter_of stage.Ansam digits r)
  unfolding enter_of generate_of ci_of
  ci-lasts = bits-last ci_payload 60 (lit< tt) (lit≤ tt) stage.Ci Ci (λ f. refl) (λ f. refl) (λ f. refl)

  pub cm-jm-lasts : LastsWith digits r (enter_of stage.CmJm digits r) stage.CmJm (IsChannelAfter CmJm cm_jm_payload r) (bits_length r 80) (enter_of stage.Cj digits r)
  unfolding enter_of generate_of cm_jm_of
  cm-jm-lasts = bits-last cm_jm_payload 80 (lit< tt) (lit≤ tt) stage.CmJm CmJm (λ f. refl) (λ f. refl) (λ f. refl)

  pub training-lasts : LastsWith digits r (enter_of stage.Training digits r) stage.Training (IsChannelAfter Training training_payload r) (bits_length r 300) (enter_of stage.Connected digits r)
  unfolding enter_of generate_of training_of
  training-lasts = bits-last training_payload 300 (lit< tt) (lit≤ tt) stage.Training Training (λ f. refl) (λ f. refl) (λ f. refl)

  -- ---- Cj: its bits, of which none ends the stage, and then its zeros
  cj-moves : (f : FskChannel) → f.done < 60 → state_next (Cj f 0) digits r ≡ Cj (next_channel f cj_payload) 0
  unfolding state_next generate_of cj_of cj_at
  cj-moves f h = rw (lt-leb 60 f.done h)

  pub cj-channel-is : (j : ℕ) → j ≤ bits_length r 60 → after j (enter_of stage.Cj digits r) digits r ≡ Cj (channel_after cj_payload r j) 0
  unfolding after enter_of channel_after
  cj-channel-is zero l = refl
  cj-channel-is (suc j) l =
      after-suc digits r j (enter_of stage.Cj digits r)
      ∙ ap (λ (s : StageState). state_next s digits r) (cj-channel-is j (le_of_lt l))
      ∙ cj-moves (channel_after cj_payload r j) (subst (λ (n : ℕ). n < 60) (sym (bits-done cj_payload 60 (lit< tt) (lit≤ tt) j (le_of_lt l))) (bits-before r lo hi 60 (lit< tt) (lit≤ tt) j l))

  abbrev cj-done : FskChannel
  cj-done = channel_after cj_payload r (bits_length r 60)

  cj-bits : Lasts digits r (enter_of stage.Cj digits r) stage.Cj (bits_length r 60) (Cj cj-done 0)
  cj-bits = record { stays = λ j l. ap stage_of (cj-channel-is j (le_of_lt l)); ends = cj-channel-is (bits_length r 60) (le_refl _) }

  cj-zeros : (f : FskChannel) → 60 ≤ f.done → Lasts digits r (Cj f 0) stage.Cj (samples_in cj_silence r) (enter_of stage.Training digits r)
  unfolding generate_of cj_of cj_at
  cj-zeros f h =
      let range = silence-range r lo hi in
      let done = le-leb 60 f.done h in
      (counted digits r stage.Cj (samples_in cj_silence r) range.0 (le_trans range.1 (lit≤ tt))
      {X = Unit} (λ x z. Cj f z) (λ x z. x) (λ x z. refl) (λ x z. rw done) (λ x z. rw done) tt).lasts

  pub cj-lasts : Lasts digits r (enter_of stage.Cj digits r) stage.Cj (bits_length r 60 + samples_in cj_silence r) (enter_of stage.Training digits r)
  cj-lasts =
      then-lasts digits r (enter_of stage.Cj digits r) (Cj cj-done 0) (enter_of stage.Training digits r) stage.Cj (bits_length r 60) (samples_in cj_silence r)
      cj-bits
      (cj-zeros cj-done (subst (λ (n : ℕ). 60 ≤ n) (sym (bits-done cj_payload 60 (lit< tt) (lit≤ tt) (bits_length r 60) (le_refl _))) (bits-end r lo hi 60 (lit≤ tt)).reached))
