-- The stages that last a time: OffHook, DialTone, Ringback and Ansam. Their count after j samples is j, so that they end where it is all of them.
-- One law for every state that carries a count beside other things. Assumes nothing.
use mathlib.Core.Path.{◌≡◌, refl, ap, ◌∙◌}
use mathlib.Core.List.{List}
use Prim.Native.Nat.{ℕ, suc, ◌≤◌, ◌<◌}
use native.Mathlib.Nat.{le_refl, le_trans, le_of_lt, lt_of_lt_of_le}
use native.Mathlib.Numerals.{add-one}
use lib.Dec.{leb, lit≤}
use Rattle.math.specs.Float.{one}
use Rattle.nco.specs.declared.Nco.{Nco}
use Rattle.nco.specs.Nco.{stepped_nco}
use Rattle.schedule.specs.Time.{time_at, samples_in, saturating_inc}
use Rattle.schedule.specs.Ringback.{ring_at, ring_time, ring_tone}
use Rattle.schedule.specs.Length.{click_time, ringback_time, ansam_time}
use Rattle.schedule.proofs.Count.{saturating-inc-is}
use Rattle.schedule.proofs.Lengths.{click-range, dial-tone-range, ringback-range, ansam-range}
use Rattle.tones.specs.declared.Mixed.{Mixed}
use Rattle.stage.specs.declared.Stage.{Stage}
use Rattle.stage.specs.declared.Stage.TheVariants as stage
use Rattle.stage.specs.declared.StageState.{StageState}
use Rattle.stage.specs.declared.StageState.TheVariants.{OffHook, DialTone, Ringback, Ansam}
use Rattle.stage.specs.Stage.{next_stage, stage_of}
use Rattle.stage.specs.Enter.{enter_of}
use Rattle.stage.specs.Next.{off_hook_of, dial_tone_of, ringback_of, ansam_of, generate_of}
use Rattle.tones.specs.Samples.{shifted}
use Rattle.tones.specs.Mixed.{gated_of, answer_of}
use Rattle.passage.proofs.Lasting.{LastsWith, StageInvariant, lasts-with}

-- one more of a count that no stage's length lets run to the largest
pub saturating-inc : (L : ℕ) → L ≤ 0xffff_ffff → (n : ℕ) → n < L → saturating_inc n ≡ suc n
saturating-inc L most n l = saturating-inc-is n (lt_of_lt_of_le l most) ∙ add-one n

-- a state whose count is j
abbrev pub HasCount : {X : Type 0} → (X → ℕ → StageState) → ℕ → StageState → Type 0
HasCount {X} state j s = (x : X) × (s ≡ state x j)

module _ (digits : List ℕ) (r : ℕ) (k : Stage) (L : ℕ) (some : 1 ≤ L) (most : L ≤ 0xffff_ffff)
    {X : Type 0} (state : X → ℕ → StageState) (moved : X → ℕ → X)
    (named : (x : X) (n : ℕ) → stage_of (state x n) ≡ k)
    (moves : (x : X) (n : ℕ) → (generate_of (state x n) digits r).state ≡ state (moved x n) (saturating_inc n))
    (finishes : (x : X) (n : ℕ) → (generate_of (state x n) digits r).finished ≡ leb L (saturating_inc n)) where
  invariant : StageInvariant digits r k (HasCount state) (λ n. n) L L
  invariant = record {
    named = λ j s a. ap stage_of a.1 ∙ named a.0 j;
    moves = λ j s a l. (moved a.0 j, ap (λ (t : StageState). (generate_of t digits r).state) a.1 ∙ moves a.0 j ∙ ap (state (moved a.0 j)) (saturating-inc L most j (le_of_lt l)));
    finishes = λ j s a l. ap (λ (t : StageState). (generate_of t digits r).finished) a.1 ∙ finishes a.0 j ∙ ap (leb L) (saturating-inc L most j l);
  }

  pub counted : (x : X) → LastsWith digits r (state x 0) k (HasCount state) L (enter_of (next_stage k) digits r)
  counted x = lasts-with digits r k (HasCount state) (λ n. n) L L invariant (record { some = some; reached = le_refl L; before = λ n h l. l }) (state x 0) (x, refl)

-- ---- the four
-- what their states carry beside the count
abbrev pub off_hook : ℕ → ℕ → StageState
off_hook rng n = OffHook rng n

abbrev pub dial_tone : Nco × Nco → ℕ → StageState
dial_tone x n = DialTone x.0 x.1 n

abbrev pub ringback : Nco × Nco × ℕ → ℕ → StageState
ringback x n = Ringback x.0 x.1 n x.2

abbrev pub ansam : Nco × Nco → ℕ → StageState
ansam x n = Ansam x.0 x.1 n

module _ (digits : List ℕ) (r : ℕ) (lo : 8000 ≤ r) (hi : r ≤ 192000) where
  pub off-hook-lasts : LastsWith digits r (enter_of stage.OffHook digits r) stage.OffHook (HasCount off_hook) (samples_in click_time r) (enter_of stage.DialTone digits r)
  unfolding enter_of generate_of off_hook_of
  off-hook-lasts =
      let range = click-range r lo hi in
      counted digits r stage.OffHook (samples_in click_time r) range.0 (le_trans range.1 (lit≤ tt)) off_hook (λ rng n. shifted rng)
      (λ rng n. refl) (λ rng n. refl) (λ rng n. refl) _

  pub dial-tone-lasts : LastsWith digits r (enter_of stage.DialTone digits r) stage.DialTone (HasCount dial_tone) (samples_in one r) (enter_of stage.Dialling digits r)
  unfolding enter_of generate_of dial_tone_of gated_of
  dial-tone-lasts =
      let range = dial-tone-range r lo hi in
      counted digits r stage.DialTone (samples_in one r) range.0 (le_trans range.1 (lit≤ tt)) dial_tone (λ x n. (stepped_nco x.0, stepped_nco x.1))
      (λ x n. refl) (λ x n. refl) (λ x n. refl) (_, _)

  pub ringback-lasts : LastsWith digits r (enter_of stage.Ringback digits r) stage.Ringback (HasCount ringback) (samples_in ringback_time r) (enter_of stage.Ci digits r)
  unfolding enter_of generate_of ringback_of
  ringback-lasts =
      let range = ringback-range r lo hi in
      let gated : Nco × Nco × ℕ → ℕ → Mixed = λ x n. gated_of (ring_tone (ring_time (time_at r n))) x.0 x.1 in
      counted digits r stage.Ringback (samples_in ringback_time r) range.0 (le_trans range.1 (lit≤ tt)) ringback (λ x n. ((gated x n).a, (gated x n).b, ring_at (time_at r n)))
      (λ x n. refl) (λ x n. refl) (λ x n. refl) (_, _, _)

  pub ansam-lasts : LastsWith digits r (enter_of stage.Ansam digits r) stage.Ansam (HasCount ansam) (samples_in ansam_time r) (enter_of stage.CmJm digits r)
  unfolding enter_of generate_of ansam_of answer_of
  ansam-lasts =
      let range = ansam-range r lo hi in
      counted digits r stage.Ansam (samples_in ansam_time r) range.0 (le_trans range.1 (lit≤ tt)) ansam (λ x n. (stepped_nco x.0, stepped_nco x.1))
      (λ x n. refl) (λ x n. refl) (λ x n. refl) (_, _)
