-- Laws of the iteration: a + b samples are a and then b; one more is the last; a part of the buffer lent on is a step of it.
-- By induction on the count. Assumes nothing.
use Prim.Native.Nat.{ℕ, zero, suc, ◌+◌, ◌-◌, ◌≤◌}
use native.Mathlib.Nat.{suc-add, zero-add}
use native.Mathlib.Omega.{arith}
use mathlib.Core.Path.{◌≡◌, refl, ap, ◌∙◌}
use mathlib.Core.List.{List, [], ◌∷◌, ◌++◌, append_assoc, append-nil}
use lib.ListN.{length, take, drop, length-drop, drop_of_length-le}
use lib.Seq.{take_at, drop_at, take_all, drop-drop}
use lib.Ieee.{Float}
use Rattle.math.specs.Narrow.{narrowed}
use Rattle.stage.specs.declared.StageState.{StageState}
use Rattle.stage.specs.Next.{sample_next, state_next}
use Rattle.overture.specs.Iteration.{after, samples}

module _ (digits : List ℕ) (r : ℕ) where
  pub after-suc : (k : ℕ) (s : StageState) → after (suc k) s digits r ≡ state_next (after k s digits r) digits r
  unfolding after
  after-suc zero s = refl
  after-suc (suc k) s = after-suc k (state_next s digits r)

  pub samples-suc : (k : ℕ) (s : StageState) → samples (suc k) s digits r ≡ samples k s digits r ++ (narrowed (sample_next (after k s digits r) digits r) ∷ [])
  unfolding samples after
  samples-suc zero s = refl
  samples-suc (suc k) s = ap (λ (l : List Float). narrowed (sample_next s digits r) ∷ l) (samples-suc k (state_next s digits r))

  pub samples-length : (k : ℕ) (s : StageState) → length (samples k s digits r) ≡ k
  unfolding samples
  samples-length zero s = refl
  samples-length (suc k) s = ap suc (samples-length k (state_next s digits r))

  pub after-add : (a b : ℕ) (s : StageState) → after (a + b) s digits r ≡ after b (after a s digits r) digits r
  unfolding after
  after-add zero b s = rw zero-add
  after-add (suc a) b s = rw suc-add (after-add a b (state_next s digits r))

  pub samples-add : (a b : ℕ) (s : StageState) → samples (a + b) s digits r ≡ samples a s digits r ++ samples b (after a s digits r) digits r
  unfolding samples after
  samples-add zero b s = rw zero-add
  samples-add (suc a) b s = rw suc-add (ap (λ (l : List Float). narrowed (sample_next s digits r) ∷ l) (samples-add a b (state_next s digits r)))

  -- the rest of the buffer was lent, from `at`, and has come back with w samples more
  pub lent : (at w : ℕ) (s : StageState) (was xs ys : List Float)
      → at ≤ length was
      → xs ≡ samples at s digits r ++ drop at was
      → ys ≡ samples w (after at s digits r) digits r ++ drop w (take (length xs - at) (drop at xs))
      → take at xs ++ (ys ++ drop (length xs - at) (drop at xs)) ≡ samples (at + w) s digits r ++ drop (at + w) was
  lent at w s was xs ys h ex ey =
      let ed : drop at xs ≡ drop at was = ap (drop at) ex ∙ drop_at (samples at s digits r) (drop at was) at (samples-length at s) in
      let et : take at xs ≡ samples at s digits r = ap (take at) ex ∙ take_at (samples at s digits r) (drop at was) at (samples-length at s) in
      let el : length (drop at xs) ≡ length xs - at = length-drop at xs in
      let en : drop (length xs - at) (drop at xs) ≡ [] = drop_of_length-le (drop at xs) {i = length xs - at} (omega arith) in
      let ea : take (length xs - at) (drop at xs) ≡ drop at xs = take_all (length xs - at) (drop at xs) (omega arith) in
      rw (et, en, ey, ea, ed, append-nil, drop-drop, samples-add, append_assoc)
