-- Samples made in a row, over the front of a buffer: what a stage that they are the samples of has then written.
-- By induction on the count. Assumes nothing.
use Prim.Native.Nat.{ℕ, zero, suc, ◌≤◌, ◌<◌}
use native.Mathlib.Nat.{le_refl, le_of_lt, not-suc-le-zero}
use native.Mathlib.Numerals.{add-one}
use native.Mathlib.Omega.{arith}
use mathlib.Core.Path.{◌≡◌, refl, sym, ap, subst, ◌∙◌}
use mathlib.Core.Bool.{Bool, false}
use mathlib.Core.List.{List, ◌++◌, append-nil}
use lib.ListN.{length, take, drop, length-take, drop_of_length-le, replicate-append-replicate}
use lib.Ieee.{Float, binary32, of_bits, nan}
use Rattle.math.specs.Float as float
use Rattle.math.specs.Narrow.{narrowed}
use Rattle.stage.specs.declared.StageState.{StageState}
use Rattle.stage.specs.Stage.{shown_of}
use Rattle.stage.specs.Next.{sample_next, state_next, onward}
use Rattle.overture.specs.Iteration.{after, samples, zeros}
use Rattle.fsk.specs.Played.{Source, left, made, PlayedIs}
use Rattle.overture.specs.Writers.{WroteIs}
use Rattle.overture.proofs.Iteration.{after-suc, samples-suc}

-- ---- over a part that is the front of a buffer, and was lent

module _ (count : ℕ) (was : List Float) (fits : count ≤ length was) where
  part-long : length (take count was) ≡ count
  part-long = omega (arith, fits, length-take count was)

  pub part-played : {X : Type 0} (f : Source X) (x : X) (is : List Float) (y : X) → PlayedIs f (length (take count was)) x (take count was) is y → PlayedIs f count x was (is ++ drop count was) y
  part-played f x is y P = record {
    buffer = ap (λ (xs : List Float). xs ++ drop count was)
        (P.buffer ∙ rw part-long (ap (λ (xs : List Float). made f count x ++ xs) (drop_of_length-le (take count was) {i = count} (omega (arith, part-long))) ∙ append-nil (made f count x)));
    rest = P.rest ∙ rw part-long;
  }

  pub part-zeros : (is : List Float) → is ≡ zeros (length (take count was)) → is ++ drop count was ≡ zeros count ++ drop count was
  part-zeros is e = rw (e, part-long)

-- ---- zeros

pub zero-narrowed : of_bits binary32 0 ≡ narrowed float.zero
unfolding narrowed of_bits lib.Ieee.round
zero-narrowed = refl

-- what makes zeros and stays as it is
module _ {X : Type 0} (f : Source X) (x : X) (quiet : f.sample x ≡ float.zero) (stays : f.next x ≡ x) where
  left-still : (k : ℕ) → left f k x ≡ x
  unfolding left
  left-still zero = refl
  left-still (suc k) = ap f.next (left-still k) ∙ stays

  pub made-zeros : (k : ℕ) → made f k x ≡ zeros k
  unfolding made
  made-zeros zero = refl
  made-zeros (suc k) = rw (left-still k, quiet, ← zero-narrowed, made-zeros k) (replicate-append-replicate k 1 (of_bits binary32 0) ∙ ap zeros (add-one k))

  pub zeros-played : (k : ℕ) (was is : List Float) → is ≡ zeros k ++ drop k was → PlayedIs f k x was is x
  zeros-played k was is e = record { buffer = rw (made-zeros k) e; rest = sym (left-still k) }

-- nothing in hand
abbrev pub resting : Source ℕ
resting = record { sample = λ x. float.zero; next = λ x. x }

-- behind the zeros of a whole part nothing is left
pub only-zeros : (was is : List Float) → is ≡ zeros (length was) → is ≡ zeros (length was) ++ drop (length was) was
only-zeros was is e = e ∙ sym (ap (λ (xs : List Float). zeros (length was) ++ xs) (drop_of_length-le was (le_refl (length was))) ∙ append-nil (zeros (length was)))

-- ---- a stage

-- The first `count` samples of a stage, from x: after j of them its state is `at` of what is left and j, and it ends where `ends` of them says
-- so, which is not before the last.
pub record Plays {X : Type 0} (f : Source X) (at : X → ℕ → StageState) (ends : X → ℕ → Bool) (x : X) (count : ℕ) (digits : List ℕ) (r : ℕ) : Type 0 where
  pub sample : (j : ℕ) → j < count → sample_next (at (left f j x) j) digits r ≡ f.sample (left f j x)
  pub next : (j : ℕ) → j < count → state_next (at (left f j x) j) digits r ≡ onward (ends (left f (suc j) x) (suc j)) (at (left f (suc j) x) (suc j)) digits r
  pub early : (j : ℕ) → suc j < count → ends (left f (suc j) x) (suc j) ≡ false
  pub shown : (j : ℕ) → j < count → shown_of (at (left f j x) j) digits ≡ shown_of (at x 0) digits

module _ {X : Type 0} (f : Source X) (at : X → ℕ → StageState) (ends : X → ℕ → Bool) (x : X) (count : ℕ) (digits : List ℕ) (r : ℕ)
    (S : Plays f at ends x count digits r) where
  state-at : (j : ℕ) → j < count → after j (at x 0) digits r ≡ at (left f j x) j
  unfolding after left
  state-at zero l = refl
  state-at (suc j) l = after-suc digits r j (at x 0) ∙ rw (state-at j (le_of_lt l), S.next j (le_of_lt l), S.early j l)

  samples-are : (c : ℕ) → c ≤ count → samples c (at x 0) digits r ≡ made f c x
  unfolding samples made
  samples-are zero l = refl
  samples-are (suc c) l = samples-suc digits r c (at x 0) ∙ rw (samples-are c (le_of_lt l), state-at c l, S.sample c l)

  last : (c : ℕ) → 0 < c → c ≤ count → after c (at x 0) digits r ≡ onward (ends (left f c x) c) (at (left f c x) c) digits r
  last zero h l = absurd (not-suc-le-zero h)
  last (suc j) h l = after-suc digits r j (at x 0) ∙ rw (state-at j l) (S.next j l)

  pub wrote : (was is : List Float) (y : X) → PlayedIs f count x was is y → (0 < length was → 0 < count) → count ≤ length was → (s : StageState) (ended : Bool)
      → (0 < count → onward ended s digits r ≡ onward (ends y count) (at y count) digits r) → WroteIs (at x 0) digits r was is (record { state = s; ended = ended; written = count })
  wrote was is y P some fits s ended e = record {
    some = some;
    fits = fits;
    buffer = rw (samples-are count (le_refl count)) P.buffer;
    state = λ h. e h ∙ rw P.rest (sym (last count h (le_refl count)));
    same = λ k l. ap (λ (s : StageState). shown_of s digits) (state-at k l) ∙ S.shown k l;
  }
