-- What holds while the fill goes from writer to writer: what is written so far is the iteration's, and so are the state in hand and what is
-- shown. Assumes nothing.
use Prim.Native.Nat.{ℕ, zero, suc, ◌+◌, ◌-◌, ◌≤◌, ◌<◌}
use native.Mathlib.Nat.{add-suc, not-suc-le-zero}
use native.Mathlib.Omega.{arith}
use mathlib.Core.Path.{◌≡◌, refl, sym, ap, ◌∙◌}
use mathlib.Core.List.{List, ◌++◌, append-nil}
use lib.ListN.{length, take, drop, length-append, length-take, length-drop, drop_of_length-le}
use lib.Ieee.{Float}
use Rattle.stage.specs.declared.Shown.{Shown}
use Rattle.stage.specs.declared.StageState.{StageState}
use Rattle.stage.specs.Stage.{shown_of, waiting_of}
use Rattle.stage.specs.Next.{onward}
use Rattle.overture.specs.declared.Wrote.{Wrote}
use Rattle.overture.specs.Iteration.{after, samples, shown_after}
use Rattle.overture.specs.Writers.{WroteIs}
use Rattle.overture.proofs.Iteration.{after-add, samples-length, lent}

-- `at` samples are written, by whichever writers; the state after them is s, and what is shown `shown`
pub record Filling (digits : List ℕ) (r : ℕ) (s₀ : StageState) (was out : List Float) (s : StageState) (at : ℕ) (shown : Shown) : Type 0 where
  pub count : at ≤ length was
  pub buffer : out ≡ samples at s₀ digits r ++ drop at was
  pub state : s ≡ after at s₀ digits r
  pub seen : shown ≡ shown_after at s₀ digits r

module _ (digits : List ℕ) (r : ℕ) (s₀ : StageState) (was : List Float) where
  pub fill_start : (x : Shown) → x ≡ waiting_of s₀ → Filling digits r s₀ was was s₀ 0 x
  unfolding samples after
  fill_start x e = record { count = omega arith; buffer = refl; state = refl; seen = e }

  seen_more : (at k : ℕ) (s : StageState) → s ≡ after at s₀ digits r → 0 < k → ((j : ℕ) → j < k → shown_of (after j s digits r) digits ≡ shown_of s digits) → shown_of s digits ≡ shown_after (at + k) s₀ digits r
  seen_more at zero s e l f = absurd (not-suc-le-zero l)
  seen_more at (suc j) s e l f = rw add-suc (sym (ap (λ (x : StageState). shown_of x digits) (after-add digits r at j s₀ ∙ ap (λ (x : StageState). after j x digits r) (sym e)) ∙ f j (omega arith)))

  module _ (out : List Float) (s : StageState) (at : ℕ) (x : Shown) (F : Filling digits r s₀ was out s at x) where
    pub fill-long : length out ≡ length was
    fill-long = ap length F.buffer ∙ simp (length-append, samples-length, length-drop) (omega (arith, F.count))

    rest : length (take (length out - at) (drop at out)) ≡ length was - at
    rest = let e = fill-long in simp (length-take, length-drop) (omega arith)

    -- the rest, which has room, was lent to the writer of s's stage
    module _ (l : at < length out) (ys : List Float) (w : Wrote) (W : WroteIs s digits r (take (length out - at) (drop at out)) ys w) where
      pub fits_in : at + w.written ≤ length was
      fits_in = omega (arith, W.fits, rest, F.count)

      pub moves : 0 < w.written
      moves = let e = fill-long in W.some (omega (arith, rest))

      pub fill-again : (y : Shown) → y ≡ shown_of s digits → (t : StageState) → t ≡ onward w.ended w.state digits r
          → Filling digits r s₀ was (take at out ++ (ys ++ drop (length out - at) (drop at out))) t (at + w.written) y
      fill-again y e t et = record {
        count = fits_in;
        buffer = lent digits r at w.written s₀ was out ys F.count F.buffer (rw (sym F.state) W.buffer);
        state = et ∙ W.state moves ∙ rw (F.state, after-add);
        seen = e ∙ seen_more at w.written s F.state moves W.same;
      }

    module _ (l : length out ≤ at) where
      all : at ≡ length was
      all = let e = fill-long in omega (arith, F.count)

      pub fill-buffer : out ≡ samples (length was) s₀ digits r
      fill-buffer = F.buffer ∙ rw (drop_of_length-le was {i = at} (let e = fill-long in omega arith), append-nil, all)

      pub fill-state : s ≡ after (length was) s₀ digits r
      fill-state = F.state ∙ rw all

      pub fill-shown : x ≡ shown_after (length was) s₀ digits r
      fill-shown = F.seen ∙ rw all
