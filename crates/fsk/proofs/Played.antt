-- Samples made in a row: what holds while a loop plays them into a buffer, and while what it plays goes on. By induction on the count. Assumes nothing.
use Prim.Native.Nat.{ℕ, zero, suc, ◌+◌, ◌≤◌, ◌<◌}
use native.Mathlib.Nat.{le_antisymm, le_refl, not-suc-le-zero}
use native.Mathlib.Numerals.{add-one}
use native.Mathlib.Omega.{arith}
use mathlib.Core.Path.{◌≡◌, refl, ap, subst, ◌∙◌}
use mathlib.Core.Bool.{Bool, false}
use mathlib.Core.List.{List, [], ◌∷◌, ◌++◌, append_assoc}
use lib.ListN.{length, drop, set, length-append, length-drop}
use lib.Seq.{drop-cons, set_at}
use lib.Ieee.{Float, nan}
use borrow.Author.Count.{below_more}
use Rattle.math.specs.Narrow.{narrowed}
use Rattle.fsk.specs.Played.{Source, left, made, PlayedIs, SoundedIs}

-- ---- a loop

-- i of at most `most` samples are made, from x to y
pub record Playing {X : Type 0} (f : Source X) (most : ℕ) (x : X) (was out : List Float) (y : X) (i : ℕ) : Type 0 where
  pub few : i ≤ most
  pub room : most ≤ length was
  pub played : PlayedIs f i x was out y

stored : (xs was : List Float) (i : ℕ) (v : Float) → length xs ≡ i → i < length was → set (xs ++ drop i was) i v ≡ (xs ++ (v ∷ [])) ++ drop (suc i) was
stored xs was i v e h = rw (drop-cons was i nan, append_assoc) (set_at xs _ _ _ i e)

module _ {X : Type 0} (f : Source X) (x : X) where
  pub made-length : (k : ℕ) → length (made f k x) ≡ k
  unfolding made
  made-length zero = refl
  made-length (suc k) = rw (length-append, made-length k) (add-one k)

module _ {X : Type 0} (f : Source X) (most : ℕ) (x : X) (was : List Float) where
  pub playing-start : most ≤ length was → Playing f most x was was x 0
  unfolding made left
  playing-start h = record { few = omega arith; room = h; played = record { buffer = refl; rest = refl } }

  module _ (out : List Float) (y : X) (i : ℕ) (P : Playing f most x was out y i) where
    pub playing-long : length out ≡ length was
    playing-long = ap length P.played.buffer ∙ simp (length-append, made-length, length-drop) (omega (arith, P.few, P.room))

    -- one more sample, v, with which y becomes z
    pub playing-again : i < most → (v : Float) (z : X) → v ≡ narrowed (f.sample y) → z ≡ f.next y → Playing f most x was (set out i v) z (i + 1)
    unfolding made left
    playing-again l v z ev ez = record {
      few = omega arith;
      room = P.room;
      played = record {
        buffer = rw (P.played.buffer, add-one, ev, P.played.rest) (stored (made f i x) was i _ (made-length f x i) (omega (arith, P.room)));
        rest = ez ∙ rw (add-one, P.played.rest);
      };
    }

    pub playing-done : most ≤ i → PlayedIs f most x was out y
    playing-done l = subst (λ (k : ℕ). PlayedIs f k x was out y) (le_antisymm P.few l) P.played

-- ---- a loop that ends with what it plays

-- i samples are written, from x to y, and it went on after each of them
pub record Sounding {X : Type 0} (f : Source X) (ends : X → Bool) (x : X) (was out : List Float) (y : X) (i : ℕ) : Type 0 where
  pub playing : Playing f (length was) x was out y i
  pub early : (j : ℕ) → j < i → ends (left f (suc j) x) ≡ false

module _ {X : Type 0} (f : Source X) (ends : X → Bool) (x : X) (was : List Float) where
  pub sounding-start : Sounding f ends x was was x 0
  sounding-start = record { playing = playing-start _ _ _ _ (le_refl _); early = λ j l. absurd (not-suc-le-zero l) }

  module _ (out : List Float) (y : X) (i : ℕ) (S : Sounding f ends x was out y i) where
    pub sounding-long : length out ≡ length was
    sounding-long = playing-long _ _ _ _ _ _ _ S.playing

    -- one more sample, v, with which y becomes z
    module _ (l : i < length out) (v : Float) (z : X) (ev : v ≡ narrowed (f.sample y)) (ez : z ≡ f.next y) where
      more : Playing f (length was) x was (set out i v) z (i + 1)
      more = playing-again _ _ _ _ _ _ _ S.playing (subst (λ (k : ℕ). i < k) sounding-long l) v z ev ez

      pub sounding-again : ends z ≡ false → Sounding f ends x was (set out i v) z (i + 1)
      sounding-again h = record {
        playing = more;
        early = below_more _ i S.early (subst (λ (w : X). ends w ≡ false) (more.played.rest ∙ ap (λ (k : ℕ). left f k x) (add-one i)) h);
      }

      -- the last, be it the end or the part full
      pub sounding-ended : SoundedIs f ends x was (set out i v) z (i + 1)
      sounding-ended = record { some = λ _. omega arith; fits = more.few; played = more.played; early = λ j l. S.early j (omega arith) }

    pub sounding-full : length out ≤ i → SoundedIs f ends x was out y i
    sounding-full h = let e = sounding-long in record { some = λ m. omega arith; fits = S.playing.few; played = S.playing.played; early = λ j k. S.early j (omega arith) }
