-- The bits of a payload's frames: ten for each byte, so bit k is bit k % 10 of the frame of byte k / 10.
-- By induction on the payload, the first frame's ten bits taken off at a time. Assumes nothing.
use Prim.Native.Nat.{ℕ, zero, suc, ◌+◌, ◌*◌, ◌/◌, ◌%◌, ◌<◌, ◌≤◌}
use native.Mathlib.Nat.{not-suc-le-zero, le_of_suc-le-suc}
use native.Mathlib.Omega.{arith}
use mathlib.Core.Path.{◌≡◌, refl, sym, ◌∙◌}
use mathlib.Core.Bool.{Bool, true, false}
use mathlib.Core.List.{List, [], ◌∷◌}
use lib.ListN.{length, get_or, length-append, get_or-append, get_or-eq_default}
use lib.Dec.{ltb}
use lib.Seq.{get_or-append-add}
use borrow.Author.Tests.{lt-ltb, le-ltb, ltb-true, ltb-false}
use Rattle.frame.specs.Frame.{frame_of, framed, bit_at}

-- below the length nothing hangs on what stands for a missing element
pub within : (l : List Bool) (k : ℕ) (d e : Bool) → k < length l → get_or l k d ≡ get_or l k e
within [] k d e h = absurd (not-suc-le-zero h)
within (x ∷ l) zero d e h = refl
within (x ∷ l) (suc k) d e h = within l k d e (le_of_suc-le-suc h)

pub frame-length : (b : ℕ) → length (frame_of b) ≡ 10
unfolding frame_of
frame-length b = refl

pub framed-length : (p : List ℕ) → length (framed p) ≡ 10 * length p
unfolding framed
framed-length [] = refl
framed-length (b ∷ p) = simp length-append (omega (arith, frame-length b, framed-length p))

-- bit r of byte q's frame
bit-of : (p : List ℕ) (q r k : ℕ) → k ≡ 10 * q + r → r < 10 → q < length p → get_or (framed p) k true ≡ get_or (frame_of (get_or p q 0)) r true
unfolding framed
bit-of [] q r k e R h = absurd (not-suc-le-zero h)
bit-of (b ∷ p) zero r k e R h =
    let e' : k ≡ r = omega arith in
    rw e' (get_or-append (frame_of b) (framed p) true r (omega (arith, frame-length b)))
bit-of (b ∷ p) (suc q) r k e R h =
    let e' : k ≡ length (frame_of b) + (10 * q + r) = omega (arith, frame-length b) in
    rw (e', get_or-append-add) (bit-of p q r (10 * q + r) refl R (le_of_suc-le-suc h))

module _ (p : List ℕ) (k : ℕ) where
  pub bit-within : (d : Bool) → k / 10 < length p → bit_at p k ≡ get_or (frame_of (get_or p (k / 10) 0)) (k % 10) d
  unfolding bit_at
  bit-within d h =
      bit-of p (k / 10) (k % 10) k (omega arith) (omega arith) h
      ∙ within (frame_of (get_or p (k / 10) 0)) (k % 10) true d (omega (arith, frame-length (get_or p (k / 10) 0)))

  pub bit_past : length p ≤ k / 10 → bit_at p k ≡ true
  unfolding bit_at
  bit_past h = get_or-eq_default (framed p) true (omega (arith, framed-length p))

  -- there is such a bit if there is such a byte
  pub bit-there : ltb (k / 10) (length p) ≡ ltb k (length (framed p))
  bit-there = go (ltb (k / 10) (length p)) refl
    where
      go : (t : Bool) → ltb (k / 10) (length p) ≡ t → t ≡ ltb k (length (framed p))
      go true e = sym (lt-ltb k (length (framed p)) (omega (arith, framed-length p, ltb-true (k / 10) (length p) e)))
      go false e = sym (le-ltb k (length (framed p)) (omega (arith, framed-length p, ltb-false (k / 10) (length p) e)))
