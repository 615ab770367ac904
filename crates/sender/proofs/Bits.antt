-- The symbols that follow: of an unfinished frame first its other bits, all or some of them, and then what the grammar says. One more symbol in
-- front keeps it so; by induction on the samples. Assumes nothing.
use Prim.Native.Nat.{ℕ, zero, suc, ◌+◌, ◌≤◌, ◌<◌}
use native.Mathlib.Numerals.{add-one}
use native.Mathlib.Omega.{arith}
use mathlib.Core.Path.{◌≡◌, refl, sym, ap}
use mathlib.Core.Bool.{Bool, true, false, true≢false, ◌&&◌}
use mathlib.Core.List.{List, [], ◌∷◌, ◌++◌, append_assoc}
use lib.Dec.{ltb}
use lib.ListN.{take, drop, drop_of_length-le}
use lib.Seq.{drop-cons}
use borrow.Author.Tests.{ltb-false}
use Rattle.frame.specs.Frame.{frame_of}
use Rattle.frame.proofs.Bits.{frame-length}
use Rattle.queue.specs.Queue.{waiting, oldest}
use Rattle.queue.proofs.Waiting.{none-waits}
use Rattle.sender.specs.declared.Sending.{Sending}
use Rattle.sender.specs.Sender.{unfinished, Choice, onward, anew, idle, choice_of, bit_by, chosen, chosen_by, ready_if, ticked, next, frame_bit}
use Rattle.sender.specs.Wave.{after}
use Rattle.sender.proofs.Frames.{some_bits}
use Rattle.sender.specs.Symbols.{Symbol, bits_of, symbol_at, byte_at, byte_chosen, symbols, bytes}
use Rattle.sender.specs.Carries.{Carries, nothing, one, frame, front}
use Rattle.sender.proofs.Edges.{moved, next-is, Found, found}

-- with k bits of the byte's frame begun
pub data Follows (byte k : ℕ) (following : List Symbol) (begun : List ℕ) : Type 0 where
  free : unfinished k ≡ false → Carries following begun → Follows byte k following begun
  cut : unfinished k ≡ true → (n : ℕ) → k + n < 10 → bits_of following ≡ take n (drop k (frame_of byte)) → begun ≡ [] → Follows byte k following begun
  whole : unfinished k ≡ true → (others rest : List Symbol) → following ≡ others ++ rest → bits_of others ≡ drop k (frame_of byte) → Carries rest begun → Follows byte k following begun

-- ---- a frame
first_bit : (b : ℕ) → frame_of b ≡ frame_bit b 0 ∷ drop 1 (frame_of b)
unfolding frame_of
first_bit b = refl

next_bit : (b k : ℕ) → k < 10 → drop k (frame_of b) ≡ frame_bit b k ∷ drop (suc k) (frame_of b)
next_bit b k l = drop-cons (frame_of b) k true (omega (arith, frame-length b))

finished : (k : ℕ) → 0 < k → unfinished k ≡ false → 10 ≤ k
finished k l e = go (ltb 0 k) (ltb k 10) refl refl e
  where
    go : (a b : Bool) → ltb 0 k ≡ a → ltb k 10 ≡ b → (a && b) ≡ false → 10 ≤ k
    go true true p q e = absurd (true≢false e)
    go true false p q e = ltb-false k 10 q
    go false b p q e = let z : k ≤ 0 = ltb-false 0 k p in omega arith

-- ---- one symbol more
module _ (s : Symbol) (following : List Symbol) (begun : List ℕ) where
  onward-follows : (b k : ℕ) → unfinished k ≡ true → s.bit ≡ frame_bit b k → Follows b (k + 1) following begun → Follows b k (s ∷ following) begun
  onward-follows b k u e (free h c) =
      let few = some_bits k u in
      let all : drop (suc k) (frame_of b) ≡ [] = drop_of_length-le (frame_of b) {i = suc k} (omega (arith, frame-length b, finished (k + 1) (omega arith) h)) in
      whole u (s ∷ []) following refl (rw (e, next_bit b k few.1, all)) c
  onward-follows b k u e (cut h n l q z) =
      let few = some_bits k u in
      cut u (suc n) (omega arith) (rw (next_bit b k few.1, e) (ap (λ (t : List Bool). frame_bit b k ∷ t) (rw add-one at q))) z
  onward-follows b k u e (whole h others rest j q c) =
      let few = some_bits k u in
      whole u (s ∷ others) rest (ap (λ (t : List Symbol). s ∷ t) j) (rw (next_bit b k few.1, e) (ap (λ (t : List Bool). frame_bit b k ∷ t) (rw add-one at q))) c

  anew-carries : (b : ℕ) → s.bit ≡ frame_bit b 0 → Follows b 1 following begun → Carries (s ∷ following) (b ∷ begun)
  anew-carries b e (free h c) = absurd (true≢false h)
  anew-carries b e (cut h n l q z) =
      let bits : bits_of (s ∷ following) ≡ take (suc n) (frame_of b) = rw (first_bit b, e) (ap (λ (t : List Bool). frame_bit b 0 ∷ t) q) in
      rw z (front {byte = b} (suc n) bits (omega arith) (omega arith))
  anew-carries b e (whole h others rest j q c) =
      let bits : bits_of (s ∷ others) ≡ frame_of b = rw (first_bit b, e) (ap (λ (t : List Bool). frame_bit b 0 ∷ t) q) in
      rw j (frame {byte = b} (s ∷ others) bits c)

  mark-carries : (b : ℕ) → s.bit ≡ true → s.found ≡ [] → Follows b 0 following begun → Carries (s ∷ following) begun
  mark-carries b e f (free h c) = one e f c
  mark-carries b e f (cut h n l q z) = absurd (true≢false (sym h))
  mark-carries b e f (whole h others rest j q c) = absurd (true≢false (sym h))

-- ---- with the sender
abbrev pub From : Sending → List Symbol → List ℕ → Type 0
From x following begun = Follows x.sender.byte x.sender.begun following begun

pub at_rest : (x : Sending) → From x [] []
at_rest x = go (unfinished x.sender.begun) refl
  where
    go : (t : Bool) → unfinished x.sender.begun ≡ t → From x [] []
    go true e = cut e 0 (omega (arith, (some_bits x.sender.begun e).1)) refl refl
    go false e = free e nothing

module _ (following : List Symbol) (begun : List ℕ) where
  edge-from : (c : Choice) (x : Sending) → Found c x → From (moved (chosen_by c x)) following begun
      → From x (record { bit = bit_by c x; found = waiting x.queue } ∷ following) (byte_chosen c x ++ begun)
  unfolding ticked
  edge-from onward x f h = onward-follows _ following begun x.sender.byte x.sender.begun f refl h
  edge-from anew x f h = free f.0 (anew-carries _ following begun (oldest x.queue) refl h)
  edge-from idle x f h = free f.0 (mark-carries _ following begun x.sender.byte refl (none-waits x.queue f.1) h)

  pub next-from : (x : Sending) → From (next x) following begun → From x (symbol_at x.sender.edge x ++ following) (byte_at x.sender.edge x ++ begun)
  unfolding chosen ticked
  next-from x h = go x.sender.edge (rw (next-is x) at h)
    where
      go : (t : Bool) → From (moved (ready_if t x)) following begun → From x (symbol_at t x ++ following) (byte_at t x ++ begun)
      go true h = edge-from (choice_of x) x (found x) h
      go false h = h

pub after-from : (n : ℕ) (x : Sending) (following : List Symbol) (begun : List ℕ) → From (after n x) following begun → From x (symbols n x ++ following) (bytes n x ++ begun)
unfolding symbols bytes after
after-from zero x following begun h = h
after-from (suc n) x following begun h = rw (append_assoc, append_assoc) (next-from _ _ x (after-from n (next x) following begun h))
