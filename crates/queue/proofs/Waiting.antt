-- The queue's calls, told of the bytes that wait in it: a push adds the newest at the end, a pop takes the oldest from the front, and the
-- queue is empty exactly when none waits. Of queues with 256 places, as all that code holds are. Assumes nothing.
use Prim.Native.Nat.{ℕ, zero, suc, ◌-◌, ◌<◌, ◌≤◌}
use native.Mathlib.Numerals.{add-one}
use native.Mathlib.Omega.{arith}
use mathlib.Core.Path.{◌≡◌, refl, sym, ap, ◌∙◌}
use mathlib.Core.Bool.{Bool, true, false, true≢false}
use mathlib.Core.List.{List, [], ◌∷◌, ◌++◌, append-nil}
use lib.Dec.{eqb, lit≤}
use lib.ListN.{length, take, drop, set, get_or, length-set, length-append, length-drop, length-replicate}
use lib.Seq.{take-suc-set, take-append-le, set_at}
use borrow.Author.Tests.{eqb-true, leb-false}
use Rattle.std.specs.Prelude.{None, Some, unwrap_or}
use Rattle.queue.specs.declared.Queue.{Queue}
use Rattle.queue.specs.Queue.{waiting, empty_queue, is_full, is_empty, pushed_if, pushed, taken_if, oldest, first_if, first_out, popped_if, popped}

-- 256 places, and no more waiting
pub record Whole (q : Queue) : Type 0 where
  pub places : length q.bytes ≡ 256
  pub few : q.len ≤ 256

pub empty-whole : Whole empty_queue
empty-whole = record { places = length-replicate {A = ℕ} 256 0; few = lit≤ tt }

-- ---- push
pub pushed-waiting : (q : Queue) (b : ℕ) → length q.bytes ≡ 256 → waiting (pushed q b) ≡ waiting q ++ taken_if (is_full q) b
unfolding pushed
pushed-waiting q b places = go (is_full q) refl
  where
    go : (t : Bool) → is_full q ≡ t → waiting (pushed_if t q b) ≡ waiting q ++ taken_if t b
    go true e = sym (append-nil (waiting q))
    go false e =
        let room : q.len < 256 = leb-false 256 q.len e in
        rw add-one (take-suc-set q.bytes q.len b (omega arith))

-- where there is room the byte is the newest
pub pushed-newest : (q : Queue) (b : ℕ) → length q.bytes ≡ 256 → is_full q ≡ false → waiting (pushed q b) ≡ waiting q ++ (b ∷ [])
unfolding pushed
pushed-newest q b places room = pushed-waiting q b places ∙ ap (λ (t : Bool). waiting q ++ taken_if t b) room

pub pushed_whole : (q : Queue) (b : ℕ) → Whole q → Whole (pushed q b)
unfolding pushed
pushed_whole q b w = go (is_full q) refl
  where
    go : (t : Bool) → is_full q ≡ t → Whole (pushed_if t q b)
    go true e = w
    go false e =
        let room : q.len < 256 = leb-false 256 q.len e in
        record { places = simp length-set w.places; few = omega arith }

-- ---- pop
-- rest is the queue without its oldest byte
pub record Waits (q rest : Queue) : Type 0 where
  pub first : waiting q ≡ oldest q ∷ waiting rest
  pub whole : Whole rest

module _ (n : ℕ) (l : suc n ≤ 256) where
  up : (bytes : List ℕ) → length bytes ≡ 256 → take (suc n) bytes ≡ get_or (take (suc n) bytes) 0 0 ∷ take n (drop 1 bytes ++ (0 ∷ []))
  up [] h = let z : ⊥ = omega arith in absurd z
  up (x ∷ xs) h =
      let most : n ≤ length xs = omega arith in
      ap (λ (t : List ℕ). x ∷ t) (sym (take-append-le n xs (0 ∷ []) most))

waits : (bytes : List ℕ) (n : ℕ) → length bytes ≡ 256 → n ≤ 256 → eqb n 0 ≡ false → Waits (record { bytes = bytes; len = n }) (popped_if false (record { bytes = bytes; len = n }))
unfolding oldest
waits bytes zero h l e = absurd (true≢false e)
waits bytes (suc n) h l e =
    let less : suc n - 1 ≡ n = omega arith in
    record {
      first = rw less (up n l bytes h);
      whole = record { places = simp (length-append, length-drop) (omega arith); few = omega arith };
    }

pub some-wait : (q : Queue) → Whole q → is_empty q ≡ false → Waits q (popped q)
unfolding popped
some-wait q w e = rw e (waits q.bytes q.len w.places w.few e)

pub none-waits : (q : Queue) → is_empty q ≡ true → waiting q ≡ []
none-waits q e = rw (eqb-true q.len 0 e)

still : (q : Queue) → is_empty q ≡ true → popped q ≡ q
unfolding popped
still q e = ap (λ (t : Bool). popped_if t q) e

-- what is given says whether one waits
pub still-if-none : (q : Queue) → None ≡ first_out q → q ≡ popped q
still-if-none q e = go (is_empty q) refl e
  where
    go : (t : Bool) → is_empty q ≡ t → None ≡ first_if t (oldest q) → q ≡ popped q
    go true h e = sym (still q h)
    go false h e = cc

pub empty-if-none : (q : Queue) → None ≡ first_out q → is_empty q ≡ true
empty-if-none q e = go (is_empty q) refl e
  where
    go : (t : Bool) → is_empty q ≡ t → None ≡ first_if t (oldest q) → is_empty q ≡ true
    go true h e = h
    go false h e = cc

-- where a number stands for none it is 0
pub given-or-0 : (q : Queue) → unwrap_or (first_out q) 0 ≡ oldest q
unfolding oldest
given-or-0 q = go (is_empty q) refl
  where
    go : (t : Bool) → is_empty q ≡ t → unwrap_or (first_if t (get_or (waiting q) 0 0)) 0 ≡ get_or (waiting q) 0 0
    go true h = rw (none-waits q h)
    go false h = refl

pub some-if-given : (q : Queue) (b : ℕ) → Some b ≡ first_out q → is_empty q ≡ false
some-if-given q b e = go (is_empty q) refl e
  where
    go : (t : Bool) → is_empty q ≡ t → Some b ≡ first_if t (oldest q) → is_empty q ≡ false
    go true h e = cc
    go false h e = h

-- the bytes turned by a place, and a 0 in the last one
turned : (bytes : List ℕ) → length bytes ≡ 256 → set (drop 1 bytes ++ take 1 bytes) 255 0 ≡ drop 1 bytes ++ (0 ∷ [])
turned [] h = let z : ⊥ = omega arith in absurd z
turned (x ∷ xs) h = let last : length xs ≡ 255 = omega arith in set_at xs x [] 0 255 last

pub turned-popped : (q : Queue) → length q.bytes ≡ 256 → is_empty q ≡ false → record { bytes = set (drop 1 q.bytes ++ take 1 q.bytes) 255 0; len = q.len - 1 } ≡ popped q
unfolding popped
turned-popped q places e = rw (turned q.bytes places, e)

pub popped-waiting : (q : Queue) → Whole q → waiting (popped q) ≡ drop 1 (waiting q)
popped-waiting q w = go (is_empty q) refl
  where
    go : (t : Bool) → is_empty q ≡ t → waiting (popped q) ≡ drop 1 (waiting q)
    go true e = rw (still q e, none-waits q e)
    go false e = rw (some-wait q w e).first
