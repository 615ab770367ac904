-- The reader's loop: after i bits the whole reading is what is in the buffer and then the reading of the rest (`Taking`). Assumes nothing.
use Prim.Native.Nat.{ℕ, zero, suc, ◌+◌, ◌-◌, ◌≤◌, ◌<◌}
use native.Mathlib.Numerals.{add-one}
use native.Mathlib.Omega.{arith}
use mathlib.Core.Bool.{Bool}
use mathlib.Core.List.{List, [], ◌∷◌, ◌++◌, append-nil, append_assoc}
use mathlib.Core.Path.{◌≡◌, sym, ap, ◌∙◌}
use lib.ListN.{length, take, drop, set, get_or, length-set, take-append-drop, drop_of_length-le}
use lib.Seq.{drop-cons, take-suc-set, drop-set-lt, drop-drop, set_out, length-take-le}
use Rattle.deframe.specs.declared.Deframer.{Deframer}
use Rattle.deframe.specs.declared.Reading.{Reading}
use Rattle.std.specs.Prelude.{Option, None, Some}
use Rattle.deframe.specs.Read.{Read, is_mark, marks_of, step_of, one_bit, onward, stopped, read_of, answer_of, wrote_of}
use Rattle.deframe.proofs.Parts.{told, ahead}

pub record Taking (p₀ : Deframer) (bits out₀ out : List ℕ) (place : Deframer) (given i : ℕ) : Type 0 where
  pub within : i ≤ length bits
  pub room : given ≤ length out
  pub long : length out ≡ length out₀
  pub whole : read_of (length out₀) p₀ (marks_of bits) ≡ ahead i (take given out) (read_of (length out₀ - given) place (marks_of (drop i bits)))
  pub later : drop given out ≡ drop given out₀

slide : (xs ys : List ℕ) (i : ℕ) (r : Read) → ahead i xs (one_bit ys r) ≡ ahead (i + 1) (xs ++ ys) r
slide xs ys i r =
    ap (told r.place (xs ++ (ys ++ r.bytes))) (omega arith)
    ∙ ap (λ (l : List ℕ). told r.place l (i + 1 + r.taken)) (sym (append_assoc xs ys r.bytes))

module _ (p₀ : Deframer) (bits out₀ out : List ℕ) (place : Deframer) (given i : ℕ) (T : Taking p₀ bits out₀ out place given i) where
  abbrev whole : Read
  whole = read_of (length out₀) p₀ (marks_of bits)

  abbrev left : ℕ
  left = length out₀ - given

  abbrev reading : Reading
  reading = record { place = place; taken = i; given = given }

  -- the reading ends here: what is in the buffer is all of it
  here : whole ≡ ahead i (take given out) (stopped place) → (reading ≡ answer_of whole) × (out ≡ wrote_of whole out₀)
  here e = (rw (all, front), rw (all, front) (sym (take-append-drop given out) ∙ ap (λ (l : List ℕ). take given out ++ l) T.later))
    where
      all : whole ≡ told place (take given out) i
      all = e ∙ ap (told place (take given out ++ [])) (omega arith) ∙ ap (λ (l : List ℕ). told place l i) (append-nil (take given out))

      front : length (take given out) ≡ given
      front = length-take-le given out T.room

  pub taking-end : length bits ≤ i → (record { place = place; taken = length bits; given = given } ≡ answer_of whole) × (out ≡ wrote_of whole out₀)
  unfolding read_of
  taking-end over = let all : length bits ≡ i = omega (arith, T.within, over) in rw all (here (T.whole ∙ ap (λ (l : List ℕ). ahead i (take given out) (read_of left place (marks_of l))) (drop_of_length-le bits {i = i} over)))

  -- one bit, after which the reader is at a next place
  module _ (some : i < length bits) (m : Bool) (same : m ≡ is_mark (get_or bits i 0)) (next : Deframer) (next-is : next ≡ (step_of place m).place) where
    abbrev rest : List Bool
    rest = marks_of (drop (i + 1) bits)

    stepped : (byte : Option ℕ) → (step_of place m).byte ≡ byte → whole ≡ ahead i (take given out) (onward left place next byte (λ r q. read_of r q rest))
    unfolding read_of
    stepped byte e =
        T.whole
        ∙ ap (λ (l : List ℕ). ahead i (take given out) (read_of left place (marks_of l))) (drop-cons bits i 0 some ∙ ap (λ (n : ℕ). get_or bits i 0 ∷ drop n bits) (sym (add-one i)))
        ∙ ap (λ (x : Bool). ahead i (take given out) (read_of left place (x ∷ rest))) (sym same)
        ∙ ap (λ (q : Deframer). ahead i (take given out) (onward left place q (step_of place m).byte (λ r q. read_of r q rest))) (sym next-is)
        ∙ ap (λ (o : Option ℕ). ahead i (take given out) (onward left place next o (λ r q. read_of r q rest))) e

    -- it gives no byte
    pub taking-on : (step_of place m).byte ≡ None → Taking p₀ bits out₀ out next given (i + 1)
    taking-on e =
        record {
          within = omega arith;
          room = T.room;
          long = T.long;
          whole = stepped None e ∙ slide (take given out) [] i (read_of left next rest)
              ∙ ap (λ (l : List ℕ). ahead (i + 1) l (read_of left next rest)) (append-nil (take given out));
          later = T.later;
        }

    module _ (b : ℕ) (e : (step_of place m).byte ≡ Some b) where
      -- the room that one byte more leaves
      abbrev fewer : ℕ
      fewer = length out₀ - (given + 1)

      one_less : length out ≡ length out₀ → given < length out → left ≡ suc fewer
      one_less e h = omega (arith, e, h)

      no_more : length out ≡ length out₀ → length out ≤ given → left ≡ zero
      no_more e h = omega (arith, e, h)

      next-later : drop (given + 1) out ≡ drop (given + 1) out₀
      next-later = sym (drop-drop 1 given out) ∙ ap (drop 1) T.later ∙ drop-drop 1 given out₀

      one-put : given < length out → take given out ++ (b ∷ []) ≡ take (given + 1) (set out given b)
      one-put h = rw add-one (sym (take-suc-set out given b h))

      -- a byte, and a place for it
      pub taking-byte : given < length out → Taking p₀ bits out₀ (set out given b) next (given + 1) (i + 1)
      taking-byte few =
          record {
            within = omega arith;
            room = omega (arith, few, length-set out given b);
            long = length-set out given b ∙ T.long;
            whole = stepped (Some b) e
                ∙ ap (λ (n : ℕ). ahead i (take given out) (onward n place next (Some b) (λ r q. read_of r q rest))) (one_less T.long few)
                ∙ slide (take given out) (b ∷ []) i (read_of fewer next rest)
                ∙ ap (λ (l : List ℕ). ahead (i + 1) l (read_of fewer next rest)) (one-put few);
            later = drop-set-lt (given + 1) out given b (omega arith) ∙ next-later;
          }

      -- the buffer is full: the bit is not taken, and the byte not put
      pub stop-by : length out ≤ given → (whole ≡ ahead i (take given out) (stopped place)) × (set out given b ≡ out)
      stop-by full = (
        stepped (Some b) e ∙ ap (λ (n : ℕ). ahead i (take given out) (onward n place next (Some b) (λ r q. read_of r q rest))) (no_more T.long full),
        set_out out given b full,
      )

      pub taking-stops : length out ≤ given → (reading ≡ answer_of whole) × (out ≡ wrote_of whole out₀)
      taking-stops full = here (stop-by full).0
