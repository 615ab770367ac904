-- A sound line with one byte more is sound, a byte that the line keeps stands at its end, and one that finds 80 there leaves its bytes. It has at
-- most 76 bytes after ATDT. Assumes nothing.
use Prim.Native.Nat.{ℕ, ◌+◌, ◌≤◌, ◌<◌}
use native.Mathlib.Numerals.{add-one}
use native.Mathlib.Omega.{arith}
use mathlib.Core.Path.{◌≡◌, refl, sym, ◌∙◌}
use mathlib.Core.List.{[], ◌∷◌, ◌++◌}
use mathlib.Core.Bool.{Bool, true, false, ◌&&◌, not, and-eq-true_iff, true≢false}
use lib.ListN.{length, drop, length-take, length-drop}
use lib.Seq.{take-suc-set}
use lib.Dec.{leb, ltb}
use borrow.Author.Tests.{leb-true, ltb-true, le-leb, le-ltb, lt-ltb}
use Rattle.command.specs.declared.Line.{Line}
use Rattle.command.specs.Line.{empty_line, typed, ran_over, sound_line, pushed, pushed_if, uppercased}

pub sound_empty : sound_line empty_line ≡ true
unfolding sound_line
sound_empty = refl

module _ (l : Line) where
  -- a sound line has at most 80 bytes, and one that did not fill them no mark
  pub short : sound_line l ≡ true → l.len ≤ 80
  unfolding sound_line
  short s = leb-true l.len 80 ((and-eq-true_iff (leb l.len 80) _).0 s).0

  pub unmarked : sound_line l ≡ true → l.len < 80 → ran_over l ≡ false
  unfolding sound_line
  unmarked s room = go (ran_over l) refl (rw (lt-ltb _ _ room) at ((and-eq-true_iff (leb l.len 80) _).0 s).1)
    where
      go : (mark : Bool) → ran_over l ≡ mark → not (mark && true) ≡ true → ran_over l ≡ false
      go false e n = e
      go true e n = e ∙ sym n

  pub marked-some : sound_line l ≡ true → ran_over l ≡ true → l.len ≡ 0 → ⊥
  marked-some s over none = true≢false (sym over ∙ unmarked s (omega arith))

  sound-by : (t : Bool) (b : ℕ) → ltb l.len 80 ≡ t → sound_line l ≡ true → sound_line (pushed_if t l b) ≡ true
  unfolding sound_line
  sound-by true b e s =
      let room = ltb-true l.len 80 e in
      rw (unmarked s room, le-leb (l.len + 1) 80 (omega arith))
  sound-by false b e s = rw (e, le-leb l.len 80 (short s))

  pub sound-pushed : (b : ℕ) → sound_line l ≡ true → sound_line (pushed l b) ≡ true
  unfolding pushed
  sound-pushed b s = sound-by (ltb l.len 80) b refl s

  pub sound-uppercased : sound_line (uppercased l) ≡ sound_line l
  unfolding sound_line uppercased
  sound-uppercased = refl

  -- a line that has not run over with the byte has it at its end
  pub joins : (b : ℕ) → length l.bytes ≡ 80 → ran_over (pushed l b) ≡ false → typed (pushed l b) ≡ typed l ++ (b ∷ [])
  unfolding pushed
  joins b long kept = go (ltb l.len 80) refl kept
    where
      go : (t : Bool) → ltb l.len 80 ≡ t → ran_over (pushed_if t l b) ≡ false → typed (pushed_if t l b) ≡ typed l ++ (b ∷ [])
      go true e n = let room = ltb-true l.len 80 e in rw add-one (take-suc-set l.bytes l.len b (omega arith))
      go false e n = absurd (true≢false n)

  -- a byte that finds 80 there is dropped, and the line marked
  pub dropped : (b : ℕ) → 80 ≤ l.len → (typed (pushed l b) ≡ typed l) × (ran_over (pushed l b) ≡ true)
  unfolding pushed
  dropped b full = rw (le-ltb l.len 80 full) (refl, refl)

  pub few-after : sound_line l ≡ true → length (drop 4 (typed l)) ≤ 76
  few-after s = simp (length-drop, length-take) (omega (arith, short s))
