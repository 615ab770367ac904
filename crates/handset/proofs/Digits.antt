-- Where a digit's tone begins: a sample in tone after one that is of another digit or in a gap is its digit's first. Digits never fall, and within
-- one no tone follows its gap; where the next digit's edge falls on a sample that is still told as this one, the clock is computed. Assumes nothing.
use Rattle.std.proofs.Common.{◌≡◌, ℕ, zero, suc, ◌+◌, ◌*◌, ◌^◌, ◌<◌, ◌≤◌, Bool, true, false, not, ◌&&◌, ◌||◌, eqb, ltb, leb, ◌⊎◌, sym, refl, ap, ◌∙◌, subst, inl, inr, true≢false, le_trans, le_of_eq, le_refl, le_of_suc-le-suc, zero-lt-suc, le_antisymm, eq-or-lt_of_le, lt_of_not-le, not-le_of_lt, arith, lit≤, ltb-false, ltb-true, eqb-true}
use lib.Ieee.{sub, mul, div, lt, of_int, of_bits}
use borrow.Author.Tests.{lt-leb, eqb-false}
use Rattle.math.specs.Whole.{floor_of}
use Rattle.schedule.specs.Time.{time_at}
use Rattle.schedule.specs.Dialling.{digit_at, in_tone}
use Rattle.schedule.specs.Length.{dialling_length}
use Rattle.schedule.proofs.Digits.{digit-late, digit-past, in-tone, in-gap}
use Rattle.schedule.proofs.Lengths.{digit_after, dialling-ends, dialling-near}
use Rattle.schedule.proofs.Edges.{edge-time, all_below, below, digit-begins}
use Rattle.passage.specs.Lengths.{samples_of_digits}
use Rattle.passage.proofs.Dialling.{no-time, digit-first, tone-first}

-- ---- on the edge
-- where p / 5 is told to be a digit before p, it is in a gap
abbrev rests : ℕ → Bool
rests p = leb p (digit_at (time_at 5 p)) || not (in_tone (time_at 5 p))

edges : all_below 77 rests ≡ true
unfolding in_tone digit_at floor_of div sub mul lt of_int of_bits
edges = refl

module _ (r : ℕ) (lo : 8000 ≤ r) (hi : r ≤ 192000) where
  -- ---- the digit never falls
  never_back : (n : ℕ) → suc n ≤ 2 ^ 32 → digit_after r (suc n) ≤ 75 → digit_after r n ≤ digit_after r (suc n)
  never_back zero N I = subst (λ (i : ℕ). i ≤ digit_after r 1) (sym (ap digit_at (no-time r lo hi) ∙ digit-first)) (omega arith)
  never_back (suc n) N I = le_of_suc-le-suc (lt_of_not-le back)
    where
      e : ℕ
      e = digit_after r (suc (suc n))

      later : (x : ℕ) → x ≤ 5 * suc n → x < 5 * suc (suc n)
      later x h = omega arith

      back : suc e ≤ digit_after r (suc n) → ⊥
      back g = not-le_of_lt (le_refl (suc e)) (digit-past r lo hi (suc (suc n)) (zero-lt-suc (suc n)) N (suc e) (omega arith) (later (suc e * r) (digit-late r lo hi (suc n) (zero-lt-suc n) (omega arith) (suc e) g)))

  -- ---- a digit's first sample
  -- the first sample of a digit that is reached with the next one
  reached-first : (n : ℕ) → suc n ≤ 2 ^ 32 → (i : ℕ) → i ≤ 75 → digit_after r (suc n) ≡ i → digit_after r n < i → samples_of_digits r i ≡ suc n
  reached-first n N zero I e l = absurd (omega arith)
  reached-first n N (suc p) I e l =
      let P : suc p ≤ 76 = le_trans I (lit≤ tt) in
      let ends = dialling-ends r lo hi (suc p) P (zero-lt-suc p) in
      le_antisymm
      (le_of_suc-le-suc (lt_of_not-le (λ (g : suc (suc n) ≤ dialling_length r (suc p)). not-le_of_lt (ends.before (suc n) (zero-lt-suc n) g) (le_of_eq (sym e)))))
      (lt_of_not-le (λ (g : dialling_length r (suc p) ≤ n). not-le_of_lt l (before n N (le_trans ends.some g) (eq-or-lt_of_le g) P ends.reached)))
    where
      before : (n : ℕ) → suc n ≤ 2 ^ 32 → 1 ≤ n → (dialling_length r (suc p) ≡ n) ⊎ (dialling_length r (suc p) < n) → suc p ≤ 76 → suc p ≤ digit_after r (dialling_length r (suc p)) → suc p ≤ digit_after r n
      before n N some (inl q) P h = subst (λ (m : ℕ). suc p ≤ digit_after r m) q h
      before n N some (inr w) P h = digit-past r lo hi n some (le_trans (omega arith) N) (suc p) P (far (dialling_length r (suc p)) (suc p * r) (dialling-near r lo hi (suc p) P).0 w)
        where
          far : (L x : ℕ) → x ≤ 5 * L → L < n → x < 5 * n
          far L x h k = omega arith

  -- ---- within a digit
  -- a sample on its edge is its first, and so in tone
  on-first : (n : ℕ) → n ≤ 2 ^ 32 → (i : ℕ) → i ≤ 75 → 0 < n → digit_after r n ≡ i → i * r ≡ 5 * n → in_tone (time_at r n) ≡ true
  on-first n N zero I some d e = absurd (omega arith)
  on-first n N (suc p) I some d e =
      let P : suc p ≤ 76 = le_trans I (lit≤ tt) in
      let ends = dialling-ends r lo hi (suc p) P (zero-lt-suc p) in
      subst (λ (m : ℕ). in_tone (time_at r m) ≡ true)
      (le_antisymm (le_of_suc-le-suc (lt_of_not-le (λ (g : suc n ≤ dialling_length r (suc p)). not-le_of_lt (ends.before n some g) (le_of_eq (sym d))))) (least (dialling_length r (suc p)) (suc p * r) (dialling-near r lo hi (suc p) P).0 e))
      (digit-begins r lo hi (suc p) (zero-lt-suc p) I).1
    where
      least : (L x : ℕ) → x ≤ 5 * L → x ≡ 5 * n → n ≤ L
      least L x h e = omega arith

  -- past its middle, and not of the next digit, a sample is in the gap
  in-the-gap : (n : ℕ) → n ≤ 2 ^ 32 → (i : ℕ) → i ≤ 75 → 0 < n → digit_after r n ≡ i → (2 * i + 1) * r < 10 * n → in_tone (time_at r n) ≡ false
  in-the-gap n N i I some d m = go (ltb (5 * n) ((i + 1) * r)) refl
    where
      edge : (i + 1) * r ≡ 5 * n → in_tone (time_at r n) ≡ false
      edge e =
          let at : time_at r n ≡ time_at 5 (i + 1) = edge-time r n (i + 1) lo hi N (omega arith) e in
          rw at (told (leb (i + 1) (digit_at (time_at 5 (i + 1)))) (in_tone (time_at 5 (i + 1))) (below 77 rests edges (i + 1) (omega arith)) (lt-leb (i + 1) (digit_at (time_at 5 (i + 1))) (rw (← at, d) (omega arith))))
        where
          told : (a b : Bool) → a || not b ≡ true → a ≡ false → b ≡ false
          told true b h k = absurd (true≢false k)
          told false true h k = absurd (true≢false (sym h))
          told false false h k = refl

      past : ((i + 1) * r ≡ 5 * n) ⊎ ((i + 1) * r < 5 * n) → in_tone (time_at r n) ≡ false
      past (inl e) = edge e
      past (inr l) = absurd (not-le_of_lt (omega arith) (le_trans (digit-past r lo hi n some N (i + 1) (omega arith) l) (le_of_eq d)))

      go : (b : Bool) → ltb (5 * n) ((i + 1) * r) ≡ b → in_tone (time_at r n) ≡ false
      go true e = (in-gap r lo hi n N i I m (ltb-true _ _ e)).1
      go false e = past (eq-or-lt_of_le (ltb-false _ _ e))

  no_return : (n : ℕ) → suc n ≤ 2 ^ 32 → (i : ℕ) → i ≤ 75 → digit_after r n ≡ i → digit_after r (suc n) ≡ i → in_tone (time_at r n) ≡ false → in_tone (time_at r (suc n)) ≡ false
  no_return zero N i I d e off = absurd (true≢false (sym tone-first ∙ ap in_tone (sym (no-time r lo hi)) ∙ off))
  no_return (suc n) N i I d e off = go (ltb (10 * suc n) ((2 * i + 1) * r)) refl (eq-or-lt_of_le (digit-late r lo hi (suc n) (zero-lt-suc n) M i (le_of_eq (sym d))))
    where
      M : suc n ≤ 2 ^ 32
      M = omega arith

      later : (x : ℕ) → x ≤ 10 * suc n → x < 10 * suc (suc n)
      later x h = omega arith

      go : (b : Bool) → ltb (10 * suc n) ((2 * i + 1) * r) ≡ b → (i * r ≡ 5 * suc n) ⊎ (i * r < 5 * suc n) → in_tone (time_at r (suc (suc n))) ≡ false
      go b m (inl q) = absurd (true≢false (sym (on-first (suc n) M i I (zero-lt-suc n) d q) ∙ off))
      go true m (inr l) = absurd (true≢false (sym (in-tone r lo hi (suc n) M i I l (ltb-true _ _ m)).1 ∙ off))
      go false m (inr l) = in-the-gap (suc (suc n)) N i I (zero-lt-suc (suc n)) e (later _ (ltb-false _ _ m))

  -- ---- so a tone that begins is its digit's
  pub tone-begins : (n : ℕ) → suc n ≤ 2 ^ 32 → digit_after r (suc n) ≤ 75 → in_tone (time_at r (suc n)) ≡ true
      → eqb (digit_after r n) (digit_after r (suc n)) && in_tone (time_at r n) ≡ false → samples_of_digits r (digit_after r (suc n)) ≡ suc n
  tone-begins n N I on new = go (eqb (digit_after r n) (digit_after r (suc n))) (in_tone (time_at r n)) refl refl new
    where
      less : (a b : ℕ) → a ≤ b → (a ≡ b → ⊥) → a < b
      less a b h k = elim (eq-or-lt_of_le h) [ inl e ↦ absurd (k e) | inr l ↦ l ]

      go : (a b : Bool) → eqb (digit_after r n) (digit_after r (suc n)) ≡ a → in_tone (time_at r n) ≡ b → a && b ≡ false → samples_of_digits r (digit_after r (suc n)) ≡ suc n
      go false b e f h = reached-first n N (digit_after r (suc n)) I refl (less _ _ (never_back n N I) (eqb-false _ _ e))
      go true true e f h = absurd (true≢false h)
      go true false e f h = absurd (true≢false (sym on ∙ no_return n N (digit_after r (suc n)) I (eqb-true _ _ e) refl f))

  -- and the samples before a digit's are no more than those before one of its own
  pub start-before : (n : ℕ) → (i : ℕ) → i ≤ 76 → digit_after r n ≡ i → samples_of_digits r i ≤ n
  start-before n zero I d = omega arith
  start-before zero (suc p) I d = absurd (none (sym (ap digit_at (no-time r lo hi) ∙ digit-first) ∙ d))
    where
      none : 0 ≡ suc p → ⊥
      none e = omega arith
  start-before (suc n) (suc p) I d =
      le_of_suc-le-suc (lt_of_not-le (λ (g : suc (suc n) ≤ dialling_length r (suc p)). not-le_of_lt ((dialling-ends r lo hi (suc p) I (zero-lt-suc p)).before (suc n) (zero-lt-suc n) g) (le_of_eq (sym d))))
