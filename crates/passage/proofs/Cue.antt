-- Where Dialling is after n samples, counted from the overture's first; and which sample is a digit's first: the one after click, dial tone and the
-- digits before it. It lies in the digit's tone, and a state before it is of an earlier stage or of an earlier digit. Assumes nothing.
use mathlib.Core.Path.{◌≡◌, refl, sym, subst, ◌∙◌}
use mathlib.Core.Bool.{Bool, true, false, true≢false, and-eq-true_iff}
use mathlib.Core.List.{List}
use Prim.Native.Nat.{ℕ, zero, suc, ◌+◌, ◌-◌, ◌*◌, ◌≤◌, ◌<◌, zero-le}
use native.Mathlib.Nat.{le_trans, le_of_eq, le_of_lt, le_of_suc-le-suc, lt_of_le_of_lt, lt_of_not-le, suc-mul, mul-le-mul_right, zero-lt-suc, add-sub_of_le}
use native.Mathlib.Numerals.{add-one}
use native.Mathlib.Omega.{arith}
use lib.Dec.{ltb, eqb, lit≤}
use lib.ListN.{length}
use borrow.Author.Tests.{ltb-true, ltb-false, eqb-true, eq-eqb, ne_eqb}
use Rattle.math.specs.Float.{one}
use Rattle.nco.specs.declared.Nco.{Nco}
use Rattle.schedule.specs.Time.{time_at, samples_in}
use Rattle.schedule.specs.Dialling.{digit_at, in_tone}
use Rattle.schedule.specs.Length.{click_time, dialling_length, total}
use Rattle.schedule.proofs.First.{first-is}
use Rattle.schedule.proofs.Lengths.{dialling-ends, dialling-near, dialling-range}
use Rattle.schedule.proofs.Edges.{digit-begins}
use Rattle.stage.specs.declared.Stage.TheVariants as stage
use Rattle.stage.specs.declared.StageState.{StageState}
use Rattle.stage.specs.declared.StageState.TheVariants.{OffHook, DialTone, Dialling, Ringback, Ci, Ansam, CmJm, Cj, Training, Connected}
use Rattle.stage.specs.Stage.{stage_number, stage_of}
use Rattle.overture.specs.Iteration.{fresh, after}
use Rattle.passage.specs.Lengths.{samples_before, samples_of_digits}
use Rattle.passage.specs.Cue.{InDigitTone, FirstInTone, sounding, in_digit_tone, first_in_tone}
use Rattle.passage.proofs.Dialling.{Pair, DiallingAfter, no-time, digit-first, tone-first, some-digits-last}
use Rattle.passage.proofs.Overture.{after-entry, not_after}

-- ---- a state that sounds digit p is Dialling's, at p and in tone
pub record Sounds (p : ℕ) (s : StageState) : Type 0 where
  pub a : Nco
  pub b : Nco
  pub n : ℕ
  pub state : s ≡ Dialling p true a b n

pub only-in-tone : (p : ℕ) (s : StageState) → sounding p s ≡ true → Sounds p s
unfolding sounding
only-in-tone p (OffHook rng n) e = absurd (true≢false (sym e))
only-in-tone p (DialTone a b n) e = absurd (true≢false (sym e))
only-in-tone p (Dialling i on a b n) e =
    let both = (and-eq-true_iff (eqb i p) on).0 e in
    record { a = a; b = b; n = n; state = rw (eqb-true i p both.0, both.1) }
only-in-tone p (Ringback a b n ring) e = absurd (true≢false (sym e))
only-in-tone p (Ci f) e = absurd (true≢false (sym e))
only-in-tone p (Ansam c v n) e = absurd (true≢false (sym e))
only-in-tone p (CmJm f) e = absurd (true≢false (sym e))
only-in-tone p (Cj f z) e = absurd (true≢false (sym e))
only-in-tone p (Training f) e = absurd (true≢false (sym e))
only-in-tone p Connected e = absurd (true≢false (sym e))

module _ (digits : List ℕ) (r : ℕ) (lo : 8000 ≤ r) (hi : r ≤ 192000) (few : length digits ≤ 76) where
  -- its count is n, its pair is that of t = n / r
  pub dialling-at : 0 < length digits → (n : ℕ) → n < dialling_length r (length digits)
      → DiallingAfter digits r n (after (samples_in click_time r + samples_in one r + n) (fresh digits r) digits r)
  unfolding samples_before
  dialling-at some n h = subst (DiallingAfter digits r n) (sym (after-entry digits r lo hi few stage.Dialling n)) ((some-digits-last digits r lo hi some few).during n h)

  -- so a sample of digit p's tone is the one after those
  pub in-digit-tone : (p n : ℕ) → 0 < length digits → n < dialling_length r (length digits) → digit_at (time_at r n) ≡ p → in_tone (time_at r n) ≡ true
      → InDigitTone digits r p (samples_in click_time r + samples_in one r + n + 1)
  in-digit-tone p n some h i on = from (dialling-at some n h)
    where
      from : DiallingAfter digits r n (after (samples_in click_time r + samples_in one r + n) (fresh digits r) digits r)
          → InDigitTone digits r p (samples_in click_time r + samples_in one r + n + 1)
      from d =
          let q : Pair digits r p true d.dial = rw (i, on) at d.pair in
          record {
            before = samples_in click_time r + samples_in one r + n;
            number = add-one _;
            a = d.dial.a;
            b = d.dial.b;
            n = n;
            state = rw (d.state, q.digit, q.tone);
            low = q.low refl;
            high = q.high refl;
          }

  -- ---- digit p's first sample
  module _ (p : ℕ) (P : p < length digits) where
    last-digit : p ≤ 75
    last-digit = le_of_suc-le-suc (le_trans P few)

    some : 0 < length digits
    some = lt_of_le_of_lt zero-le P

    abbrev before : ℕ
    before = samples_in click_time r + samples_in one r

    -- Dialling has it
    inside : (p : ℕ) → p < length digits → samples_of_digits r p < dialling_length r (length digits)
    inside zero h = (dialling-range r lo hi (length digits) few).0
    inside (suc p) h =
        go (dialling_length r (suc p)) (dialling_length r (length digits)) (suc p * r) (length digits * r) (dialling-near r lo hi (suc p) (le_trans (le_of_lt h) few)).1
        (le_trans (le_of_eq (sym (suc-mul (suc p) r))) (mul-le-mul_right r h)) (dialling-near r lo hi (length digits) few).0
      where
        go : (n L x y : ℕ) → 5 * n ≤ x + 5 → x + r ≤ y → y ≤ 5 * L → n < L
        go n L x y h k l = omega arith

    -- in tone
    begins : (p : ℕ) → p ≤ 75 → (digit_at (time_at r (samples_of_digits r p)) ≡ p) × (in_tone (time_at r (samples_of_digits r p)) ≡ true)
    begins zero h = (rw (no-time r lo hi) digit-first, rw (no-time r lo hi) tone-first)
    begins (suc p) h = digit-begins r lo hi (suc p) (zero-lt-suc p) h

    first-in-tone : InDigitTone digits r p (before + samples_of_digits r p + 1)
    first-in-tone = in-digit-tone p (samples_of_digits r p) some (inside p P) (begins p last-digit).0 (begins p last-digit).1

    -- and no digit before it is p
    earlier : (p : ℕ) → p ≤ 76 → (n : ℕ) → n < samples_of_digits r p → digit_at (time_at r n) < p
    earlier zero h n l = absurd (omega arith)
    earlier (suc p) h zero l = rw (no-time r lo hi, digit-first) (zero-lt-suc p)
    earlier (suc p) h (suc n) l = (dialling-ends r lo hi (suc p) h (zero-lt-suc p)).before (suc n) (zero-lt-suc n) l

    -- nor does a stage before Dialling sound it
    other-stage : (s : StageState) → stage_number (stage_of s) ≤ 2 → sounding p s ≡ false
    unfolding sounding
    other-stage (OffHook rng n) h = refl
    other-stage (DialTone a b n) h = refl
    other-stage (Dialling i on a b n) h = absurd (omega arith)
    other-stage (Ringback a b n ring) h = refl
    other-stage (Ci f) h = refl
    other-stage (Ansam c e n) h = refl
    other-stage (CmJm f) h = refl
    other-stage (Cj f z) h = refl
    other-stage (Training f) h = refl
    other-stage Connected h = refl

    other-digit : (i : ℕ) → i < samples_of_digits r p → sounding p (after (before + i) (fresh digits r) digits r) ≡ false
    unfolding sounding
    other-digit i l =
        let d = dialling-at some i (le_trans l (le_of_lt (inside p P))) in
        let before-p = earlier p (le_trans last-digit (lit≤ tt)) i l in
        rw (d.state, d.pair.digit, ne_eqb (digit_at (time_at r i)) p (λ e. omega arith))

    silent : (j : ℕ) → j < before + samples_of_digits r p → sounding p (after j (fresh digits r) digits r) ≡ false
    unfolding samples_before
    silent j l = go (ltb j before) refl
      where
        go : (b : Bool) → ltb j before ≡ b → sounding p (after j (fresh digits r) digits r) ≡ false
        go true e = other-stage _ (not_after digits r lo hi few stage.DialTone (lit≤ tt) j (ltb-true j before e))
        go false e =
            let x = ltb-false j before e in
            subst (λ (k : ℕ). sounding p (after k (fresh digits r) digits r) ≡ false) (add-sub_of_le x) (other-digit (j - before) (omega arith))

    sounds : (k : ℕ) → InDigitTone digits r p k → in_digit_tone digits r p k ≡ true
    unfolding sounding
    sounds k d =
        let last : d.before ≡ k - 1 = omega (arith, d.number) in
        subst (λ (j : ℕ). sounding p (after j (fresh digits r) digits r) ≡ true) last (rw (d.state, eq-eqb p p refl))

    no-earlier : (k : ℕ) → InDigitTone digits r p k → before + samples_of_digits r p + 1 ≤ k
    no-earlier k d = le_of_suc-le-suc (lt_of_not-le early)
      where
        early : k < before + samples_of_digits r p + 1 → ⊥
        early l = true≢false (sym (sounds k d) ∙ silent (k - 1) (omega (arith, d.number)))

    pub first-sample : FirstInTone digits r p (before + samples_of_digits r p + 1)
    first-sample = record { in_tone = first-in-tone; least = no-earlier }

    within : before + samples_of_digits r p + 1 ≤ 1 + total r (length digits)
    unfolding total
    within = omega (arith, inside p P)

    -- so it is the first number that the definition finds
    pub first-sample-is : first_in_tone digits r p ≡ before + samples_of_digits r p + 1
    unfolding first_in_tone
    first-sample-is =
        first-is (in_digit_tone digits r p) (total r (length digits)) _ 1 (before + samples_of_digits r p + 1) refl (omega arith) within
        (sounds _ first-in-tone) (λ j i l. silent (j - 1) (omega arith))
