-- What lies between the ends of a run agrees with them: t never falls as n grows, and neither do t / 0.45, its floor, or t - 3. Rounding
-- never quotient two numbers round, so no error is worked out. Values are in units of 2 ^ -1074, which hold them all. Assumes nothing.
use mathlib.Core.Path.{◌≡◌, refl, sym, ap, ◌∙◌, subst}
use mathlib.Core.Bool.{Bool, true, false, beq, and-eq-true_iff}
use Prim.Native.Nat.{ℕ, zero, suc, min, max, ◌+◌, ◌-◌, ◌*◌, ◌/◌, ◌%◌, ◌^◌, ◌≤◌, ◌<◌}
use native.Mathlib.Nat.{le_trans, le_of_eq, le_antisymm, lt_of_le_of_lt, mul_comm, mul-le-mul_right, mul_right_comm, mul-div-le, le-div_iff_mul-le}
use native.Mathlib.Omega.{arith}
use lib.Dec.{T, leb, ltb, eqb, lit<, lit≤, leb→le, le→leb, ltb→lt, lt→ltb}
use lib.Pow.{pow_pos}
use lib.Ieee.{Float, binary64, round, le, lt, add, of_bits, of_int}
use lib.Ieee.Exact.{HasValue}
use lib.Ieee.Order.{round_mono}
use borrow.Author.Tests.{eqb-true, leb-true}
use Rattle.math.specs.Float.{one, of_nat, plus, minus, over}
use Rattle.math.specs.Whole.{floor_of}
use Rattle.math.proofs.Tests.{same_test, beq_same}
use Rattle.math.proofs.Values.{one_value, nat-value, div-by, sub_at, of_le, le-at, lt_at}
use Rattle.math.proofs.Bounds.{AtMost, at_most, units-at-most}
use Rattle.math.proofs.Whole.{floor-at}
use Rattle.schedule.specs.Time.{time_at}
use Rattle.schedule.specs.Dialling.{digit_at, in_tone}
use Rattle.schedule.specs.Ansam.{reversal, sign_by, sign_at}
use Rattle.schedule.specs.Ringback.{ring_cycle, ring_on, ring_off, ring_by, ring_time_by, ring_at, ring_time, ring_tone}
use Rattle.runs.specs.Runs.{counted, Before, OneSign, OneGate, OneKey, Limits, EndsAgree, same_reversal, same_part, same_gate}
use Rattle.std.proofs.Common.{inl, inr}
use Rattle.std.proofs.lemmas.Bool.{cases_lt}
use Rattle.schedule.proofs.Samples.{rate-value}
use Rattle.schedule.proofs.Digits.{in-tone, in-gap}
use Rattle.runs.proofs.Counted.{counted_is, counted-le}

-- ---- constants, in units
-- 0.45
abbrev G : ℕ
G = 0x1c_cccc_cccc_cccd * 2 ^ 1020

reversal-value : HasValue reversal false G (2 ^ 1074)
unfolding of_bits
reversal-value = (refl, refl)

-- 3, 0.4, 0.4 + 0.2 and 1
abbrev C3 : ℕ
C3 = 3 * 2 ^ 1074

cycle-value : HasValue ring_cycle false C3 (2 ^ 1074)
unfolding of_int
cycle-value = (refl, refl)

abbrev C04 : ℕ
C04 = 0x19_9999_9999_999a * 2 ^ 1020

on_value : HasValue ring_on false C04 (2 ^ 1074)
unfolding of_bits
on_value = (refl, refl)

abbrev C06 : ℕ
C06 = 0x13_3333_3333_3334 * 2 ^ 1021

off-value : HasValue (plus ring_on ring_off) false C06 (2 ^ 1074)
unfolding of_bits add
off-value = (refl, refl)

-- ---- numbers
div_grows : (a b c : ℕ) → 0 < c → a ≤ b → a / c ≤ b / c
div_grows a b c C h = (le-div_iff_mul-le C).1 (le_trans (le_of_eq (mul_comm (a / c) c)) (le_trans (mul-div-le a c) h))

-- a test of which both ends agree
ltb-between : (a b c k : ℕ) → a ≤ b → b ≤ c → ltb a k ≡ ltb c k → ltb b k ≡ ltb a k
ltb-between a b c k h l e =
    same_test (ltb b k) (ltb a k) (λ t. lt→ltb a k (lt_of_le_of_lt h (ltb→lt b k t)))
    (λ t. lt→ltb b k (lt_of_le_of_lt l (ltb→lt c k (subst T e t))))

leb-between : (a b c k : ℕ) → a ≤ b → b ≤ c → leb k a ≡ leb k c → leb k b ≡ leb k a
leb-between a b c k h l e =
    same_test (leb k b) (leb k a) (λ t. subst T (sym e) (le→leb k c (le_trans (leb→le k b t) l)))
    (λ t. le→leb k b (le_trans (leb→le k a t) h))

ring-same : (a b : Bool) → ring_by a ≡ ring_by b → a ≡ b
ring-same true true e = refl
ring-same true false e = absurd (no e)
  where
    no : ring_by true ≡ ring_by false → ⊥
    no e = omega arith
ring-same false true e = absurd (no e)
  where
    no : ring_by false ≡ ring_by true → ⊥
    no e = omega arith
ring-same false false e = refl

-- ---- the cadence, of times u, v and w in that order
record Ordered (u v w : Float) : Type 0 where
  a : ℕ
  b : ℕ
  c : ℕ
  a-value : HasValue u false a (2 ^ 1074)
  b-value : HasValue v false b (2 ^ 1074)
  c-value : HasValue w false c (2 ^ 1074)
  a-b : a ≤ b
  b-c : b ≤ c

tone-between : (u v w : Float) → Ordered u v w → same_part u w ≡ true → ring_tone v ≡ ring_tone u
unfolding ring_tone
tone-between u v w O e =
    let P = pow_pos 1074 in
    let (on, rest) = (and-eq-true_iff (beq (lt u ring_on) (lt w ring_on)) _).0 e in
    let (off, end) = (and-eq-true_iff (beq (le (plus ring_on ring_off) u) (le (plus ring_on ring_off) w)) _).0 rest in
    let below : (x : Float) (n : ℕ) → HasValue x false n (2 ^ 1074) → lt u x ≡ lt w x → lt v x ≡ lt u x =
    λ x n X s.
    lt_at v x O.b n (2 ^ 1074) P O.b-value X
    ∙ ltb-between O.a O.b O.c n O.a-b O.b-c (sym (lt_at u x O.a n (2 ^ 1074) P O.a-value X) ∙ s ∙ lt_at w x O.c n (2 ^ 1074) P O.c-value X)
    ∙ sym (lt_at u x O.a n (2 ^ 1074) P O.a-value X) in
    let from : (x : Float) (n : ℕ) → HasValue x false n (2 ^ 1074) → le x u ≡ le x w → le x v ≡ le x u =
    λ x n X s.
    le-at x v n O.b (2 ^ 1074) P X O.b-value
    ∙ leb-between O.a O.b O.c n O.a-b O.b-c (sym (le-at x u n O.a (2 ^ 1074) P X O.a-value) ∙ s ∙ le-at x w n O.c (2 ^ 1074) P X O.c-value)
    ∙ sym (le-at x u n O.a (2 ^ 1074) P X O.a-value) in
    rw (below ring_on C04 on_value (beq_same _ _ on), from (plus ring_on ring_off) C06 off-value (beq_same _ _ off), below one (2 ^ 1074) (one_value (2 ^ 1074)) (beq_same _ _ end))

module _ (r : ℕ) (lo : 8000 ≤ r) (hi : r ≤ 192000) where
  pos : 0 < r
  pos = omega arith

  -- ---- t
  time-is : (n : ℕ) → n ≤ 2 ^ 32 → time_at r n ≡ round binary64 false n r
  time-is n h = div-by binary64 (of_nat n) (of_nat r) n r 1 (pow_pos 0) pos (nat-value n (le_trans h (lit≤ tt))) (rate-value r hi)

  time : (n : ℕ) → n ≤ 2 ^ 32 → AtMost (1 * 2 ^ 1094) (time_at r n)
  time n h =
      subst (AtMost (1 * 2 ^ 1094)) (sym (time-is n h))
      (at_most n r 1 1094 pos (lit< tt) (lit< tt) (le_trans (mul-le-mul_right (2 ^ 1074) few) (le_of_eq (mul_right_comm (2 ^ 20) r (2 ^ 1074)))))
    where
      few : n ≤ 2 ^ 20 * r
      few = omega arith

  module _ (n m : ℕ) (h : n ≤ m) (M : m ≤ 2 ^ 32) where
    time-grows : (time n (le_trans h M)).at ≤ (time m M).at
    time-grows =
        of_le (time_at r n) (time_at r m) (time n (le_trans h M)).at (time m M).at (2 ^ 1074) (pow_pos 1074) (time n (le_trans h M)).value (time m M).value
        (rw (time-is n (le_trans h M), time-is m M) (round_mono binary64 n r m r pos pos (mul-le-mul_right r h)))

  -- ---- t / 0.45
  quotient_is : (n : ℕ) (N : n ≤ 2 ^ 32) → over (time_at r n) reversal ≡ round binary64 false (time n N).at G
  quotient_is n N = div-by binary64 (time_at r n) reversal (time n N).at G (2 ^ 1074) (pow_pos 1074) (lit< tt) (time n N).value reversal-value

  quotient : (n : ℕ) → n ≤ 2 ^ 32 → AtMost (1 * 2 ^ 1096) (over (time_at r n) reversal)
  quotient n N =
      subst (AtMost (1 * 2 ^ 1096)) (sym (quotient_is n N))
      (at_most (time n N).at G 1 1096 (lit< tt) (lit< tt) (lit< tt) (le_trans (mul-le-mul_right (2 ^ 1074) (time n N).most) (lit≤ tt)))

  reversals-is : (n : ℕ) (N : n ≤ 2 ^ 32) → floor_of (over (time_at r n) reversal) ≡ (quotient n N).at / 2 ^ 1074
  reversals-is n N = floor-at (over (time_at r n) reversal) (quotient n N).at (2 ^ 1074) (pow_pos 1074) (quotient n N).value (lt_of_le_of_lt (quotient n N).most (lit< tt))

  reversals-grow : (n m : ℕ) → n ≤ m → m ≤ 2 ^ 32 → floor_of (over (time_at r n) reversal) ≤ floor_of (over (time_at r m) reversal)
  reversals-grow n m h M =
      let N = le_trans h M in
      rw (reversals-is n N, reversals-is m M)
      (div_grows (quotient n N).at (quotient m M).at (2 ^ 1074) (pow_pos 1074)
      (of_le (over (time_at r n) reversal) (over (time_at r m) reversal) (quotient n N).at (quotient m M).at (2 ^ 1074) (pow_pos 1074) (quotient n N).value (quotient m M).value
      (rw (quotient_is n N, quotient_is m M) (round_mono binary64 (time n N).at G (time m M).at G (lit< tt) (lit< tt) (mul-le-mul_right G (time-grows n m h M))))))

  sign-between : (n k m : ℕ) → n ≤ k → k ≤ m → m ≤ 2 ^ 32 → same_reversal (time_at r n) (time_at r m) ≡ true → sign_at (time_at r k) ≡ sign_at (time_at r n)
  unfolding sign_at
  sign-between n k m h l M e =
      let s = eqb-true (floor_of (over (time_at r n) reversal)) (floor_of (over (time_at r m) reversal)) e in
      ap (λ (f : ℕ). sign_by (eqb (f % 2) 0))
      (le_antisymm (le_trans (reversals-grow k m l M) (le_of_eq (sym s))) (reversals-grow n k h (le_trans l M)))

  -- ---- t - 3
  second_is : (n : ℕ) (N : n ≤ 2 ^ 32) → le ring_cycle (time_at r n) ≡ leb C3 (time n N).at
  second_is n N = le-at ring_cycle (time_at r n) C3 (time n N).at (2 ^ 1074) (pow_pos 1074) cycle-value (time n N).value

  later-is : (n : ℕ) (N : n ≤ 2 ^ 32) → C3 ≤ (time n N).at → minus (time_at r n) ring_cycle ≡ round binary64 false ((time n N).at - C3) (2 ^ 1074)
  later-is n N l = sub_at binary64 (time_at r n) ring_cycle (time n N).at C3 (2 ^ 1074) (pow_pos 1074) (time n N).value cycle-value l

  later : (n : ℕ) (N : n ≤ 2 ^ 32) → C3 ≤ (time n N).at → AtMost (1 * 2 ^ 1094) (minus (time_at r n) ring_cycle)
  later n N l =
      subst (AtMost (1 * 2 ^ 1094)) (sym (later-is n N l))
      (units-at-most ((time n N).at - C3) 1 1094 (lit< tt) (lit< tt) (le_trans (less (time n N).at C3) (time n N).most))
    where
      less : (a b : ℕ) → a - b ≤ a
      less a b = omega arith

  later-grows : (n m : ℕ) (h : n ≤ m) (M : m ≤ 2 ^ 32) (l : C3 ≤ (time n (le_trans h M)).at) (k : C3 ≤ (time m M).at) → (later n (le_trans h M) l).at ≤ (later m M k).at
  later-grows n m h M l k =
      let N = le_trans h M in
      of_le (minus (time_at r n) ring_cycle) (minus (time_at r m) ring_cycle) (later n N l).at (later m M k).at (2 ^ 1074) (pow_pos 1074) (later n N l).value (later m M k).value
      (rw (later-is n N l, later-is m M k)
      (round_mono binary64 ((time n N).at - C3) (2 ^ 1074) ((time m M).at - C3) (2 ^ 1074) (pow_pos 1074) (pow_pos 1074) (mul-le-mul_right (2 ^ 1074) (less (time n N).at (time m M).at C3 (time-grows n m h M)))))
    where
      less : (a b c : ℕ) → a ≤ b → a - c ≤ b - c
      less a b c h = omega arith

  module _ (n k m : ℕ) (h₀ : n ≤ k) (l : k ≤ m) (M : m ≤ 2 ^ 32) where
    abbrev K : k ≤ 2 ^ 32
    K = le_trans l M

    abbrev N : n ≤ 2 ^ 32
    N = le_trans h₀ K

    -- before the second ring, and in it
    first-order : Ordered (time_at r n) (time_at r k) (time_at r m)
    first-order = record {
      a = (time n N).at;
      b = (time k K).at;
      c = (time m M).at;
      a-value = (time n N).value;
      b-value = (time k K).value;
      c-value = (time m M).value;
      a-b = time-grows n k h₀ K;
      b-c = time-grows k m l M;
    }

    second-order : C3 ≤ (time n N).at → C3 ≤ (time k K).at → C3 ≤ (time m M).at → Ordered (minus (time_at r n) ring_cycle) (minus (time_at r k) ring_cycle) (minus (time_at r m) ring_cycle)
    second-order x y z = record {
      a = (later n N x).at;
      b = (later k K y).at;
      c = (later m M z).at;
      a-value = (later n N x).value;
      b-value = (later k K y).value;
      c-value = (later m M z).value;
      a-b = later-grows n k h₀ K x y;
      b-c = later-grows k m l M y z;
    }

    part-between : (b : Bool) → leb C3 (time n N).at ≡ b → leb C3 (time k K).at ≡ b → leb C3 (time m M).at ≡ b
        → same_part (ring_time_by b (time_at r n)) (ring_time_by b (time_at r m)) ≡ true
        → ring_tone (ring_time_by b (time_at r k)) ≡ ring_tone (ring_time_by b (time_at r n))
    part-between true x y z e =
        tone-between _ _ _ (second-order (leb-true C3 _ x) (leb-true C3 _ y) (leb-true C3 _ z)) e
    part-between false x y z e = tone-between _ _ _ first-order e

    gate-between : same_gate (time_at r n) (time_at r m) ≡ true → (ring_at (time_at r k) ≡ ring_at (time_at r n)) × (ring_tone (ring_time (time_at r k)) ≡ ring_tone (ring_time (time_at r n)))
    unfolding same_gate ring_at ring_time
    gate-between e =
        let (rings, parts) = (and-eq-true_iff (eqb (ring_by (le ring_cycle (time_at r n))) (ring_by (le ring_cycle (time_at r m)))) _).0 e in
        let ends : leb C3 (time n N).at ≡ leb C3 (time m M).at =
        sym (second_is n N) ∙ ring-same (le ring_cycle (time_at r n)) (le ring_cycle (time_at r m)) (eqb-true _ _ rings) ∙ second_is m M in
        let mid : leb C3 (time k K).at ≡ leb C3 (time n N).at = leb-between (time n N).at (time k K).at (time m M).at C3 (time-grows n k h₀ K) (time-grows k m l M) ends in
        let here : le ring_cycle (time_at r k) ≡ le ring_cycle (time_at r n) = second_is k K ∙ mid ∙ sym (second_is n N) in (
          ap ring_by here,
          rw (here, second_is n N)
              (part-between (leb C3 (time n N).at) refl mid (sym ends) (subst (λ (b : Bool). same_part (ring_time_by (leb C3 (time n N).at) (time_at r n)) (ring_time_by b (time_at r m)) ≡ true) (second_is m M ∙ sym ends)
              (subst (λ (b : Bool). same_part (ring_time_by b (time_at r n)) (ring_time_by (le ring_cycle (time_at r m)) (time_at r m)) ≡ true) (second_is n N) parts))),
        )

-- ---- a run
-- one sample is a run, and none is
only : (j c n : ℕ) → c ≤ 1 → j < c → counted j n ≡ n
unfolding counted
only zero c n h l = refl
only (suc j) c n h l = absurd (no h l)
  where
    no : c ≤ 1 → suc j < c → ⊥
    no h l = omega arith

module _ (r n most c : ℕ) where
  -- what lies between the ends is alike where it follows from the ends
  between : (P : Float → Type 0) → P (time_at r n)
      → ((L : Limits r n c) → 1 < c → (k : ℕ) → n ≤ k → k ≤ n + (c - 1) → P (time_at r k))
      → (1 < c → Limits r n c) → (j : ℕ) → j < c → P (time_at r (counted j n))
  between P here along known j l =
      elim (cases_lt 1 c) [
        | inl m ↦ let L = known m in rw (counted_is j n (omega (arith, L.few, L.short))) (along L m (n + j) (omega arith) (omega arith))
        | inr m ↦ rw (only j c n m l) here
      ]

  pub one_sign : EndsAgree (λ s t. true ≡ same_reversal s t) r n most c → OneSign r n most c
  one_sign E = record {
    some = E.some;
    fits = E.fits;
    sign = between (λ t. sign_at t ≡ sign_at (time_at r n)) refl
        (λ L m k h l. sign-between r L.slow L.fast n k (n + (c - 1)) h l (omega (arith, L.few, L.short)) (sym (E.ends m))) E.known;
  }

  pub one_gate : EndsAgree (λ s t. true ≡ same_gate s t) r n most c → OneGate r n most c
  one_gate E = record {
    some = E.some;
    fits = E.fits;
    ring = λ j l. (alike j l).0;
    gate = λ j l. (alike j l).1;
  }
    where
      alike : (j : ℕ) → j < c → (ring_at (time_at r (counted j n)) ≡ ring_at (time_at r n)) × (ring_tone (ring_time (time_at r (counted j n))) ≡ ring_tone (ring_time (time_at r n)))
      alike = between (λ t. (ring_at t ≡ ring_at (time_at r n)) × (ring_tone (ring_time t) ≡ ring_tone (ring_time (time_at r n)))) (refl, refl)
          (λ L m k h l. gate-between r L.slow L.fast n k (n + (c - 1)) h l (omega (arith, L.few, L.short)) (sym (E.ends m))) E.known

-- what is left of a stage
pub before_end : (n end most c : ℕ) → c ≡ min most (max (end - n) 1) → Before n end most c
before_end n end most c e = record { some = λ h. omega (arith, e, h); fits = omega (arith, e); early = λ j l. omega (arith, e, l, counted-le (suc j) n) }

-- ---- Dialling: off the edges digit and tone are told by whole numbers
module _ (r n i most c : ℕ) (L : Limits r n most) (I : i ≤ 75) (fits : c ≤ most) where
  spot : (j : ℕ) → j < c → counted (suc j) n ≡ n + suc j
  spot j l = counted_is (suc j) n (omega (arith, L.few, L.short))

  near_by : (j : ℕ) → j < c → n + suc j ≤ 2 ^ 32
  near_by j l = omega (arith, L.few, L.short)

  one_key : (on : Bool) → ((j : ℕ) → j < c → (digit_at (time_at r (n + suc j)) ≡ i) × (in_tone (time_at r (n + suc j)) ≡ on)) → OneKey r n i on most c
  one_key on f = record { fits = fits; digit-stays = λ j l. rw (spot j l) (f j l).0; tone-stays = λ j l. rw (spot j l) (f j l).1 }

  pub one-tone : ((j : ℕ) → j < c → (2 * (i * r) < 10 * (n + suc j)) × (10 * (n + suc j) < 2 * (i * r) + r)) → OneKey r n i true most c
  one-tone f = one_key true (λ j l. let (after, before) = f j l in in-tone r L.slow L.fast (n + suc j) (near_by j l) i I (omega arith) (omega arith))

  pub one-gap : ((j : ℕ) → j < c → (2 * (i * r) + r < 10 * (n + suc j)) × (10 * (n + suc j) < 2 * (i * r) + r + r)) → OneKey r n i false most c
  one-gap f = one_key false (λ j l. let (after, before) = f j l in in-gap r L.slow L.fast (n + suc j) (near_by j l) i I (omega arith) (omega arith))

pub no_key : (r n i : ℕ) (tone : Bool) (most : ℕ) → OneKey r n i tone most 0
no_key r n i tone most = record { fits = omega arith; digit-stays = λ j l. absurd (no j l); tone-stays = λ j l. absurd (no j l) }
  where
    no : (j : ℕ) → j < 0 → ⊥
    no j l = omega arith
