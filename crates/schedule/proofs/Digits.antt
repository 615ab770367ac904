-- The digit and its tone after n samples: digit i once 5 * n is above i * r, in tone while 10 * n is below (2 * i + 1) * r, in the gap above that.
-- 0.2 is F * 2 ^ -72, above 1 / 5 by 2 ^ 18 / 5 units; what that and the roundings of t, t / 0.2, i × 0.2 and t - i × 0.2 add up to is far below the 2 ^ 72 / (10 * r) units by which a count off an edge misses it. Assumes nothing.
use Rattle.std.proofs.Common.{◌≡◌, ℕ, suc, ◌+◌, ◌-◌, ◌*◌, ◌/◌, ◌^◌, ◌<◌, ◌≤◌, true, false, ltb, sym, refl, ◌∙◌, subst, le_trans, le_of_eq, le_refl, lt_of_lt_of_le, le_of_suc-le-suc, lt_of_le_of_lt, le_of_lt, add-le-add, mul-le-mul_right, suc-mul, mul-le-mul, le_antisymm, lt_of_mul-lt-mul_right, mul-le-mul_left, mul-lt-mul_of_pos_right, lt_of_not-le, le-div_iff_mul-le, not-le_of_lt, le_of_mul-le-mul_right, arith, lit<, lit≤, pow_pos, le-ltb, lt-ltb}
use lib.Ieee.{binary64, of_bits}
use lib.Ieee.Exact.{HasValue}
use Rattle.math.specs.Float.{of_nat, times, over, minus}
use Rattle.math.proofs.Error.{Rounded, round-at}
use Rattle.math.proofs.Values.{nat-value, div-by, mul-by, sub_at, lt_at}
use Rattle.math.proofs.Whole.{floor-at}
use Rattle.schedule.specs.Time.{time_at}
use Rattle.schedule.specs.Dialling.{digit_period, digit_tone, digit_at, in_tone}
use Rattle.schedule.proofs.Samples.{rate-value}
use Rattle.math.proofs.Units.{Near, near}

-- 0.2 and 0.1 in units of 2 ^ -72
abbrev F : ℕ
F = 0x19_9999_9999_999a * 2 ^ 17

abbrev H : ℕ
H = 0x19_9999_9999_999a * 2 ^ 16

period-value : HasValue digit_period false F (2 ^ 72)
unfolding of_bits
period-value = (refl, refl)

tone-value : HasValue digit_tone false H (2 ^ 72)
unfolding of_bits
tone-value = (refl, refl)

pos_of : (r : ℕ) → 8000 ≤ r → 0 < r
pos_of r h = omega arith

-- ---- plain numbers: t is T * 2 ^ -72, with P for T * r, and q = t / 0.2 is Q * 2 ^ -72
-- from t to q
q-ge : (F U d T Q E : ℕ) → 0 < F → F ≤ U → d * F + E ≤ T → 2 * (T * U) ≤ 2 * (Q * F) + F * E → d * U ≤ Q
q-ge F U d T Q E f fu h k =
    let a = mul-le-mul_right U h in
    let b = mul-le-mul_right E fu in
    le_of_mul-le-mul_right {m = d * U} {n = Q} (omega arith) f

q-le : (F U d T Q E : ℕ) → 0 < U → F ≤ U → d * U ≤ Q → 2 * (Q * F) ≤ 2 * (T * U) + F * E → d * F ≤ T + E
q-le F U d T Q E u fu h k =
    let a = mul-le-mul_right F h in
    let b = mul-le-mul_right E fu in
    le_of_mul-le-mul_right {m = d * F} {n = T + E} (omega arith) u

-- from n to t: with d * r below 5 * n, t is d * 0.2 and more
apart : (x n : ℕ) → x ≤ 14592000 → x < 5 * n → 5 * (x * F) + 2 ^ 71 ≤ 5 * (n * 2 ^ 72)
apart x n h k = omega arith

above : (P y v r : ℕ) → r ≤ 192000 → 5 * y + 2 ^ 71 ≤ 5 * v → 2 * v ≤ 2 * P + r * 2 ^ 39 → y + 2 ^ 42 * r ≤ P
above P y v r a b c = omega arith

t-ge : (t r n d : ℕ) → 8000 ≤ r → r ≤ 192000 → d ≤ 76 → d * r < 5 * n → 2 * (n * 2 ^ 72) ≤ 2 * (t * r) + r * 2 ^ 39 → d * F + 2 ^ 42 ≤ t
t-ge t r n d lo hi D h k =
    let far = above (t * r) (d * r * F) (n * 2 ^ 72) r hi (apart (d * r) n (mul-le-mul D hi) h) k in
    le_of_mul-le-mul_right {m = d * F + 2 ^ 42} {n = t} (omega arith) (pos_of r lo)

-- and back: with t near d * 0.2, 5 * n reaches d * r
t-le : (t r n d : ℕ) → r ≤ 192000 → d * F ≤ t + 2 ^ 42 → 2 * (t * r) ≤ 2 * (n * 2 ^ 72) + r * 2 ^ 39 → d * r ≤ 5 * n
t-le t r n d hi h k = let near = mul-le-mul_right r h in omega arith

-- t and q in range
t-large : (t r n : ℕ) → r ≤ 192000 → 0 < n → 2 * (n * 2 ^ 72) ≤ 2 * (t * r) + r * 2 ^ 39 → 2 ^ 53 ≤ t
t-large t r n hi h k = le_of_suc-le-suc (lt_of_not-le (λ (g : suc t ≤ 2 ^ 53). omega (arith, mul-le-mul_right r (le_of_lt g))))

t-small : (t r n : ℕ) → 8000 ≤ r → r ≤ 192000 → n ≤ 2 ^ 32 → 2 * (t * r) ≤ 2 * (n * 2 ^ 72) + r * 2 ^ 39 → t < 2 ^ 92
t-small t r n lo hi h k = lt_of_not-le (λ (g : 2 ^ 92 ≤ t). omega (arith, mul-le-mul g lo))

q-small : (t q : ℕ) → t < 2 ^ 92 → 2 * (q * F) ≤ 2 * (t * 2 ^ 72) + F * 2 ^ 42 → q < 2 ^ 51 * 2 ^ 72
q-small t q h k = lt_of_not-le (λ (g : 2 ^ 51 * 2 ^ 72 ≤ q). not-le_of_lt (lt_of_le_of_lt k (sum (mul-lt-mul_of_pos_right h (pow_pos 72)))) (mul-le-mul_left 2 (mul-le-mul_right F g)))
  where
    sum : t * 2 ^ 72 < 2 ^ 92 * 2 ^ 72 → 2 * (t * 2 ^ 72) + F * 2 ^ 42 < 2 * (2 ^ 51 * 2 ^ 72 * F)
    sum l = lt_of_le_of_lt (add-le-add (mul-le-mul_left 2 (le_of_lt l)) (le_refl (F * 2 ^ 42))) (lit< tt)

-- ---- i × 0.2, for i to 75
multiple : (i : ℕ) → i ≤ 75 → Near 72 23 (i * F) (times (of_nat i) digit_period)
multiple i h =
    subst (Near 72 23 (i * F)) (sym (mul-by binary64 (of_nat i) digit_period i 1 F (2 ^ 72) (pow_pos 0) (pow_pos 72) (nat-value i (le_trans h (lit≤ tt))) period-value))
    (near 20 1002 23 (i * F) refl (lit≤ tt) (lt_of_le_of_lt (mul-le-mul_right F h) (lit< tt)))

-- ---- t less i × 0.2, which is X * 2 ^ -72, against 0.1: all times r, with P for T * r, Z for X * r, x for i * r, y for x * F and v for n * 2 ^ 72
digit-edge : (x n r : ℕ) → 5 * n < x + r → 5 * (n * 2 ^ 72) + 2 ^ 72 ≤ 5 * (x * F) + r * 2 ^ 72
digit-edge x n r h = omega arith

tone-edge : (x n r : ℕ) → 10 * n < 2 * x + r → 10 * (n * 2 ^ 72) + 2 ^ 72 ≤ 10 * (x * F) + r * 2 ^ 72
tone-edge x n r h = omega arith

gap-edge : (x n r : ℕ) → x ≤ 14400000 → 2 * x + r < 10 * n → 10 * (x * F) + r * 2 ^ 72 + 2 ^ 71 ≤ 10 * (n * 2 ^ 72)
gap-edge x n r l h = omega arith

digit-nums : (P Z y v r : ℕ) → r ≤ 192000 → 2 * P ≤ 2 * v + r * 2 ^ 39 → y ≤ Z + 2 ^ 22 * r → 5 * v + 2 ^ 72 ≤ 5 * y + r * 2 ^ 72 → P < Z + 2 ^ 70 * r
digit-nums P Z y v r a b c d = omega arith

tone-nums : (P Z y v r : ℕ) → r ≤ 192000 → 2 * P ≤ 2 * v + r * 2 ^ 39 → y ≤ Z + 2 ^ 22 * r → 10 * v + 2 ^ 72 ≤ 10 * y + r * 2 ^ 72 → P + 2 ^ 16 * r < Z + H * r
tone-nums P Z y v r a b c d = omega arith

gap-nums : (P Z y v r : ℕ) → r ≤ 192000 → 2 * v ≤ 2 * P + r * 2 ^ 39 → Z ≤ y + 2 ^ 22 * r → 10 * y + r * 2 ^ 72 + 2 ^ 71 ≤ 10 * v → Z + H * r + 2 ^ 16 * r ≤ P
gap-nums P Z y v r a b c d = omega arith

module _ (T X r n i : ℕ) (lo : 8000 ≤ r) (hi : r ≤ 192000) (I : i ≤ 75) (t-over : 2 * (T * r) ≤ 2 * (n * 2 ^ 72) + r * 2 ^ 39) (t-under : 2 * (n * 2 ^ 72) ≤ 2 * (T * r) + r * 2 ^ 39) (x-over : 2 * X ≤ 2 * (i * F) + 2 ^ 23) (x-under : 2 * (i * F) ≤ 2 * X + 2 ^ 23) where
  z-over : X * r ≤ i * r * F + 2 ^ 22 * r
  z-over = let h = mul-le-mul_right r x-over in omega arith

  z-under : i * r * F ≤ X * r + 2 ^ 22 * r
  z-under = let h = mul-le-mul_right r x-under in omega arith

  -- before the next digit
  digit-side : 5 * n < i * r + r → T < X + 2 ^ 70
  digit-side h =
      let l = digit-nums (T * r) (X * r) (i * r * F) (n * 2 ^ 72) r hi t-over z-under (digit-edge (i * r) n r h) in
      lt_of_mul-lt-mul_right r {m = T} {n = X + 2 ^ 70} (omega arith)

  -- below the middle of the digit
  tone-side : 10 * n < 2 * (i * r) + r → T + 2 ^ 16 < X + H
  tone-side h =
      let l = tone-nums (T * r) (X * r) (i * r * F) (n * 2 ^ 72) r hi t-over z-under (tone-edge (i * r) n r h) in
      lt_of_mul-lt-mul_right r {m = T + 2 ^ 16} {n = X + H} (omega arith)

  -- above it
  gap-side : 2 * (i * r) + r < 10 * n → X + H + 2 ^ 16 ≤ T
  gap-side h =
      let l = gap-nums (T * r) (X * r) (i * r * F) (n * 2 ^ 72) r hi t-under z-over (gap-edge (i * r) n r (mul-le-mul I hi) h) in
      le_of_mul-le-mul_right {m = X + H + 2 ^ 16} {n = T} (omega arith) (pos_of r lo)

-- ---- the digit, and its tone
module _ (r : ℕ) (lo : 8000 ≤ r) (hi : r ≤ 192000) (n : ℕ) (some : 0 < n) (most : n ≤ 2 ^ 32) where
  t : Rounded 72 39 n r (time_at r n)
  t =
      subst (Rounded 72 39 n r) (sym (div-by binary64 (of_nat n) (of_nat r) n r 1 (pow_pos 0) (pos_of r lo) (nat-value n (le_trans most (lit≤ tt))) (rate-value r hi)))
      (round-at 20 1002 39 n r refl (pos_of r lo) (omega arith) (omega arith) (lit≤ tt))

  large : 2 ^ 53 ≤ t.at
  large = t-large t.at r n hi some t.under

  small : t.at < 2 ^ 92
  small = t-small t.at r n lo hi most t.over

  q : Rounded 72 42 t.at F (over (time_at r n) digit_period)
  q =
      subst (Rounded 72 42 t.at F) (sym (div-by binary64 (time_at r n) digit_period t.at F (2 ^ 72) (pow_pos 72) (lit< tt) t.value period-value))
      (round-at 20 1002 42 t.at F refl (lit< tt) (le_trans (lit≤ tt) (mul-le-mul_right (2 ^ 20) large)) (lt_of_lt_of_le (mul-lt-mul_of_pos_right small (pow_pos 20)) (lit≤ tt)) (lit≤ tt))

  digit-is : digit_at (time_at r n) ≡ q.at / 2 ^ 72
  unfolding digit_at
  digit-is = floor-at (over (time_at r n) digit_period) q.at (2 ^ 72) (pow_pos 72) q.value (q-small t.at q.at small q.over)

  -- past the edge the digit is d or more
  pub digit-past : (d : ℕ) → d ≤ 76 → d * r < 5 * n → d ≤ digit_at (time_at r n)
  digit-past d D h = rw digit-is ((le-div_iff_mul-le (pow_pos 72)).1 (q-ge F (2 ^ 72) d t.at q.at (2 ^ 42) (lit< tt) (lit≤ tt) (t-ge t.at r n d lo hi D h t.under) q.under))

  -- and it is so only from the edge on
  pub digit-late : (d : ℕ) → d ≤ digit_at (time_at r n) → d * r ≤ 5 * n
  digit-late d h = t-le t.at r n d hi (q-le F (2 ^ 72) d t.at q.at (2 ^ 42) (pow_pos 72) (lit≤ tt) ((le-div_iff_mul-le (pow_pos 72)).0 (rw digit-is at h)) q.over) t.over

  module _ (i : ℕ) (I : i ≤ 75) (after : i * r < 5 * n) (before : 5 * n < i * r + r) where
    inside : digit_at (time_at r n) ≡ i
    inside =
        le_antisymm (le_of_suc-le-suc (lt_of_not-le (λ (g : suc i ≤ digit_at (time_at r n)). not-le_of_lt before (le_trans (le_of_eq (sym (suc-mul i r))) (digit-late (suc i) g)))))
        (digit-past i (le_trans I (lit≤ tt)) after)

    x : Near 72 23 (i * F) (times (of_nat i) digit_period)
    x = multiple i I

    x_below : x.at ≤ t.at
    x_below =
        let h = x.over in
        let k = t-ge t.at r n i lo hi (le_trans I (lit≤ tt)) after t.under in
        omega arith

    -- t - i × 0.2
    rest : Near 72 17 (t.at - x.at) (minus (time_at r n) (times (of_nat i) digit_period))
    rest =
        let h = digit-side t.at x.at r n i lo hi I t.over t.under x.over x.under before in
        subst (Near 72 17 (t.at - x.at)) (sym (sub_at binary64 (time_at r n) (times (of_nat i) digit_period) t.at x.at (2 ^ 72) (pow_pos 72) t.value x.value x_below))
        (near 20 1002 17 (t.at - x.at) refl (lit≤ tt) (omega (arith, x_below)))

    tone-is : in_tone (time_at r n) ≡ ltb rest.at H
    unfolding in_tone
    tone-is = rw inside (lt_at (minus (time_at r n) (times (of_nat i) digit_period)) digit_tone rest.at H (2 ^ 72) (pow_pos 72) rest.value tone-value)

    sounds : 10 * n < 2 * (i * r) + r → in_tone (time_at r n) ≡ true
    sounds h =
        let k = tone-side t.at x.at r n i lo hi I t.over t.under x.over x.under h in
        tone-is ∙ lt-ltb rest.at H (omega (arith, x_below, rest.over))

    rests : 2 * (i * r) + r < 10 * n → in_tone (time_at r n) ≡ false
    rests h =
        let k = gap-side t.at x.at r n i lo hi I t.over t.under x.over x.under h in
        tone-is ∙ le-ltb rest.at H (omega (arith, x_below, rest.under))

module _ (r : ℕ) (lo : 8000 ≤ r) (hi : r ≤ 192000) (n : ℕ) (most : n ≤ 2 ^ 32) (i : ℕ) (I : i ≤ 75) where
  -- inside the tone of digit i, off its edges
  pub in-tone : i * r < 5 * n → 10 * n < (2 * i + 1) * r → (digit_at (time_at r n) ≡ i) × (in_tone (time_at r n) ≡ true)
  in-tone after middle =
      let some : 0 < n = omega arith in
      let before : 5 * n < i * r + r = omega arith in
      (inside r lo hi n some most i I after before, sounds r lo hi n some most i I after before (omega arith))

  -- inside the gap after it
  pub in-gap : (2 * i + 1) * r < 10 * n → 5 * n < (i + 1) * r → (digit_at (time_at r n) ≡ i) × (in_tone (time_at r n) ≡ false)
  in-gap middle before =
      let some : 0 < n = omega arith in
      let after : i * r < 5 * n = omega arith in
      let next : 5 * n < i * r + r = omega arith in
      (inside r lo hi n some most i I after next, rests r lo hi n some most i I after next (omega arith))
