-- Narrowing is IEEE 754's rounding to binary32. The pattern that the code puts together, `narrow_bits`, is that of the rounded value,
-- and in the normal range one sum makes it. Assumes nothing.
use mathlib.Core.Path.{◌≡◌, refl, sym, ap, ◌∙◌, subst}
use mathlib.Core.Logic.{◌⊎◌, inl, inr}
use mathlib.Core.Bool.{Bool, true, false, not, cond}
use Prim.Native.Nat.{ℕ, zero, suc, ◌+◌, ◌-◌, ◌*◌, ◌/◌, ◌%◌, ◌^◌, ◌≤◌, ◌<◌, compare, Ordering}
use native.Mathlib.Nat.{sub-eq-zero_of_le, le_trans, le_of_eq, le_of_suc-le-suc, not-le_of_lt, eq-or-lt_of_le, mod-lt, lt_of_lt_of_le, lt_of_le_of_lt, zero-lt-suc, mul-pos, mul_comm, mul_assoc, mul_left_comm, mul_right_comm, mul-one, zero-add, mul-le-mul, mul-le-mul_right, mul-lt-mul_of_pos_right, le-div_iff_mul-le, div-lt_iff_lt-mul, div-eq_of_lt, mod-eq_of_lt, div-add-mod'}
use native.Mathlib.Omega.{arith}
use lib.Dec.{T, leb, ltb, leb→le, nleb→lt, lit<, lit≤}
use lib.Arith.{le→nltb}
use lib.Pow.{pow-add, pow_pos, pow_mono, shl_lt}
use lib.Ieee.{Float, nan, inf, fin, binary32, binary64, up, down, size, units, round, to_bits, of_bits, of_fields, fits, is_nan, nan_bits}
use lib.Ieee.Bits.{of_bits-to_bits, nan_bits_above}
use lib.Ieee.Digits.{size-le}
use lib.Ieee.Fits.{round_is, round-fits, down_pos, nearest-le}
use lib.Ieee.Exact.{HasValue, units_val}
use lib.Ieee.Nearest.{closest, closest_same, nearest-ge}
use lib.Ieee.Scale.{round_same}
use borrow.Author.Tests.{le-leb, lt-ltb, le-ltb}
use Rattle.math.specs.Float as float
use Rattle.math.specs.Narrow.{narrowed}
use Rattle.math.specs.Steps.{narrow_bits}
use Rattle.math.proofs.Tests.{Compared, compared, closest-down, closest-tie, closest-up}
use Rattle.math.proofs.Values.{below-same}
use Rattle.math.proofs.Pattern.{pattern, size_is, magnitude, significand-lo, significand-hi, fields_value, ones-are, by-fields, is-nan}

-- ---- `round binary32` of w / c, where the digits that it drops are known
kept_at : (s : Bool) (w c k q : ℕ) → size (w * 2 ^ 149 / c) - 24 ≡ k → closest (w * 2 ^ 149) (c * 2 ^ k) ≡ q → round binary32 s w c ≡ units binary32 s q k
kept_at s w c k q e h =
    round_is binary32 s w c
    ∙ ap (λ (z : ℕ). units binary32 s (closest (w * 2 ^ 149) (c * 2 ^ z)) z) e
    ∙ ap (λ (z : ℕ). units binary32 s z k) h

-- normal results: the value is (2 ^ 52 + t) * 2 ^ j / 2 ^ 178
up-lo : (x y : ℕ) → 2 ^ 52 * x ≤ y → 2 ^ 23 * x * 2 ^ 178 ≤ y * 2 ^ 149
up-lo x y h = le_trans (le_of_eq (mul_right_comm (2 ^ 23) x (2 ^ 178) ∙ sym (mul_right_comm (2 ^ 52) x (2 ^ 149)))) (mul-le-mul_right (2 ^ 149) h)

up-hi : (x y : ℕ) → y < 2 ^ 53 * x → y * 2 ^ 149 < 2 ^ 24 * x * 2 ^ 178
up-hi x y h = lt_of_lt_of_le (mul-lt-mul_of_pos_right h (pow_pos 149)) (le_of_eq (mul_right_comm (2 ^ 53) x (2 ^ 149) ∙ sym (mul_right_comm (2 ^ 24) x (2 ^ 178))))

up_same : (y : ℕ) → y * 2 ^ 149 * 2 ^ 29 ≡ y * 2 ^ 178
up_same y = mul_assoc y (2 ^ 149) (2 ^ 29)

normal : (s : Bool) (g j : ℕ) → 2 ^ 52 ≤ g → g < 2 ^ 53 → round binary32 s (g * 2 ^ j) (2 ^ 178) ≡ units binary32 s (closest g (2 ^ 29)) j
normal s g j lo hi =
    let n = g * 2 ^ j * 2 ^ 149 in
    let a : 2 ^ (23 + j) * 2 ^ 178 ≤ n = subst (λ (z : ℕ). z * 2 ^ 178 ≤ n) (sym (pow-add 2 23 j)) (up-lo (2 ^ j) (g * 2 ^ j) (mul-le-mul_right (2 ^ j) lo)) in
    let b : n < 2 ^ suc (23 + j) * 2 ^ 178 = subst (λ (z : ℕ). n < z * 2 ^ 178) (sym (pow-add 2 24 j) ∙ ap (λ (z : ℕ). 2 ^ z) (omega arith)) (up-hi (2 ^ j) (g * 2 ^ j) (mul-lt-mul_of_pos_right hi (pow_pos j))) in
    kept_at s (g * 2 ^ j) (2 ^ 178) j (closest g (2 ^ 29))
    (omega (arith, size_is (n / 2 ^ 178) (23 + j) ((le-div_iff_mul-le (pow_pos 178)).1 a) ((div-lt_iff_lt-mul (pow_pos 178)).1 b)))
    (closest_same n (2 ^ 178 * 2 ^ j) g (2 ^ 29) (mul-pos (pow_pos 178) (pow_pos j)) (pow_pos 29) (up_same (g * 2 ^ j) ∙ mul_assoc g (2 ^ j) (2 ^ 178) ∙ ap (λ (z : ℕ). g * z) (mul_comm (2 ^ j) (2 ^ 178))))

-- subnormal results: the value is g / 2 ^ (149 + i), with i at least 30
below_one : (s : Bool) (g i : ℕ) → g < 2 ^ (24 + i) → round binary32 s g (2 ^ (149 + i)) ≡ units binary32 s (closest g (2 ^ i)) 0
below_one s g i h =
    let n = g * 2 ^ 149 in
    let c = 2 ^ (149 + i) in
    let b : n < 2 ^ 24 * c =
    subst (λ (z : ℕ). n < z) (sym (pow-add 2 (24 + i) 149) ∙ ap (λ (z : ℕ). 2 ^ z) (omega arith) ∙ pow-add 2 24 (149 + i)) (mul-lt-mul_of_pos_right h (pow_pos 149)) in
    kept_at s g c 0 (closest g (2 ^ i))
    (sub-eq-zero_of_le (size-le (n / c) 24 ((div-lt_iff_lt-mul (pow_pos (149 + i))).1 b)))
    (closest_same n (c * 2 ^ 0) g (2 ^ i) (mul-pos (pow_pos (149 + i)) (pow_pos 0)) (pow_pos i)
    (mul_assoc g (2 ^ 149) (2 ^ i) ∙ ap (λ (z : ℕ). g * z) (sym (pow-add 2 149 i) ∙ sym (mul-one c))))

-- nothing is left of a value below a half unit
under-half : (g c : ℕ) → g * 2 < c → closest g c ≡ 0
under-half g c h = sym (closest-down g c (subst (λ (z : ℕ). z * 2 < c) (sym (mod-eq_of_lt (less g c h))) h)) ∙ div-eq_of_lt (less g c h)
  where
    less : (g c : ℕ) → g * 2 < c → g < c
    less g c h = omega arith

-- ---- the value's own fraction is g * 2 ^ x / 2 ^ 1074, from its fields
to-normal : (s : Bool) (g j : ℕ) → 2 ^ 52 ≤ g → g < 2 ^ 53 → round binary32 s (g * 2 ^ (896 + j)) (2 ^ 1074) ≡ units binary32 s (closest g (2 ^ 29)) j
to-normal s g j lo hi =
    round_same binary32 s (g * 2 ^ (896 + j)) (2 ^ 1074) (g * 2 ^ j) (2 ^ 178) (pow_pos 1074) (pow_pos 178)
    (ap (λ (z : ℕ). g * z * 2 ^ 178) (pow-add 2 896 j) ∙ ap (λ (z : ℕ). z * 2 ^ 178) (mul_left_comm g (2 ^ 896) (2 ^ j) ∙ mul_comm (2 ^ 896) (g * 2 ^ j)) ∙ mul_assoc (g * 2 ^ j) (2 ^ 896) (2 ^ 178))
    ∙ normal s g j lo hi

-- x + 1 is the exponent's field, and x + i is 925
to_below : (s : Bool) (g x i : ℕ) → x + i ≡ 925 → g < 2 ^ (24 + i) → round binary32 s (g * 2 ^ x) (2 ^ 1074) ≡ units binary32 s (closest g (2 ^ i)) 0
to_below s g x i e h =
    round_same binary32 s (g * 2 ^ x) (2 ^ 1074) g (2 ^ (149 + i)) (pow_pos 1074) (pow_pos (149 + i))
    (mul_assoc g (2 ^ x) (2 ^ (149 + i)) ∙ ap (λ (z : ℕ). g * z) (sym (pow-add 2 x (149 + i)) ∙ ap (λ (z : ℕ). 2 ^ z) (sum x i e)))
    ∙ below_one s g i h
  where
    sum : (x i : ℕ) → x + i ≡ 925 → x + (149 + i) ≡ 1074
    sum x i e = omega arith

to_none : (s : Bool) (w : ℕ) → w < 2 ^ 924 → round binary32 s w (2 ^ 1074) ≡ units binary32 s 0 0
to_none s w h = below_one s w 925 (lt_of_lt_of_le h (lit≤ tt)) ∙ ap (λ (z : ℕ). units binary32 s z 0) (under-half w (2 ^ 925) (mul-lt-mul_of_pos_right h (zero-lt-suc 1)))

-- ---- from the units to the pattern
back : (s : Bool) (w q k : ℕ) → round binary32 s w (2 ^ 1074) ≡ units binary32 s q k → q ≤ 2 ^ 24 → (k ≡ 0) ⊎ (2 ^ 23 ≤ q) → k ≤ 126
    → of_bits binary32 (cond s (2 ^ 31) 0 + (k * 2 ^ 23 + q)) ≡ round binary32 s w (2 ^ 1074)
back s w q k e h c l =
    let r = round binary32 s w (2 ^ 1074) in
    let fine : q * 2 ^ k < 2 ^ 277 = lt_of_le_of_lt (mul-le-mul h (pow_mono l)) (lit< tt) in
    let v : HasValue r s (q * 2 ^ k) (2 ^ 149) = subst (λ (z : Float). HasValue z s (q * 2 ^ k) (2 ^ 149)) (sym e) (units_val binary32 s q k fine) in
    sym (ap (of_bits binary32) (pattern binary32 r s q k v h c)) ∙ of_bits-to_bits binary32 r (round-fits binary32 s w (2 ^ 1074))

-- ---- the digits kept
digits-lo : (g : ℕ) → 2 ^ 52 ≤ g → 2 ^ 23 ≤ closest g (2 ^ 29)
digits-lo g h = le_trans ((le-div_iff_mul-le (pow_pos 29)).1 h) (nearest-ge (g / 2 ^ 29) (compare (g % 2 ^ 29 * 2) (2 ^ 29)))

digits-hi : (g i : ℕ) → g < 2 ^ (24 + i) → closest g (2 ^ i) ≤ 2 ^ 24
digits-hi g i h =
    le_trans (nearest-le (g / 2 ^ i) (compare (g % 2 ^ i * 2) (2 ^ i)))
    ((div-lt_iff_lt-mul (pow_pos i)).1 (subst (λ (z : ℕ). g < z) (pow-add 2 24 i) h))

narrow_bits-is : (s : Bool) (e t : ℕ) → e < 1024 → t < 2 ^ 52 → of_bits binary32 (cond s (2 ^ 31) 0 + narrow_bits e t) ≡ round binary32 s (magnitude e t) (2 ^ 1074)
unfolding narrow_bits
narrow_bits-is s zero t E H = back s t 0 0 (to_none s t (lt_of_lt_of_le H (lit≤ tt))) (lit≤ tt) (inl refl) (lit≤ tt)
narrow_bits-is s (suc x) t E H = go (leb 897 (suc x)) (leb→le 897 (suc x)) (nleb→lt 897 (suc x)) (leb 873 (suc x)) (leb→le 873 (suc x)) (nleb→lt 873 (suc x))
  where
    g : ℕ
    g = 2 ^ 52 + t

    wide : (x : ℕ) → suc x < 897 → 53 ≤ 24 + (926 - suc x)
    wide x h = omega arith

    tiny : (x : ℕ) → suc x < 873 → 53 + x ≤ 924
    tiny x h = omega arith

    go : (a : Bool) → (T a → 897 ≤ suc x) → (T (not a) → suc x < 897) → (b : Bool) → (T b → 873 ≤ suc x) → (T (not b) → suc x < 873)
        → of_bits binary32 (cond s (2 ^ 31) 0 + cond a ((suc x - 897) * 2 ^ 23 + closest (2 ^ 52 + t) (2 ^ 29)) (cond b (closest (2 ^ 52 + t) (2 ^ (926 - suc x))) 0)) ≡ round binary32 s ((2 ^ 52 + t) * 2 ^ x) (2 ^ 1074)
    go true A A' b B B' =
        back s (g * 2 ^ x) (closest g (2 ^ 29)) (suc x - 897)
        (subst (λ (z : ℕ). round binary32 s (g * 2 ^ z) (2 ^ 1074) ≡ units binary32 s (closest g (2 ^ 29)) (suc x - 897)) (omega (arith, A tt)) (to-normal s g (suc x - 897) (significand-lo t) (significand-hi t H)))
        (digits-hi g 29 (significand-hi t H)) (inr (digits-lo g (significand-lo t))) (omega arith)
    go false A A' true B B' =
        let i = 926 - suc x in
        let small : g < 2 ^ (24 + i) = lt_of_lt_of_le (significand-hi t H) (pow_mono (wide x (A' tt))) in
        ap (λ (z : ℕ). of_bits binary32 (cond s (2 ^ 31) 0 + z)) (sym (zero-add (closest g (2 ^ i))))
        ∙ back s (g * 2 ^ x) (closest g (2 ^ i)) 0 (to_below s g x i (omega (arith, A' tt)) small) (digits-hi g i small) (inl refl) (lit≤ tt)
    go false A A' false B B' =
        back s (g * 2 ^ x) 0 0
        (to_none s (g * 2 ^ x) (lt_of_lt_of_le (shl_lt 53 x (significand-hi t H)) (pow_mono (tiny x (B' tt)))))
        (lit≤ tt) (inl refl) (lit≤ tt)

-- ---- the pattern is no NaN's
pub narrow_bits-le : (e t : ℕ) → e < 1024 → t < 2 ^ 52 → narrow_bits e t ≤ 2 ^ 30
unfolding narrow_bits
narrow_bits-le e t E H = go (leb 897 e) (nleb→lt 897 e) (leb 873 e)
  where
    more : (q : ℕ) → q ≤ 2 ^ 24 → q ≤ 2 ^ 30
    more q k = omega arith

    wide : (e : ℕ) → e < 897 → 53 ≤ 24 + (926 - e)
    wide e h = omega arith

    go : (a : Bool) → (T (not a) → e < 897) → (b : Bool) → cond a ((e - 897) * 2 ^ 23 + closest (2 ^ 52 + t) (2 ^ 29)) (cond b (closest (2 ^ 52 + t) (2 ^ (926 - e))) 0) ≤ 2 ^ 30
    go true A b = omega (arith, digits-hi (2 ^ 52 + t) 29 (significand-hi t H))
    go false A true = more (closest (2 ^ 52 + t) (2 ^ (926 - e))) (digits-hi (2 ^ 52 + t) (926 - e) (lt_of_lt_of_le (significand-hi t H) (pow_mono (wide e (A tt)))))
    go false A false = lit≤ tt

pub narrow_bits-no-nan : (s : Bool) (e t : ℕ) → e < 1024 → t < 2 ^ 52 → T (not (nan_bits binary32 (cond s (2 ^ 31) 0 + narrow_bits e t)))
narrow_bits-no-nan s e t E H = subst (λ (b : Bool). T (not b)) (sym (nan_bits_above binary32 (cond s (2 ^ 31) 0 + narrow_bits e t))) (le→nltb (255 * 2 ^ 23) ((cond s (2 ^ 31) 0 + narrow_bits e t) % 2 ^ 31) (low_part s (narrow_bits e t) (narrow_bits-le e t E H)))
  where
    low_part : (s : Bool) (q : ℕ) → q ≤ 2 ^ 30 → (cond s (2 ^ 31) 0 + q) % 2 ^ 31 ≤ 255 * 2 ^ 23
    low_part true q h = omega arith
    low_part false q h = omega arith

-- ---- `narrowed` by any fraction that the value equals
narrowed_at : (v : Float) (s : Bool) (a c : ℕ) → 0 < c → HasValue v s a c → narrowed v ≡ cond (ltb a (2 * c)) (round binary32 s a c) float.zero
unfolding narrowed
narrowed_at nan s a c C h = absurd h
narrowed_at (inf t) s a c C h = absurd h
narrowed_at (fin t m e) s a c C h =
    ap (λ (b : Bool). cond b (round binary32 t (m * up e) (down e)) float.zero)
    (below-same 2 (m * up e) (down e) a c (down_pos e) C h.1)
    ∙ ap (λ (b : Bool). cond (ltb a (2 * c)) (round binary32 b (m * up e) (down e)) float.zero) h.0
    ∙ ap (λ (x : Float). cond (ltb a (2 * c)) x float.zero) (round_same binary32 s (m * up e) (down e) a c (down_pos e) C h.1)

-- not finite: a field of all ones
fields-none : (s : Bool) (t : ℕ) → narrowed (of_fields binary64 s 2047 t) ≡ float.zero
unfolding narrowed
fields-none s t = elim (ones-are s t) [ inl e ↦ ap narrowed e | inr e ↦ ap narrowed e ]

-- ---- the law of the function, over the pattern b of a value
from_fields : (s : Bool) (e t : ℕ) → e < 1024 → t < 2 ^ 52 → narrowed (of_fields binary64 s e t) ≡ of_bits binary32 (cond s (2 ^ 31) 0 + narrow_bits e t)
from_fields s e t E H =
    narrowed_at (of_fields binary64 s e t) s (magnitude e t) (2 ^ 1074) (pow_pos 1074) (fields_value s e t (lt_of_lt_of_le E (lit≤ tt)))
    ∙ ap (λ (b : Bool). cond b (round binary32 s (magnitude e t) (2 ^ 1074)) float.zero) (lt-ltb _ _ (small e t E H))
    ∙ sym (narrow_bits-is s e t E H)
  where
    less : (x : ℕ) → suc x < 1024 → 53 + x ≤ 1075
    less x h = omega arith

    small : (e t : ℕ) → e < 1024 → t < 2 ^ 52 → magnitude e t < 2 * 2 ^ 1074
    small zero t E H = lt_of_lt_of_le H (lit≤ tt)
    small (suc x) t E H = lt_of_lt_of_le (shl_lt 53 x (significand-hi t H)) (pow_mono (less x E))

from-large : (s : Bool) (e t : ℕ) → 1024 ≤ e → e < 2048 → narrowed (of_fields binary64 s e t) ≡ float.zero
from-large s e t E H = go (eq-or-lt_of_le (le_of_suc-le-suc H))
  where
    big : (e t : ℕ) → 1024 ≤ e → 2 * 2 ^ 1074 ≤ magnitude e t
    big zero t h = absurd (not-le_of_lt (lit< tt) h)
    big (suc x) t h = mul-le-mul (significand-lo t) (pow_mono (le_of_suc-le-suc h))

    go : (e ≡ 2047) ⊎ (e < 2047) → narrowed (of_fields binary64 s e t) ≡ float.zero
    go (inl q) = subst (λ (z : ℕ). narrowed (of_fields binary64 s z t) ≡ float.zero) (sym q) (fields-none s t)
    go (inr l) =
        narrowed_at (of_fields binary64 s e t) s (magnitude e t) (2 ^ 1074) (pow_pos 1074) (fields_value s e t l)
        ∙ ap (λ (b : Bool). cond b (round binary32 s (magnitude e t) (2 ^ 1074)) float.zero) (le-ltb _ _ (big e t E))

pub narrow-small : (x : Float) → T (fits binary64 x) → to_bits binary64 x % 2 ^ 63 / 2 ^ 52 < 1024
    → of_bits binary32 (cond (leb (2 ^ 63) (to_bits binary64 x)) (2 ^ 31) 0 + narrow_bits (to_bits binary64 x % 2 ^ 63 / 2 ^ 52) (to_bits binary64 x % 2 ^ 52)) ≡ narrowed x
narrow-small x h e =
    let b = to_bits binary64 x in
    sym (from_fields (leb (2 ^ 63) b) (b % 2 ^ 63 / 2 ^ 52) (b % 2 ^ 52) e (mod-lt b (pow_pos 52))) ∙ ap narrowed (by-fields x h)

pub narrow-large : (x : Float) → T (fits binary64 x) → 1024 ≤ to_bits binary64 x % 2 ^ 63 / 2 ^ 52 → float.zero ≡ narrowed x
narrow-large x h e =
    let b = to_bits binary64 x in
    sym (from-large (leb (2 ^ 63) b) (b % 2 ^ 63 / 2 ^ 52) (b % 2 ^ 52) e ((div-lt_iff_lt-mul (pow_pos 52)).1 (mod-lt b (pow_pos 63)))) ∙ ap narrowed (by-fields x h)

narrowed-nan : float.zero ≡ narrowed nan
unfolding narrowed
narrowed-nan = refl

pub narrow-nan : (x : Float) → is_nan x ≡ true → float.zero ≡ narrowed x
narrow-nan x e = narrowed-nan ∙ ap narrowed (sym (is-nan x e))

pub sign_le : (b : Bool) → cond b (2 ^ 31) 0 ≤ 2 ^ 31
sign_le true = lit≤ tt
sign_le false = lit≤ tt

-- 0.0 by its pattern
pub zero-narrow : of_bits binary32 0 ≡ float.zero
unfolding of_bits
zero-narrow = refl

-- ---- the sum
-- rounding to a multiple of 2 ^ 29, a tie to the even one, by one sum
rounds : (g : ℕ) → (g + (2 ^ 28 - 1) + g / 2 ^ 29 % 2) / 2 ^ 29 ≡ closest g (2 ^ 29)
rounds g = go (compare (g % 2 ^ 29 * 2) (2 ^ 29)) (compared (g % 2 ^ 29 * 2) (2 ^ 29))
  where
    go : (o : Ordering) → Compared o (g % 2 ^ 29 * 2) (2 ^ 29) → (g + (2 ^ 28 - 1) + g / 2 ^ 29 % 2) / 2 ^ 29 ≡ closest g (2 ^ 29)
    go Ordering.lt h = omega arith ∙ closest-down g (2 ^ 29) h
    go Ordering.eq h = omega arith ∙ closest-tie g (2 ^ 29) h
    go Ordering.gt h = omega arith ∙ closest-up g (2 ^ 29) h

-- the pattern of a result in the normal range, from the pattern m of the value without its sign
pub narrow_bits-normal : (m : ℕ) → 897 * 2 ^ 52 ≤ m → (m - 0x37ff_ffff_f000_0001 + m / 2 ^ 29 % 2) / 2 ^ 29 ≡ narrow_bits (m / 2 ^ 52) (m % 2 ^ 52)
unfolding narrow_bits
narrow_bits-normal m h = rw (le-leb _ _ (field m h), ← rounds (2 ^ 52 + m % 2 ^ 52)) (same m h)
  where
    field : (m : ℕ) → 897 * 2 ^ 52 ≤ m → 897 ≤ m / 2 ^ 52
    field m h = omega arith

    odd : (m : ℕ) → m / 2 ^ 29 % 2 ≡ (2 ^ 52 + m % 2 ^ 52) / 2 ^ 29 % 2
    odd m = subst (λ (z : ℕ). z / 2 ^ 29 % 2 ≡ (2 ^ 52 + m % 2 ^ 52) / 2 ^ 29 % 2) (div-add-mod' m (2 ^ 52)) (omega arith)

    parts : (m o : ℕ) → 897 * 2 ^ 52 ≤ m → m - 0x37ff_ffff_f000_0001 + o ≡ (m / 2 ^ 52 - 897) * 2 ^ 23 * 2 ^ 29 + (2 ^ 52 + m % 2 ^ 52 + (2 ^ 28 - 1) + o)
    parts m o h = omega arith

    same : (m : ℕ) → 897 * 2 ^ 52 ≤ m → (m - 0x37ff_ffff_f000_0001 + m / 2 ^ 29 % 2) / 2 ^ 29 ≡ (m / 2 ^ 52 - 897) * 2 ^ 23 + (2 ^ 52 + m % 2 ^ 52 + (2 ^ 28 - 1) + (2 ^ 52 + m % 2 ^ 52) / 2 ^ 29 % 2) / 2 ^ 29
    same m h =
        ap (λ (z : ℕ). (m - 0x37ff_ffff_f000_0001 + z) / 2 ^ 29) (odd m)
        ∙ ap (λ (z : ℕ). z / 2 ^ 29) (parts m ((2 ^ 52 + m % 2 ^ 52) / 2 ^ 29 % 2) h)
        ∙ omega arith

-- below 2, by the pattern m without its sign
pub field-small : (m : ℕ) → m < 2 ^ 62 → m / 2 ^ 52 < 1024
field-small m h = omega arith

pub field-large : (m : ℕ) → 2 ^ 62 ≤ m → 1024 ≤ m / 2 ^ 52
field-large m h = omega arith

-- the digits are the pattern's, with the sign or without
pub low-digits : (b : ℕ) → b % 2 ^ 63 % 2 ^ 52 ≡ b % 2 ^ 52
low-digits b = omega arith
