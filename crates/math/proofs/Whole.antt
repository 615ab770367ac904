-- Floor and half-away rounding. Equal fractions have the same whole parts, so any fraction that a value equals gives them;
-- the code has twice the value, cut, from the value's pattern, and halves it. Assumes nothing.
use mathlib.Core.Path.{◌≡◌, refl, sym, ap, ◌∙◌}
use mathlib.Core.Logic.{◌⊎◌, inl, inr}
use mathlib.Core.Bool.{Bool, true, false, cond}
use Prim.Native.Nat.{ℕ, zero, suc, ◌+◌, ◌-◌, ◌*◌, ◌/◌, ◌%◌, ◌^◌, ◌≤◌, ◌<◌}
use native.Mathlib.Nat.{le_trans, le_of_eq, le_of_lt, mod-eq_of_lt, le_of_suc-le-suc, lt_of_lt_of_le, not-le_of_lt, eq-or-lt_of_le, mul_comm, mul_assoc, mul_left_comm, mul-le-mul, mul-lt-mul_of_pos_left, div-eq_of_lt, div-lt_iff_lt-mul, div-div-eq-div-mul, mul-div-mul_left, add-div_right, mod-lt, mul-pos, zero-lt-suc, add-mul, mul-mul-mul_comm}
use native.Mathlib.Omega.{arith}
use lib.Dec.{T, ltb, ltb→lt, lit<, lit≤}
use lib.Pow.{pow-add, pow_pos, pow_mono, shl_lt}
use lib.Ieee.{Float, nan, inf, fin, binary64, up, down, of_fields, to_bits, fits, is_nan}
use lib.Ieee.Fits.{down_pos}
use lib.Ieee.Exact.{HasValue}
use lib.Ieee.Nearest.{div_same}
use borrow.Author.Tests.{le-leb, lt-leb, lt-ltb, le-ltb}
use Rattle.math.specs.Whole.{whole_by, floor_of, round_of}
use Rattle.math.specs.Steps.{twice}
use Rattle.math.proofs.Values.{below-same}
use Rattle.math.proofs.Pattern.{magnitude, significand-lo, significand-hi, fields_value, ones-are, by-fields, is-nan}

-- ---- by any fraction that the value equals
-- `of` gives the same of equal fractions
abbrev Steady : (ℕ → ℕ → ℕ) → Type 0
Steady of = (x d a c : ℕ) → 0 < d → 0 < c → x * c ≡ a * d → of x d ≡ of a c

whole-at : (of : ℕ → ℕ → ℕ) → Steady of → (v : Float) (s : Bool) (a c : ℕ) → 0 < c → HasValue v s a c → whole_by of v ≡ cond s 0 (cond (ltb a (2 ^ 51 * c)) (of a c) 0)
whole-at of same nan s a c C h = absurd h
whole-at of same (inf t) s a c C h = absurd h
whole-at of same (fin t m e) s a c C h =
    ap (λ (b : Bool). cond b 0 (cond (ltb (m * up e) (2 ^ 51 * down e)) (of (m * up e) (down e)) 0)) h.0
    ∙ ap (λ (b : Bool). cond s 0 (cond b (of (m * up e) (down e)) 0))
    (below-same (2 ^ 51) (m * up e) (down e) a c (down_pos e) C h.1)
    ∙ ap (λ (z : ℕ). cond s 0 (cond (ltb a (2 ^ 51 * c)) z 0)) (same (m * up e) (down e) a c (down_pos e) C h.1)

in-range : (of : ℕ → ℕ → ℕ) → Steady of → (v : Float) (a c : ℕ) → 0 < c → HasValue v false a c → a < 2 ^ 51 * c → whole_by of v ≡ of a c
in-range of same v a c C h l = whole-at of same v false a c C h ∙ ap (λ (b : Bool). cond b (of a c) 0) (lt-ltb _ _ l)

pub floor-at : (v : Float) (a c : ℕ) → 0 < c → HasValue v false a c → a < 2 ^ 51 * c → floor_of v ≡ a / c
unfolding floor_of
floor-at = in-range (λ n d. n / d) div_same

pub half_at : (v : Float) (a c : ℕ) → 0 < c → HasValue v false a c → a < 2 ^ 51 * c → round_of v ≡ (2 * a + c) / (2 * c)
unfolding round_of
half_at = in-range (λ n d. (2 * n + d) / (2 * d)) same
  where
    same : Steady (λ n d. (2 * n + d) / (2 * d))
    same x d a c D C e =
        div_same (2 * x + d) (2 * d) (2 * a + c) (2 * c) (mul-pos (zero-lt-suc 1) D) (mul-pos (zero-lt-suc 1) C)
        (add-mul (2 * x) d (2 * c)
        ∙ ap (λ (z : ℕ). z + d * (2 * c)) (mul-mul-mul_comm 2 x 2 c ∙ ap (λ (z : ℕ). 2 * 2 * z) e ∙ sym (mul-mul-mul_comm 2 a 2 d))
        ∙ ap (λ (z : ℕ). 2 * a * (2 * d) + z) (mul_left_comm d 2 c ∙ ap (λ (z : ℕ). 2 * z) (mul_comm d c) ∙ mul_left_comm 2 c d)
        ∙ sym (add-mul (2 * a) c (2 * d)))

twice-at : (v : Float) (s : Bool) (a c : ℕ) → 0 < c → HasValue v s a c → twice v ≡ cond s 0 (cond (ltb a (2 ^ 51 * c)) (2 * a / c) 0)
unfolding twice
twice-at = whole-at (λ n d. 2 * n / d) (λ x d a c D C e. div_same (2 * x) d (2 * a) c D C (mul_assoc 2 x c ∙ ap (λ (z : ℕ). 2 * z) e ∙ sym (mul_assoc 2 a d)))

-- ---- from `twice`
halved : (f : ℕ → ℕ) (of to : ℕ → ℕ → ℕ) → f 0 ≡ 0 → ((n d : ℕ) → 0 < d → f (of n d) ≡ to n d) → (x : Float) → f (whole_by of x) ≡ whole_by to x
halved f of to z h nan = z
halved f of to z h (inf s) = z
halved f of to z h (fin true m e) = z
halved f of to z h (fin false m e) = go (ltb (m * up e) (2 ^ 51 * down e))
  where
    go : (b : Bool) → f (cond b (of (m * up e) (down e)) 0) ≡ cond b (to (m * up e) (down e)) 0
    go true = h (m * up e) (down e) (down_pos e)
    go false = z

pub twice-floor : (x : Float) → twice x / 2 ≡ floor_of x
unfolding twice floor_of
twice-floor =
    halved (λ (z : ℕ). z / 2) (λ n d. 2 * n / d) (λ n d. n / d) refl
    (λ n d D. div-div-eq-div-mul (2 * n) d 2 ∙ ap (λ (z : ℕ). 2 * n / z) (mul_comm d 2) ∙ mul-div-mul_left n d (zero-lt-suc 1))

pub twice-round : (x : Float) → (twice x + 1) / 2 ≡ round_of x
unfolding twice round_of
twice-round =
    halved (λ (z : ℕ). (z + 1) / 2) (λ n d. 2 * n / d) (λ n d. (2 * n + d) / (2 * d)) refl
    (λ n d D. ap (λ (z : ℕ). z / 2) (sym (add-div_right (2 * n) D)) ∙ div-div-eq-div-mul (2 * n + d) d 2 ∙ ap (λ (z : ℕ). (2 * n + d) / z) (mul_comm d 2))

-- ---- from the fields
-- below a half
small : (e t : ℕ) → t < 2 ^ 52 → e < 1022 → twice (of_fields binary64 false e t) ≡ 0
small e t H E =
    twice-at (of_fields binary64 false e t) false (magnitude e t) (2 ^ 1074) (pow_pos 1074) (fields_value false e t (lt_of_lt_of_le E (lit≤ tt)))
    ∙ rw (lt-ltb _ _ (lt_of_lt_of_le (tiny e t H E) (lit≤ tt)), div-eq_of_lt (mul-lt-mul_of_pos_left (tiny e t H E) (zero-lt-suc 1)))
  where
    room : (x : ℕ) → suc x < 1022 → 53 + x ≤ 1073
    room x h = omega arith

    tiny : (e t : ℕ) → t < 2 ^ 52 → e < 1022 → magnitude e t < 2 ^ 1073
    tiny zero t H E = lt_of_lt_of_le H (lit≤ tt)
    tiny (suc x) t H E = lt_of_lt_of_le (shl_lt 53 x (significand-hi t H)) (pow_mono (room x E))

middle : (e t : ℕ) → t < 2 ^ 52 → 1022 ≤ e → e < 1074 → twice (of_fields binary64 false e t) ≡ (2 ^ 52 + t) / 2 ^ (1074 - e)
middle zero t H L E = absurd (not-le_of_lt (lit< tt) L)
middle (suc x) t H L E =
    twice-at (of_fields binary64 false (suc x) t) false ((2 ^ 52 + t) * 2 ^ x) (2 ^ 1074) (pow_pos 1074) (fields_value false (suc x) t (lt_of_lt_of_le E (lit≤ tt)))
    ∙ rw (lt-ltb _ _ (lt_of_lt_of_le (shl_lt 53 x (significand-hi t H)) (le_trans (pow_mono (room x E)) (le_of_eq (pow-add 2 51 1074)))))
    (div_same (2 * ((2 ^ 52 + t) * 2 ^ x)) (2 ^ 1074) (2 ^ 52 + t) (2 ^ (1074 - suc x)) (pow_pos 1074) (pow_pos (1074 - suc x))
    (ap (λ (z : ℕ). z * 2 ^ (1074 - suc x)) (mul_left_comm 2 (2 ^ 52 + t) (2 ^ x)) ∙ mul_assoc (2 ^ 52 + t) (2 * 2 ^ x) (2 ^ (1074 - suc x)) ∙ ap (λ (z : ℕ). (2 ^ 52 + t) * z) (ap (λ (z : ℕ). z * 2 ^ (1074 - suc x)) (sym (pow-add 2 1 x)) ∙ sym (pow-add 2 (1 + x) (1074 - suc x)) ∙ ap (λ (z : ℕ). 2 ^ z) (whole x E))))
  where
    room : (x : ℕ) → suc x < 1074 → 53 + x ≤ 51 + 1074
    room x h = omega arith

    whole : (x : ℕ) → suc x < 1074 → 1 + x + (1074 - suc x) ≡ 1074
    whole x h = omega arith

-- neither finite
ones_none : (s : Bool) (t : ℕ) → twice (of_fields binary64 s 2047 t) ≡ 0
unfolding twice
ones_none s t = elim (ones-are s t) [ inl e ↦ ap twice e | inr e ↦ ap twice e ]

large : (e t : ℕ) → 1074 ≤ e → e < 2048 → twice (of_fields binary64 false e t) ≡ 0
large e t L E = go (eq-or-lt_of_le (le_of_suc-le-suc E))
  where
    big : (e t : ℕ) → 1074 ≤ e → 2 ^ 51 * 2 ^ 1074 ≤ magnitude e t
    big zero t h = absurd (not-le_of_lt (lit< tt) h)
    big (suc x) t h = mul-le-mul (significand-lo t) (pow_mono (le_of_suc-le-suc h))

    go : (e ≡ 2047) ⊎ (e < 2047) → twice (of_fields binary64 false e t) ≡ 0
    go (inl q) = ap (λ (z : ℕ). twice (of_fields binary64 false z t)) q ∙ ones_none false t
    go (inr l) =
        twice-at (of_fields binary64 false e t) false (magnitude e t) (2 ^ 1074) (pow_pos 1074) (fields_value false e t l)
        ∙ rw (le-ltb _ _ (big e t L))

negative : (e t : ℕ) → e < 2048 → twice (of_fields binary64 true e t) ≡ 0
negative e t E = go (eq-or-lt_of_le (le_of_suc-le-suc E))
  where
    go : (e ≡ 2047) ⊎ (e < 2047) → twice (of_fields binary64 true e t) ≡ 0
    go (inl q) = ap (λ (z : ℕ). twice (of_fields binary64 true z t)) q ∙ ones_none true t
    go (inr l) = twice-at (of_fields binary64 true e t) true (magnitude e t) (2 ^ 1074) (pow_pos 1074) (fields_value true e t l)

-- ---- by the pattern of a value that is no NaN
unsigned-field : (b : ℕ) → b < 2 ^ 63 → b % 2 ^ 63 / 2 ^ 52 ≡ b / 2 ^ 52
unsigned-field b h = ap (λ (z : ℕ). z / 2 ^ 52) (mod-eq_of_lt h)

-- its fields, with the sign clear
plain : (x : Float) → T (fits binary64 x) → to_bits binary64 x < 2 ^ 63 → of_fields binary64 false (to_bits binary64 x / 2 ^ 52) (to_bits binary64 x % 2 ^ 52) ≡ x
plain x h l =
    let b = to_bits binary64 x in
    ap (λ (z : ℕ). of_fields binary64 false z (b % 2 ^ 52)) (sym (unsigned-field b l))
    ∙ ap (λ (s : Bool). of_fields binary64 s (b % 2 ^ 63 / 2 ^ 52) (b % 2 ^ 52)) (sym (lt-leb _ _ l))
    ∙ by-fields x h

pub cut_small : (x : Float) → T (fits binary64 x) → to_bits binary64 x < 2 ^ 63 → to_bits binary64 x / 2 ^ 52 < 1022 → 0 ≡ twice x
cut_small x h l e = sym (small (to_bits binary64 x / 2 ^ 52) (to_bits binary64 x % 2 ^ 52) (mod-lt (to_bits binary64 x) (pow_pos 52)) e) ∙ ap twice (plain x h l)

pub cut-middle : (x : Float) → T (fits binary64 x) → to_bits binary64 x < 2 ^ 63 → 1022 ≤ to_bits binary64 x / 2 ^ 52 → to_bits binary64 x / 2 ^ 52 < 1074
    → (2 ^ 52 + to_bits binary64 x % 2 ^ 52) / 2 ^ (1074 - to_bits binary64 x / 2 ^ 52) ≡ twice x
cut-middle x h l d e = sym (middle (to_bits binary64 x / 2 ^ 52) (to_bits binary64 x % 2 ^ 52) (mod-lt (to_bits binary64 x) (pow_pos 52)) d e) ∙ ap twice (plain x h l)

pub cut-large : (x : Float) → T (fits binary64 x) → to_bits binary64 x < 2 ^ 63 → 1074 ≤ to_bits binary64 x / 2 ^ 52 → 0 ≡ twice x
cut-large x h l e = sym (large (to_bits binary64 x / 2 ^ 52) (to_bits binary64 x % 2 ^ 52) e ((div-lt_iff_lt-mul (pow_pos 52)).1 l)) ∙ ap twice (plain x h l)

pub cut-negative : (x : Float) → T (fits binary64 x) → 2 ^ 63 ≤ to_bits binary64 x → 0 ≡ twice x
cut-negative x h l =
    let b = to_bits binary64 x in
    sym (negative (b % 2 ^ 63 / 2 ^ 52) (b % 2 ^ 52) ((div-lt_iff_lt-mul (pow_pos 52)).1 (mod-lt b (pow_pos 63))))
    ∙ ap (λ (s : Bool). twice (of_fields binary64 s (b % 2 ^ 63 / 2 ^ 52) (b % 2 ^ 52))) (sym (le-leb _ _ l))
    ∙ ap twice (by-fields x h)

nan-gives : 0 ≡ twice nan
unfolding twice
nan-gives = refl

pub cut-nan : (x : Float) → is_nan x ≡ true → 0 ≡ twice x
cut-nan x e = nan-gives ∙ ap twice (sym (is-nan x e))

-- the results are small
pub twice-le : (x : Float) → twice x ≤ 2 ^ 52
unfolding twice
twice-le nan = lit≤ tt
twice-le (inf s) = lit≤ tt
twice-le (fin true m e) = lit≤ tt
twice-le (fin false m e) = go (ltb (m * up e) (2 ^ 51 * down e)) (ltb→lt (m * up e) (2 ^ 51 * down e))
  where
    go : (b : Bool) → (T b → m * up e < 2 ^ 51 * down e) → cond b (2 * (m * up e) / down e) 0 ≤ 2 ^ 52
    go true k = le_of_lt ((div-lt_iff_lt-mul (down_pos e)).1 (lt_of_lt_of_le (mul-lt-mul_of_pos_left (k tt) (zero-lt-suc 1)) (le_of_eq (sym (mul_assoc 2 (2 ^ 51) (down e))))))
    go false k = lit≤ tt
