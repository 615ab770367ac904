-- Bit patterns. The pattern of q * 2 ^ k units of a format is k * hid + q, with the sign's bit; a binary64 value is its sign, its exponent's field and its digits. Assumes nothing.
use mathlib.Core.Path.{◌≡◌, refl, sym, ap, ◌∙◌, subst}
use mathlib.Core.Logic.{◌⊎◌, inl, inr}
use mathlib.Core.Bool.{Bool, true, false, cond, false≢true}
use Prim.Native.Nat.{ℕ, zero, suc, ◌+◌, ◌-◌, ◌*◌, ◌/◌, ◌%◌, ◌^◌, ◌≤◌, ◌<◌}
use native.Mathlib.Nat.{sub-eq-zero_of_le, ne_of_lt, le_trans, le_of_eq, le_antisymm, le_of_suc-le-suc, lt_of_lt_of_le, lt_of_not-le, not-le_of_lt, eq-or-lt_of_le, mul-div_cancel, mul_comm, mul_assoc, mul-one, one-mul, div-one, div-lt_iff_lt-mul, pow-suc, pow-succ', mul-le-mul_right, mod-lt, add_assoc, suc-mul}
use native.Mathlib.Omega.{arith}
use lib.Pow.{pow-add, pow_pos, pow_mono, shl_lt}
use lib.Dec.{T, leb, eqb, eqb→eq, lit≤}
use lib.IntN.{ℤ, pos, negsuc}
use lib.Ieee.{Float, nan, inf, fin, Format, binary32, binary64, prec, low, up, down, size, hid, top, odd, to_bits, of_bits, of_fields, fits, is_nan}
use lib.Ieee.Bits.{of_bits-to_bits}
use lib.Ieee.Digits.{size-lt, size-le}
use lib.Ieee.Fits.{down_pos}
use lib.Ieee.Exact.{HasValue, odd_sign}
use lib.Ieee.Scale.{finite}

pub size_is : (n z : ℕ) → 2 ^ z ≤ n → n < 2 ^ suc z → size n ≡ suc z
size_is n z lo hi = le_antisymm (size-le n (suc z) hi) (lt_of_not-le (λ (g : size n ≤ z). not-le_of_lt (lt_of_lt_of_le (size-lt n) (pow_mono g)) lo))

-- the pattern of n units, the sign left out
abbrev unsigned : Format → ℕ → ℕ
unsigned f n = (size n - prec f) * hid f + n / 2 ^ (size n - prec f)

unsigned_by : (f : Format) (n k q : ℕ) → size n - prec f ≡ k → n / 2 ^ k ≡ q → unsigned f n ≡ k * hid f + q
unsigned_by f n k q e d = ap (λ (z : ℕ). z * hid f + n / 2 ^ z) e ∙ ap (λ (z : ℕ). k * hid f + z) d

prec-pos : (f : Format) → 0 < prec f
prec-pos binary32 = lit≤ tt
prec-pos binary64 = lit≤ tt

small : (f : Format) (q : ℕ) → q < 2 ^ prec f → unsigned f (q * 2 ^ 0) ≡ 0 * hid f + q
small f q h =
    ap (unsigned f) (mul-one q) ∙ unsigned_by f q 0 q (sub-eq-zero_of_le (size-le q (prec f) h)) (div-one q)

normal : (f : Format) (q k : ℕ) → hid f ≤ q → q < 2 ^ prec f → unsigned f (q * 2 ^ k) ≡ k * hid f + q
normal f q k lo hi =
    let p = prec f in
    let P = prec-pos f in
    let a : 2 ^ (p - 1 + k) ≤ q * 2 ^ k = le_trans (le_of_eq (pow-add 2 (p - 1) k)) (mul-le-mul_right (2 ^ k) lo) in
    let b : q * 2 ^ k < 2 ^ suc (p - 1 + k) = subst (λ (z : ℕ). q * 2 ^ k < 2 ^ z) (sym (omega arith)) (shl_lt p k hi) in
    unsigned_by f (q * 2 ^ k) k q (omega (arith, size_is (q * 2 ^ k) (p - 1 + k) a b)) (mul-div_cancel q (pow_pos k))

dbl : (h : ℕ) (k : ℕ) → suc k * h + h ≡ k * h + h * 2
dbl h k = ap (λ (z : ℕ). z + h) (suc-mul k h) ∙ omega arith

two-hid : (f : Format) → hid f * 2 ≡ 2 ^ prec f
two-hid binary32 = refl
two-hid binary64 = refl

two-hid-pow : (f : Format) (k : ℕ) → 2 ^ (prec f + k) ≡ hid f * 2 ^ suc k
two-hid-pow f k = pow-add 2 (prec f) k ∙ ap (λ (z : ℕ). z * 2 ^ k) (sym (two-hid f)) ∙ mul_assoc (hid f) 2 (2 ^ k) ∙ ap (λ (z : ℕ). hid f * z) (mul_comm 2 (2 ^ k) ∙ sym (pow-suc 2 k))

full : (f : Format) (k : ℕ) → unsigned f (2 ^ prec f * 2 ^ k) ≡ k * hid f + 2 ^ prec f
full f k =
    let p = prec f in
    let n = 2 ^ (p + k) in
    let P = prec-pos f in
    let e : size n ≡ suc (p + k) = size_is n (p + k) (le_of_eq refl) (pow-lt' (p + k)) in
    let d : n / 2 ^ suc k ≡ hid f = ap (λ (z : ℕ). z / 2 ^ suc k) (two-hid-pow f k) ∙ mul-div_cancel (hid f) (pow_pos (suc k)) in
    ap (unsigned f) (sym (pow-add 2 p k)) ∙ unsigned_by f n (suc k) (hid f) (omega arith) d ∙ dbl (hid f) k ∙ ap (λ (z : ℕ). k * hid f + z) (two-hid f)
  where
    pow-lt' : (j : ℕ) → 2 ^ j < 2 ^ suc j
    pow-lt' j = subst (λ (z : ℕ). 2 ^ j < z) (sym (pow-suc 2 j)) (omega (arith, pow_pos j))

units-unsigned : (f : Format) (q k : ℕ) → q ≤ 2 ^ prec f → (k ≡ 0) ⊎ (hid f ≤ q) → unsigned f (q * 2 ^ k) ≡ k * hid f + q
units-unsigned f q k h c = go (eq-or-lt_of_le h) c
  where
    go : (q ≡ 2 ^ prec f) ⊎ (q < 2 ^ prec f) → (k ≡ 0) ⊎ (hid f ≤ q) → unsigned f (q * 2 ^ k) ≡ k * hid f + q
    go (inl e) d = subst (λ (z : ℕ). unsigned f (z * 2 ^ k) ≡ k * hid f + z) (sym e) (full f k)
    go (inr l) (inl e) = subst (λ (z : ℕ). unsigned f (q * 2 ^ z) ≡ z * hid f + q) (sym e) (small f q l)
    go (inr l) (inr g) = normal f q k g l

to_bits_is : (f : Format) (s : Bool) (m : ℕ) (e : ℤ) → to_bits f (fin s m e) ≡ cond s (top f) 0 + (size (m * up e * 2 ^ low f / down e) - prec f) * hid f + m * up e * 2 ^ low f / down e / 2 ^ (size (m * up e * 2 ^ low f / down e) - prec f)
unfolding to_bits
to_bits_is f s m e = refl

pub pattern : (f : Format) (x : Float) (s : Bool) (q k : ℕ) → HasValue x s (q * 2 ^ k) (2 ^ low f) → q ≤ 2 ^ prec f → (k ≡ 0) ⊎ (hid f ≤ q)
    → to_bits f x ≡ cond s (top f) 0 + (k * hid f + q)
pattern f nan s q k v h c = absurd v
pattern f (inf t) s q k v h c = absurd v
pattern f (fin t m e) s q k v h c =
    let n = m * up e * 2 ^ low f / down e in
    let is : n ≡ q * 2 ^ k = ap (λ (z : ℕ). z / down e) v.1 ∙ mul-div_cancel (q * 2 ^ k) (down_pos e) in
    to_bits_is f t m e
    ∙ add_assoc (cond t (top f) 0) ((size n - prec f) * hid f) (n / 2 ^ (size n - prec f))
    ∙ ap (λ (b : Bool). cond b (top f) 0 + unsigned f n) v.0
    ∙ ap (λ (z : ℕ). cond s (top f) 0 + unsigned f z) is
    ∙ ap (λ (z : ℕ). cond s (top f) 0 + z) (units-unsigned f q k h c)

-- the size, in units of 2 ^ -1074, of the binary64 number with the exponent's field e and the digits t
abbrev pub magnitude : ℕ → ℕ → ℕ
magnitude zero t = t
magnitude (suc x) t = (2 ^ 52 + t) * 2 ^ x

pub significand-lo : (t : ℕ) → 2 ^ 52 ≤ 2 ^ 52 + t
significand-lo t = omega arith

pub significand-hi : (t : ℕ) → t < 2 ^ 52 → 2 ^ 52 + t < 2 ^ 53
significand-hi t h = omega arith

-- ---- a value by its fields
pub fields_value : (s : Bool) (e t : ℕ) → e < 2047 → HasValue (of_fields binary64 s e t) s (magnitude e t) (2 ^ 1074)
unfolding of_fields
fields_value s zero t h = subst (λ (z : ℕ). HasValue (odd 53 s t 0 1074) s z (2 ^ 1074)) (mul-one t) (odd_sign 53 s t 0 1074)
fields_value s (suc x) t h = go (eqb (suc x) 2047) (eqb→eq (suc x) 2047)
  where
    go : (b : Bool) → (T b → suc x ≡ 2047) → HasValue (cond b (cond (eqb t 0) (inf s) nan) (odd 53 s (2 ^ 52 + t) x 1074)) s ((2 ^ 52 + t) * 2 ^ x) (2 ^ 1074)
    go true k = absurd (ne_of_lt h (k tt))
    go false k = odd_sign 53 s (2 ^ 52 + t) x 1074

opened : (b : ℕ) → of_bits binary64 b ≡ of_fields binary64 (leb (2 ^ 63) b) (b % 2 ^ 63 / 2 ^ 52) (b % 2 ^ 52)
unfolding of_bits
opened b = refl

pub by-fields : (x : Float) → T (fits binary64 x) → of_fields binary64 (leb (2 ^ 63) (to_bits binary64 x)) (to_bits binary64 x % 2 ^ 63 / 2 ^ 52) (to_bits binary64 x % 2 ^ 52) ≡ x
by-fields x h = sym (opened (to_bits binary64 x)) ∙ of_bits-to_bits binary64 x h

-- a field of all ones
pub ones-are : (s : Bool) (t : ℕ) → (of_fields binary64 s 2047 t ≡ inf s) ⊎ (of_fields binary64 s 2047 t ≡ nan)
unfolding of_fields
ones-are s t = go (eqb t 0)
  where
    go : (b : Bool) → (cond b (inf s) nan ≡ inf s) ⊎ (cond b (inf s) nan ≡ nan)
    go true = inl refl
    go false = inr refl

ones-not-finite : (s : Bool) (t : ℕ) → T (finite (of_fields binary64 s 2047 t)) → ⊥
ones-not-finite s t h = elim (ones-are s t) [ inl e ↦ subst (λ (x : Float). T (finite x)) e h | inr e ↦ subst (λ (x : Float). T (finite x)) e h ]

-- a finite value of the format, by its fields
pub record Fields (x : Float) : Type 0 where
  pub sign : Bool
  pub e : ℕ
  pub t : ℕ
  pub digits : t < 2 ^ 52
  pub value : HasValue x sign (magnitude e t) (2 ^ 1074)

-- those fields are in its bits
pub bits-value : (x : Float) → T (fits binary64 x) → T (finite x) → HasValue x (leb (2 ^ 63) (to_bits binary64 x)) (magnitude (to_bits binary64 x % 2 ^ 63 / 2 ^ 52) (to_bits binary64 x % 2 ^ 52)) (2 ^ 1074)
bits-value x h f =
    let b = to_bits binary64 x in
    let s = leb (2 ^ 63) b in
    let e = b % 2 ^ 63 / 2 ^ 52 in
    let t = b % 2 ^ 52 in
    let is : of_fields binary64 s e t ≡ x = by-fields x h in
    let e48 : e < 2048 = (div-lt_iff_lt-mul (pow_pos 52)).1 (mod-lt b (pow_pos 63)) in
    let lt47 : e < 2047 =
    elim (eq-or-lt_of_le {n = e} {m = 2047} (le_of_suc-le-suc e48)) [
      | inl q ↦ absurd (ones-not-finite s t (subst (λ (z : ℕ). T (finite (of_fields binary64 s z t))) q (subst (λ (z : Float). T (finite z)) (sym is) f)))
      | inr l ↦ l
    ] in
    subst (λ (z : Float). HasValue z s (magnitude e t) (2 ^ 1074)) is (fields_value s e t lt47)

pub fields-of : (x : Float) → T (fits binary64 x) → T (finite x) → Fields x
fields-of x h f = record {
  sign = leb (2 ^ 63) (to_bits binary64 x);
  e = to_bits binary64 x % 2 ^ 63 / 2 ^ 52;
  t = to_bits binary64 x % 2 ^ 52;
  digits = mod-lt (to_bits binary64 x) (pow_pos 52);
  value = bits-value x h f;
}

two_up : (p : ℕ) → 2 * p ≡ 1 → ⊥
two_up p e = omega arith

unit-exponent : (e : ℤ) → up e * down e ≡ 1 → e ≡ pos 0
unit-exponent (pos zero) h = refl
unit-exponent (pos (suc k)) h = absurd (two_up (2 ^ k) (sym (pow-succ' 2 k) ∙ sym (mul-one (2 ^ suc k)) ∙ h))
unit-exponent (negsuc k) h = absurd (two_up (2 ^ k) (sym (pow-succ' 2 k) ∙ sym (one-mul (2 ^ suc k)) ∙ h))

pub zero_exponent : (s : Bool) (e : ℤ) → T (fits binary64 (fin s 0 e)) → e ≡ pos 0
unfolding fits
zero_exponent s e h = unit-exponent e (eqb→eq (up e * down e) 1 h)

-- ---- `x == x`
pub is-nan : (x : Float) → is_nan x ≡ true → x ≡ nan
unfolding is_nan
is-nan nan e = refl
is-nan (inf s) e = absurd (false≢true e)
is-nan (fin s m n) e = absurd (false≢true e)
