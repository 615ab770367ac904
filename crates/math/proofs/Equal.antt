-- `==` of two floats of binary64, one of them a number above 0, is equality: they have one value, a value has one bit pattern, and a pattern is one float. Assumes nothing.
use mathlib.Core.Path.{◌≡◌, refl, sym, ap, ◌∙◌, subst}
use mathlib.Core.Logic.{inl, inr}
use mathlib.Core.Bool.{Bool, true, false, ◌||◌, beq}
use Prim.Native.Nat.{ℕ, zero, suc, ◌+◌, ◌*◌, ◌^◌, ◌≤◌, ◌<◌}
use native.Mathlib.Nat.{le_of_lt, lt_of_lt_of_le, mul_right_comm, mul-pos, mul-one, eq_of_mul-eq-mul_right}
use native.Mathlib.Omega.{arith}
use lib.Dec.{T, eqb, eqb→eq, eqb_refl, lit≤}
use lib.Ieee.{Float, nan, inf, fin, binary64, up, down, eq, fits, to_bits, of_bits}
use lib.Ieee.Bits.{of_bits-to_bits}
use lib.Ieee.Exact.{HasValue}
use lib.Ieee.Fits.{and_i, and_l, and_r, down_pos}
use lib.Ieee.Positive.{first_pos}
use lib.Ieee.Scale.{finite}
use Rattle.math.proofs.Error.{rescale}
use Rattle.math.proofs.Pattern.{magnitude, significand-lo, significand-hi, fields-of, pattern}

-- a number equals itself
pub eq_self : (x : Float) (s : Bool) (a c : ℕ) → HasValue x s a c → T (eq x x)
unfolding eq
eq_self nan s a c v = absurd v
eq_self (inf t) s a c v = absurd v
eq_self (fin t m e) s a c v = and_i (eqb (m * up e * down e) (m * up e * down e)) (beq t t || eqb (m * up e * down e) 0) (eqb_refl (m * up e * down e)) (alike t (eqb (m * up e * down e) 0))
  where
    alike : (t b : Bool) → T (beq t t || b)
    alike true b = tt
    alike false b = tt

-- what equals a number above 0 has its value
same-value : (x y : Float) (a c : ℕ) → 0 < a → HasValue y false a c → T (eq x y) → HasValue x false a c
unfolding eq
same-value nan y a c A v h = absurd h
same-value (inf s) nan a c A v h = absurd h
same-value (inf s) (inf t) a c A v h = absurd v
same-value (inf s) (fin t n d) a c A v h = absurd h
same-value (fin s m e) nan a c A v h = absurd h
same-value (fin s m e) (inf t) a c A v h = absurd h
same-value (fin s m e) (fin t n d) a c A v h = (sign s t (eqb (m * up e * down d) 0) v.0 (eqb→eq (m * up e * down d) 0) (and_r (eqb (m * up e * down d) (n * up d * down e)) _ h), cross)
  where
    level : m * up e * down d ≡ n * up d * down e
    level = eqb→eq (m * up e * down d) (n * up d * down e) (and_l (eqb (m * up e * down d) (n * up d * down e)) (beq s t || eqb (m * up e * down d) 0) h)

    -- m * up e / down e is n * up d / down d, which is a / c
    cross : m * up e * c ≡ a * down e
    cross =
        eq_of_mul-eq-mul_right (down d) (down_pos d) (m * up e * c) (a * down e)
        (mul_right_comm (m * up e) c (down d)
        ∙ ap (λ (z : ℕ). z * c) level
        ∙ mul_right_comm (n * up d) (down e) c
        ∙ ap (λ (z : ℕ). z * down e) v.1
        ∙ mul_right_comm a (down d) (down e))

    none : (z : ℕ) → 0 < z → z ≡ 0 → ⊥
    none z p q = omega arith

    some : 0 < m * up e * down d
    some = subst (λ (z : ℕ). 0 < z) (sym level) (mul-pos (first_pos (n * up d) c (subst (λ (z : ℕ). 0 < z) (sym v.1) (mul-pos A (down_pos d)))) (down_pos e))

    sign : (s t b : Bool) → t ≡ false → (T b → m * up e * down d ≡ 0) → T (beq s t || b) → s ≡ false
    sign false t b q z k = refl
    sign true true b q z k = q
    sign true false true q z k = absurd (none (m * up e * down d) some (z tt))
    sign true false false q z k = absurd k

-- two floats of one value have one pattern
same-pattern : (x y : Float) (e t : ℕ) → t < 2 ^ 52 → HasValue x false (magnitude e t) (2 ^ 1074) → HasValue y false (magnitude e t) (2 ^ 1074) → to_bits binary64 x ≡ to_bits binary64 y
same-pattern x y zero t H v w =
    let v' : HasValue x false (t * 2 ^ 0) (2 ^ 1074) = subst (λ (z : ℕ). HasValue x false z (2 ^ 1074)) (sym (mul-one t)) v in
    let w' : HasValue y false (t * 2 ^ 0) (2 ^ 1074) = subst (λ (z : ℕ). HasValue y false z (2 ^ 1074)) (sym (mul-one t)) w in
    let few : t ≤ 2 ^ 53 = le_of_lt (lt_of_lt_of_le H (lit≤ tt)) in
    pattern binary64 x false t 0 v' few (inl refl) ∙ sym (pattern binary64 y false t 0 w' few (inl refl))
same-pattern x y (suc e) t H v w =
    let few : 2 ^ 52 + t ≤ 2 ^ 53 = le_of_lt (significand-hi t H) in
    pattern binary64 x false (2 ^ 52 + t) e v few (inr (significand-lo t)) ∙ sym (pattern binary64 y false (2 ^ 52 + t) e w few (inr (significand-lo t)))

-- a float has one value
pub record One (x : Float) (s t : Bool) (a c b d : ℕ) : Type 0 where
  pub number : T (finite x)
  pub sign : s ≡ t
  pub value : b * c ≡ a * d

pub single-value : (x : Float) (s t : Bool) (a c b d : ℕ) → HasValue x s a c → HasValue x t b d → One x s t a c b d
single-value nan s t a c b d v w = absurd v
single-value (inf z) s t a c b d v w = absurd v
single-value (fin z m e) s t a c b d v w =
    record {
      number = tt;
      sign = sym v.0 ∙ w.0;
      value = eq_of_mul-eq-mul_right (down e) (down_pos e) (b * c) (a * d)
          (mul_right_comm b c (down e) ∙ ap (λ (z : ℕ). z * c) (sym w.1) ∙ mul_right_comm (m * up e) d c ∙ ap (λ (z : ℕ). z * d) v.1 ∙ mul_right_comm a (down e) d);
    }

pub equal : (x y : Float) (a c : ℕ) → 0 < a → 0 < c → HasValue y false a c → T (fits binary64 x) → T (fits binary64 y) → T (eq x y) → x ≡ y
equal x y a c A C v hx hy h =
    let u : HasValue x false a c = same-value x y a c A v h in
    let f = fields-of x hx (single-value x false false a c a c u u).number in
    let k = magnitude f.e f.t in
    let o = single-value x false f.sign a c k (2 ^ 1074) u f.value in
    let xk : HasValue x false k (2 ^ 1074) = subst (λ (s : Bool). HasValue x s k (2 ^ 1074)) (sym o.sign) f.value in
    let yk : HasValue y false k (2 ^ 1074) = rescale y false a c k (2 ^ 1074) C o.value v in
    sym (of_bits-to_bits binary64 x hx) ∙ ap (of_bits binary64) (same-pattern x y f.e f.t f.digits xk yk) ∙ of_bits-to_bits binary64 y hy
