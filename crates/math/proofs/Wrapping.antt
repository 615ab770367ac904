-- A phase adds a step, and loses the period where it reaches it: a phase from 0 to below the period stays there.
-- In units of 2 ^ -1074 the sum has a bound that rounding keeps, and what is left of it after the period another. -0.0 is the one phase with a sign. Assumes nothing.
use mathlib.Core.Path.{◌≡◌, refl, sym, ap, ◌∙◌, subst}
use mathlib.Core.Logic.{◌⊎◌, inl, inr}
use mathlib.Core.Bool.{Bool, true, false, not, cond, ◌&&◌, true≢false}
use Prim.Native.Nat.{ℕ, zero, suc, ◌+◌, ◌-◌, ◌*◌, ◌^◌, ◌≤◌, ◌<◌, zero-le}
use native.Mathlib.Nat.{le_trans, lt_of_le_of_lt, add-le-add, zero-add, add-zero, sub-zero, mul-one, one-mul, zero-mul, eq-zero-or-pos, mul-pos, zero-lt-suc}
use native.Mathlib.Omega.{arith}
use lib.Dec.{T, leb, ltb, eqb, eqb→eq, leb→le, nleb→lt, le→leb, ltb→lt, lt→ltb}
use lib.Pow.{pow_pos}
use lib.IntN.{ℤ, pos}
use lib.Ieee.{Float, nan, inf, fin, binary64, round, add, sub, neg, le, lt, of_bits, fits, up, down}
use lib.Ieee.Fits.{and_l, and_r, and_i, up_pos, down_pos}
use lib.Ieee.Exact.{HasValue}
use lib.Ieee.Scale.{round_same}
use borrow.Author.Tests.{lt-ltb}
use Rattle.math.specs.Float as float
use Rattle.math.proofs.Pattern.{magnitude, Fields, fields-of, zero_exponent}
use Rattle.math.proofs.Values.{zero-value, add_at, sub_at, le-at, lt_at}
use Rattle.math.proofs.Bounds.{AtMost, units-at-most}

-- from 0 to below the period
abbrev pub within : Float → Float → Bool
within period x = le float.zero x && lt x period

-- the phase p after the step s
abbrev pub wrapped : Float → Float → Float → Float
wrapped period s p = cond (le period (add binary64 p s)) (sub binary64 (add binary64 p s) period) (add binary64 p s)

-- ---- -0.0
abbrev pub negative-zero : Float
negative-zero = fin true 0 (pos 0)

-- -0.0, or at most k units
abbrev pub Phase : ℕ → Float → Type 0
Phase k x = (x ≡ negative-zero) ⊎ AtMost k x

-- not negative, so of a negative sign only -0.0
pub minus-zero : (m : ℕ) (e : ℤ) → T (le float.zero (fin true m e)) → m ≡ 0
unfolding le of_bits
minus-zero m e h = no-up (sym (eqb→eq (0 * 1 * down e) (m * up e * 1) (and_l (eqb (0 * 1 * down e) (m * up e * 1)) (eqb (0 * 1 * down e) 0) h)) ∙ zero-mul (down e))
  where
    no-up : m * up e * 1 ≡ 0 → m ≡ 0
    no-up q = elim (eq-zero-or-pos m) [ inl z ↦ z | inr p ↦ absurd (omega (arith, mul-pos (mul-pos p (up_pos e)) (zero-lt-suc 0))) ]

neg-zero : negative-zero ≡ neg float.zero
unfolding neg of_bits
neg-zero = refl

sub-is-add : (x : Float) → add binary64 x (neg float.zero) ≡ sub binary64 x float.zero
unfolding sub
sub-is-add x = refl

plus-minus : (x : Float) (a : ℕ) → HasValue x false a (2 ^ 1074) → add binary64 x negative-zero ≡ round binary64 false (a + 0) (2 ^ 1074)
plus-minus x a v = ap (add binary64 x) neg-zero ∙ sub-is-add x ∙ sub_at binary64 x float.zero a 0 (2 ^ 1074) (pow_pos 1074) v (zero-value (2 ^ 1074)) zero-le ∙ ap (λ (z : ℕ). round binary64 false z (2 ^ 1074)) (sub-zero a ∙ sym (add-zero a))

minus_plus : (x : Float) (a : ℕ) → HasValue x false a (2 ^ 1074) → add binary64 negative-zero x ≡ round binary64 false (0 + a) (2 ^ 1074)
unfolding add
minus_plus nan a v = absurd v
minus_plus (inf s) a v = absurd v
minus_plus (fin true n d) a v = absurd (true≢false v.0)
minus_plus (fin false n d) a v =
    ap (λ (z : ℕ). cond (ltb z (n * up d * 1)) (round binary64 false (n * up d * 1 - z) (1 * down d)) (round binary64 (ltb (n * up d * 1) z) (z - n * up d * 1) (1 * down d))) (zero-mul (down d))
    ∙ pick (n * up d * 1) (1 * down d)
    ∙ round_same binary64 false (n * up d * 1) (1 * down d) (0 + a) (2 ^ 1074) (mul-pos (zero-lt-suc 0) (down_pos d)) (pow_pos 1074)
    (ap (λ (z : ℕ). z * 2 ^ 1074) (mul-one (n * up d)) ∙ v.1 ∙ ap (λ (z : ℕ). z * down d) (sym (zero-add a)) ∙ ap (λ (z : ℕ). (0 + a) * z) (sym (one-mul (down d))))
  where
    pick : (B C : ℕ) → cond (ltb 0 B) (round binary64 false (B - 0) C) (round binary64 (ltb B 0) (0 - B) C) ≡ round binary64 false B C
    pick zero C = refl
    pick (suc b) C = rw (lt-ltb _ _ (zero-lt-suc b)) (ap (λ (z : ℕ). round binary64 false z C) (sub-zero (suc b)))

pub nan-out : (period : Float) → T (within period nan) → ⊥
unfolding le lt of_bits
nan-out period k = k

pub inf-out : (period : Float) (P c : ℕ) → HasValue period false P c → (s : Bool) → T (within period (inf s)) → ⊥
unfolding le lt of_bits
inf-out period P c v true k = k
inf-out nan P c v false k = k
inf-out (inf t) P c v false k = v
inf-out (fin t m e) P c v false k = k

module _ (period : Float) (P : ℕ) (value : HasValue period false P (2 ^ 1074)) where
  -- a phase in range: -0.0, or by its fields fewer units than the period
  pub in-range : (x : Float) → T (fits binary64 x) → T (within period x) → (x ≡ negative-zero) ⊎ ((f : Fields x) × HasValue x false (magnitude f.e f.t) (2 ^ 1074) × (magnitude f.e f.t < P))
  in-range nan h k = absurd (nan-out period k)
  in-range (inf s) h k = absurd (inf-out period P (2 ^ 1074) value s k)
  in-range (fin true m e) h k =
      let z : m ≡ 0 = minus-zero m e (and_l (le float.zero (fin true m e)) (lt (fin true m e) period) k) in
      let d : e ≡ pos 0 = zero_exponent true e (subst (λ (w : ℕ). T (fits binary64 (fin true w e))) z h) in
      inl (ap (λ (w : ℕ). fin true w e) z ∙ ap (λ (w : ℤ). fin true 0 w) d)
  in-range (fin false m e) h k =
      let f = fields-of (fin false m e) h tt in
      let v : HasValue (fin false m e) false (magnitude f.e f.t) (2 ^ 1074) = (refl, f.value.1) in
      inr (f, v, ltb→lt (magnitude f.e f.t) P (subst T (lt_at (fin false m e) period (magnitude f.e f.t) P (2 ^ 1074) (pow_pos 1074) v value) (and_r (le float.zero (fin false m e)) (lt (fin false m e) period) k)))

  pub value-within : (y : Float) (c : ℕ) → HasValue y false c (2 ^ 1074) → c < P → T (within period y)
  value-within y c v h =
      and_i (le float.zero y) (lt y period)
      (subst T (sym (le-at float.zero y 0 c (2 ^ 1074) (pow_pos 1074) (zero-value (2 ^ 1074)) v)) (le→leb 0 c zero-le))
      (subst T (sym (lt_at y period c P (2 ^ 1074) (pow_pos 1074) v value)) (lt→ltb c P h))

  -- a sum of at most q * 2 ^ i units, that leaves at most t * 2 ^ j after the period
  module _ (q i t j : ℕ) (small : q < 2 ^ 53) (fine : q * 2 ^ i < 2 ^ 1100) (small' : t < 2 ^ 53) (fine' : t * 2 ^ j < 2 ^ 1100) (left : q * 2 ^ i - P ≤ t * 2 ^ j) (under : t * 2 ^ j < P) where
    sum-stays : (p s : Float) (a b : ℕ) → add binary64 p s ≡ round binary64 false (a + b) (2 ^ 1074) → a + b ≤ q * 2 ^ i → T (within period (wrapped period s p))
    sum-stays p s a b e h =
        let x = add binary64 p s in
        let w : AtMost (q * 2 ^ i) x = subst (AtMost (q * 2 ^ i)) (sym e) (units-at-most (a + b) q i small fine h) in
        go (leb P w.at) x w (le-at period x P w.at (2 ^ 1074) (pow_pos 1074) value w.value) (leb→le P w.at) (nleb→lt P w.at)
      where
        go : (b : Bool) (x : Float) (w : AtMost (q * 2 ^ i) x) → le period x ≡ b → (T b → P ≤ w.at) → (T (not b) → w.at < P) → T (within period (cond (le period x) (sub binary64 x period) x))
        go true x w f g l =
            let r : AtMost (t * 2 ^ j) (sub binary64 x period) =
            subst (AtMost (t * 2 ^ j)) (sym (sub_at binary64 x period w.at P (2 ^ 1074) (pow_pos 1074) w.value value (g tt)))
            (units-at-most (w.at - P) t j small' fine' (le_trans (omega (arith, w.most)) left)) in
            rw f (value-within (sub binary64 x period) r.at r.value (lt_of_le_of_lt r.most under))
        go false x w f g l = rw f (value-within x w.at w.value (l tt))

    pub wrap-stays : (p s : Float) (k n : ℕ) → Phase k p → Phase n s → k + n ≤ q * 2 ^ i → T (within period (wrapped period negative-zero negative-zero)) → T (within period (wrapped period s p))
    wrap-stays p s k n (inl e) (inl f) h z = subst (λ (y : Float). T (within period (wrapped period s y))) (sym e) (subst (λ (y : Float). T (within period (wrapped period y negative-zero))) (sym f) z)
    wrap-stays p s k n (inl e) (inr w) h z = sum-stays p s 0 w.at (ap (λ (y : Float). add binary64 y s) e ∙ minus_plus s w.at w.value) (le_trans (add-le-add zero-le w.most) h)
    wrap-stays p s k n (inr v) (inl f) h z = sum-stays p s v.at 0 (ap (λ (y : Float). add binary64 p y) f ∙ plus-minus p v.at v.value) (le_trans (add-le-add v.most zero-le) h)
    wrap-stays p s k n (inr v) (inr w) h z = sum-stays p s v.at w.at (add_at binary64 p s v.at w.at (2 ^ 1074) (pow_pos 1074) v.value w.value) (le_trans (add-le-add v.most w.most) h)
