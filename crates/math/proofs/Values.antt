-- Sums, differences, products, quotients and comparisons of values that are not negative, by the fractions that they equal. Assumes nothing.
use mathlib.Core.Path.{◌≡◌, refl, sym, ap, ◌∙◌, subst}
use mathlib.Core.Logic.{◌⊎◌, inl, inr}
use mathlib.Core.Bool.{Bool, true, false, cond, ◌&&◌, ◌||◌, true≢false}
use Prim.Native.Nat.{ℕ, ◌+◌, ◌-◌, ◌*◌, ◌^◌, ◌≤◌, ◌<◌}
use native.Mathlib.Nat.{lt_of_lt_of_le, lt_of_mul-lt-mul_right, mul-lt-mul_of_pos_right, le_of_eq, le_of_lt, not-le_of_lt, lt_of_not-le, add-mul, mul-sub, mul_assoc, mul_comm, mul_right_comm, mul-pos, mul-le-mul_right, le_of_mul-le-mul_right, eq_of_mul-eq-mul_right, zero-mul, mul-mul-mul_comm}
use native.Mathlib.Omega.{arith}
use lib.IntN.{ℤ}
use lib.Dec.{T, leb, ltb, eqb, ltb→lt, lt→ltb, eqb→eq, leb→le, le→leb}
use lib.Ieee.{Float, nan, inf, fin, Format, binary64, up, down, round, add, sub, mul, div, le, lt, of_int, of_bits}
use lib.Ieee.Fits.{down_pos, and_l}
use lib.Ieee.Exact.{HasValue}
use lib.Ieee.Order.{transfer, le_of_values}
use lib.Ieee.Scale.{round_same}
use lib.Ieee.Positive.{first_pos}
use lib.Ieee.Back.{round_whole}
use borrow.Author.Tests.{le-ltb}
use Rattle.math.specs.Float as float
use Rattle.math.specs.Float.{of_nat}
use Rattle.math.proofs.Tests.{same_test}

-- ---- values
pub zero-value : (c : ℕ) → HasValue float.zero false 0 c
unfolding of_bits
zero-value c = (refl, zero-mul c)

pub one_value : (c : ℕ) → HasValue float.one false c c
unfolding of_bits
one_value c = (refl, mul_comm 1 c)

pub nat-value : (n : ℕ) → n ≤ 2 ^ 53 → HasValue (of_nat n) false n 1
unfolding of_int
nat-value n h = round_whole binary64 false n h

-- x / de is a / c: both are below k, or neither is
pub below-same : (k x de a c : ℕ) → 0 < de → 0 < c → x * c ≡ a * de → ltb x (k * de) ≡ ltb a (k * c)
below-same k x de a c D C e =
    same_test (ltb x (k * de)) (ltb a (k * c))
    (λ h. lt→ltb a (k * c) (below x de a c D C e (ltb→lt x (k * de) h)))
    (λ h. lt→ltb x (k * de) (below a c x de C D (sym e) (ltb→lt a (k * c) h)))
  where
    below : (x de a c : ℕ) → 0 < de → 0 < c → x * c ≡ a * de → x < k * de → a < k * c
    below x de a c D C e h =
        lt_of_mul-lt-mul_right de
        (subst (λ (z : ℕ). z < k * c * de) e (lt_of_lt_of_le (mul-lt-mul_of_pos_right h C) (le_of_eq (mul_right_comm k de c))))

-- ---- operations
-- (x * dd) * c is a * (de * dd)
side : (x de dd a c : ℕ) → x * c ≡ a * de → x * dd * c ≡ a * (de * dd)
side x de dd a c h = mul_right_comm x dd c ∙ ap (λ (z : ℕ). z * dd) h ∙ mul_assoc a de dd

side' : (y de dd b c : ℕ) → y * c ≡ b * dd → y * de * c ≡ b * (de * dd)
side' y de dd b c h = side y dd de b c h ∙ ap (λ (z : ℕ). b * z) (mul_comm dd de)

-- what holds of every two numbers of no sign that are a / c and b / d holds of two values that are
by-numbers : (P : Float → Float → Type 0) (x y : Float) (a c b d : ℕ) → HasValue x false a c → HasValue y false b d
    → ((m : ℕ) (e : ℤ) (n : ℕ) (g : ℤ) → m * up e * c ≡ a * down e → n * up g * d ≡ b * down g → P (fin false m e) (fin false n g)) → P x y
by-numbers P nan y a c b d h k f = absurd h
by-numbers P (inf s) y a c b d h k f = absurd h
by-numbers P (fin true m e) y a c b d h k f = absurd (true≢false h.0)
by-numbers P (fin false m e) nan a c b d h k f = absurd k
by-numbers P (fin false m e) (inf s) a c b d h k f = absurd k
by-numbers P (fin false m e) (fin true n g) a c b d h k f = absurd (true≢false k.0)
by-numbers P (fin false m e) (fin false n g) a c b d h k f = f m e n g h.1 k.1

pub add_at : (f : Format) (x y : Float) (a b c : ℕ) → 0 < c → HasValue x false a c → HasValue y false b c → add f x y ≡ round f false (a + b) c
unfolding add
add_at f x y a b c C h k =
    by-numbers (λ x y. add f x y ≡ round f false (a + b) c) x y a c b c h k
    (λ m e n d p q.
    round_same f false (m * up e * down d + n * up d * down e) (down e * down d) (a + b) c (mul-pos (down_pos e) (down_pos d)) C
    (add-mul (m * up e * down d) (n * up d * down e) c
    ∙ ap (λ (z : ℕ). z + n * up d * down e * c) (side (m * up e) (down e) (down d) a c p)
    ∙ ap (λ (z : ℕ). a * (down e * down d) + z) (side' (n * up d) (down e) (down d) b c q)
    ∙ sym (add-mul a b (down e * down d))))

sub-mul : (a b c : ℕ) → (a - b) * c ≡ a * c - b * c
sub-mul a b c = mul_comm (a - b) c ∙ mul-sub c a b ∙ ap (λ (z : ℕ). z - c * b) (mul_comm c a) ∙ ap (λ (z : ℕ). a * c - z) (mul_comm c b)

pub sub_at : (f : Format) (x y : Float) (a b c : ℕ) → 0 < c → HasValue x false a c → HasValue y false b c → b ≤ a → sub f x y ≡ round f false (a - b) c
unfolding sub
sub_at f x y a b c C h k l =
    by-numbers (λ x y. sub f x y ≡ round f false (a - b) c) x y a c b c h k
    (λ m e n d p q.
    let A = m * up e * down d in
    let B = n * up d * down e in
    ap (λ (t : Bool). cond t (round f true (B - A) (down e * down d)) (round f false (A - B) (down e * down d)))
    (le-ltb _ _ (transfer (n * up d) (m * up e) (down d) (down e) b a c c C C q p (mul-le-mul_right c l)))
    ∙ round_same f false (A - B) (down e * down d) (a - b) c (mul-pos (down_pos e) (down_pos d)) C
    (sub-mul A B c
    ∙ ap (λ (z : ℕ). z - B * c) (side (m * up e) (down e) (down d) a c p)
    ∙ ap (λ (z : ℕ). a * (down e * down d) - z) (side' (n * up d) (down e) (down d) b c q)
    ∙ sym (sub-mul a b (down e * down d))))

or_split : (a b : Bool) → T (a || b) → T a ⊎ T b
or_split true b t = inl tt
or_split false b t = inr t

lt-or-eq : (a b : ℕ) → T (ltb a b || (eqb a b && true)) → a ≤ b
lt-or-eq a b t = elim (or_split (ltb a b) (eqb a b && true) t) [ inl u ↦ le_of_lt (ltb→lt a b u) | inr u ↦ le_of_eq (eqb→eq a b (and_l (eqb a b) true u)) ]

pub of_le : (x y : Float) (a b c : ℕ) → 0 < c → HasValue x false a c → HasValue y false b c → T (le x y) → a ≤ b
unfolding le
of_le x y a b c C h k =
    by-numbers (λ x y. T (le x y) → a ≤ b) x y a c b c h k
    (λ m e n d p q l.
    le_of_mul-le-mul_right (transfer a b c c (m * up e) (n * up d) (down e) (down d) (down_pos e) (down_pos d) (sym p) (sym q) (lt-or-eq (m * up e * down d) (n * up d * down e) l)) C)

pub le-at : (x y : Float) (a b c : ℕ) → 0 < c → HasValue x false a c → HasValue y false b c → le x y ≡ leb a b
le-at x y a b c C h k =
    same_test (le x y) (leb a b) (λ l. le→leb a b (of_le x y a b c C h k l)) (λ l. le_of_values x y a c b c C C h k (mul-le-mul_right c (leb→le a b l)))

-- the quotient of a / c and b / c
pub div-by : (f : Format) (x y : Float) (a b c : ℕ) → 0 < c → 0 < b → HasValue x false a c → HasValue y false b c → div f x y ≡ round f false a b
unfolding div
div-by f x y a b c C B h k = by-numbers (λ x y. div f x y ≡ round f false a b) x y a c b c h k quotient
  where
    not-zero : (z : ℕ) → 0 < z → z ≡ 0 → ⊥
    not-zero z p e = omega arith

    quotient : (m : ℕ) (e : ℤ) (n : ℕ) (d : ℤ) → m * up e * c ≡ a * down e → n * up d * c ≡ b * down d → div f (fin false m e) (fin false n d) ≡ round f false a b
    quotient m e n d p q = go (eqb n 0) (eqb→eq n 0)
      where
        pos : 0 < n * up d
        pos = first_pos (n * up d) c (subst (λ (z : ℕ). 0 < z) (sym q) (mul-pos B (down_pos d)))

        cross : m * up e * down d * b ≡ a * (n * up d * down e)
        cross =
            eq_of_mul-eq-mul_right c C (m * up e * down d * b) (a * (n * up d * down e))
            (mul_right_comm (m * up e * down d) b c
            ∙ ap (λ (z : ℕ). z * b) (side (m * up e) (down e) (down d) a c p)
            ∙ mul_assoc a (down e * down d) b
            ∙ ap (λ (z : ℕ). a * z) (mul_comm (down e * down d) b ∙ sym (side' (n * up d) (down e) (down d) b c q))
            ∙ sym (mul_assoc a (n * up d * down e) c))

        go : (t : Bool) → (T t → n ≡ 0) → cond t (cond (eqb m 0) nan (inf false)) (round f false (m * up e * down d) (n * up d * down e)) ≡ round f false a b
        go true z = absurd (not-zero (n * up d) pos (ap (λ (w : ℕ). w * up d) (z tt) ∙ zero-mul (up d)))
        go false z = round_same f false (m * up e * down d) (n * up d * down e) a b (mul-pos pos (down_pos e)) B cross

-- the product of a / c and b / d
pub mul-by : (f : Format) (x y : Float) (a c b d : ℕ) → 0 < c → 0 < d → HasValue x false a c → HasValue y false b d → mul f x y ≡ round f false (a * b) (c * d)
unfolding mul
mul-by f x y a c b d C D h k =
    by-numbers (λ x y. mul f x y ≡ round f false (a * b) (c * d)) x y a c b d h k
    (λ m e n g p q.
    round_same f false (m * up e * (n * up g)) (down e * down g) (a * b) (c * d) (mul-pos (down_pos e) (down_pos g)) (mul-pos C D)
    (mul-mul-mul_comm (m * up e) (n * up g) c d ∙ ap (λ (z : ℕ). z * (n * up g * d)) p ∙ ap (λ (z : ℕ). a * down e * z) q ∙ mul-mul-mul_comm a (down e) b (down g)))

of_lt : (x y : Float) (a b c : ℕ) → 0 < c → HasValue x false a c → HasValue y false b c → T (lt x y) → a < b
unfolding lt
of_lt x y a b c C h k =
    by-numbers (λ x y. T (lt x y) → a < b) x y a c b c h k
    (λ m e n d p q l.
    lt_of_not-le (λ (g : b ≤ a). not-le_of_lt (ltb→lt (m * up e * down d) (n * up d * down e) l) (transfer (n * up d) (m * up e) (down d) (down e) b a c c C C q p (mul-le-mul_right c g))))

to-lt : (x y : Float) (a b c : ℕ) → 0 < c → HasValue x false a c → HasValue y false b c → a < b → T (lt x y)
unfolding lt
to-lt x y a b c C h k l =
    by-numbers (λ x y. T (lt x y)) x y a c b c h k
    (λ m e n d p q.
    lt→ltb (m * up e * down d) (n * up d * down e)
    (lt_of_not-le (λ (g : n * up d * down e ≤ m * up e * down d). not-le_of_lt l (le_of_mul-le-mul_right (transfer b a c c (n * up d) (m * up e) (down d) (down e) (down_pos d) (down_pos e) (sym q) (sym p) g) C))))

pub lt_at : (x y : Float) (a b c : ℕ) → 0 < c → HasValue x false a c → HasValue y false b c → lt x y ≡ ltb a b
lt_at x y a b c C h k =
    same_test (lt x y) (ltb a b) (λ l. lt→ltb a b (of_lt x y a b c C h k l)) (λ l. to-lt x y a b c C h k (ltb→lt a b l))
