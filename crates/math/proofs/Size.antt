-- The size of a value: a number, and at most k / 2 ^ 30, with whatever sign. What sums, differences, products and the narrowing keep of such a bound:
-- the exact result is at most a bound that the format holds, and so is what it rounds to. Assumes nothing.
use mathlib.Core.Path.{◌≡◌, refl, sym, ap, subst}
use mathlib.Core.Bool.{Bool, true, false, cond, ◌&&◌, beq, true≢false}
use Prim.Native.Nat.{ℕ, ◌+◌, ◌-◌, ◌*◌, ◌^◌, ◌≤◌, ◌<◌}
use native.Mathlib.Nat.{le_trans, le_of_eq, lt_of_lt_of_le, mul_comm, mul_assoc, mul_right_comm, mul-pos, mul-le-mul, mul-le-mul_right, mul-lt-mul_of_pos_right, le_of_mul-le-mul_right}
use native.Mathlib.Omega.{arith}
use lib.Dec.{ltb, lit<, lit≤}
use lib.Pow.{pow_pos, shl_lt}
use lib.Ieee.{Float, nan, inf, fin, binary32, binary64, round, sum, add, sub, mul, neg, of_bits, up, down, unlike}
use lib.Ieee.Fits.{down_pos}
use lib.Ieee.Exact.{HasValue}
use lib.Ieee.Scale.{grid, overflow}
use Rattle.math.specs.Float as float
use Rattle.math.specs.Narrow.{narrowed}
use Rattle.math.proofs.Rounding.{grid-fits, round-value, grid-most}
use Rattle.math.proofs.Bounds.{bound-fits}

abbrev pub Size : ℕ → Float → Type 0
Size k nan = ⊥
Size k (inf s) = ⊥
Size k (fin s m e) = m * up e * 2 ^ 30 ≤ k * down e

pub of-value : (x : Float) (s : Bool) (a c k : ℕ) → 0 < c → HasValue x s a c → a * 2 ^ 30 ≤ k * c → Size k x
of-value nan s a c k C v h = absurd v
of-value (inf t) s a c k C v h = absurd v
of-value (fin t m e) s a c k C v h = le_of_mul-le-mul_right (go (m * up e) (down e) v.1) C
  where
    go : (w d : ℕ) → w * c ≡ a * d → w * 2 ^ 30 * c ≤ k * d * c
    go w d e = omega (arith, ap (λ (z : ℕ). 2 ^ 30 * z) e, mul-le-mul_right d h)

pub weaker : (x : Float) (k l : ℕ) → k ≤ l → Size k x → Size l x
weaker nan k l h v = v
weaker (inf s) k l h v = v
weaker (fin s m e) k l h v = le_trans v (mul-le-mul_right (down e) h)

pub neg-size : (k : ℕ) (x : Float) → Size k x → Size k (neg x)
unfolding neg
neg-size k nan h = h
neg-size k (inf s) h = h
neg-size k (fin s m e) h = h

pub zero-size : (k : ℕ) → Size k float.zero
unfolding of_bits
zero-size k = omega arith

-- ---- rounding
split : (x k c u p : ℕ) → 2 ^ 30 * p ≡ u → x * 2 ^ 30 ≤ k * c → x * u ≤ k * p * c
split x k c u p e h = le_trans (le_of_eq (ap (λ (z : ℕ). x * z) (sym e))) (omega (arith, mul-le-mul_right p h))

join : (g k c u p : ℕ) → 2 ^ 30 * p ≡ u → g ≤ k * p → g * 2 ^ 30 ≤ k * u
join g k c u p e h = le_trans (omega (arith, mul-le-mul_right (2 ^ 30) h)) (le_of_eq (ap (λ (z : ℕ). k * z) e))

pub round-size : (s : Bool) (a c k : ℕ) → 0 < c → k < 2 ^ 53 → a * 2 ^ 30 ≤ k * c → Size k (round binary64 s a c)
round-size s a c k C small h =
    let h' : a * 2 ^ 1074 ≤ k * 2 ^ 1044 * c = split a k c (2 ^ 1074) (2 ^ 1044) refl h in
    let fine : k * 2 ^ 1044 < 2 ^ 1097 = shl_lt 53 1044 small in
    let g = bound-fits a c k 1044 C (lt_of_lt_of_le fine (lit≤ tt)) h' in
    of-value (round binary64 s a c) s (grid binary64 a c) (2 ^ 1074) k (pow_pos 1074) (round-value binary64 s a c g)
    (join (grid binary64 a c) k c (2 ^ 1074) (2 ^ 1044) refl (grid-most binary64 a c k 1044 C small (lt_of_lt_of_le fine (lit≤ tt)) g h'))

-- a bound q / 2 ^ 24 below 1, which binary32 holds
pub narrow_size : (q k : ℕ) (x : Float) → q < 2 ^ 24 → k ≤ q * 64 → Size k x → Size (q * 64) (narrowed x)
unfolding narrowed
narrow_size q k nan Q K h = absurd h
narrow_size q k (inf s) Q K h = absurd h
narrow_size q k (fin s m e) Q K h = pick (ltb (m * up e) (2 * down e))
  where
    h' : m * up e * 2 ^ 30 ≤ q * 64 * down e
    h' = le_trans h (mul-le-mul_right (down e) K)

    small : (w d : ℕ) → 0 < d → w * 2 ^ 30 ≤ q * 64 * d → w < 2 * d
    small w d D h = omega (arith, mul-lt-mul_of_pos_right Q D)

    fine : (w d : ℕ) → w < 2 * d → w * 2 ^ 149 < 2 ^ 150 * d
    fine w d h = lt_of_lt_of_le (mul-lt-mul_of_pos_right h (pow_pos 149)) (le_of_eq (mul_right_comm 2 d (2 ^ 149)))

    units : (w d : ℕ) → w * 2 ^ 30 ≤ q * 64 * d → w * 2 ^ 149 ≤ q * 2 ^ 125 * d
    units w d h = le_trans (split w (q * 64) d (2 ^ 149) (2 ^ 119) refl h) (le_of_eq (ap (λ (z : ℕ). z * d) (mul_assoc q 64 (2 ^ 119))))

    g : grid binary32 (m * up e) (down e) < overflow binary32
    g = grid-fits binary32 (m * up e) (down e) 150 (down_pos e) (fine (m * up e) (down e) (small (m * up e) (down e) (down_pos e) h')) (lit< tt)

    most : grid binary32 (m * up e) (down e) ≤ q * 2 ^ 125
    most = grid-most binary32 (m * up e) (down e) q 125 (down_pos e) Q (lt_of_lt_of_le (shl_lt 24 125 Q) (lit≤ tt)) g (units (m * up e) (down e) h')

    narrow : Size (q * 64) (round binary32 s (m * up e) (down e))
    narrow =
        of-value (round binary32 s (m * up e) (down e)) s (grid binary32 (m * up e) (down e)) (2 ^ 149) (q * 64) (pow_pos 149) (round-value binary32 s (m * up e) (down e) g)
        (join (grid binary32 (m * up e) (down e)) (q * 64) (down e) (2 ^ 149) (2 ^ 119) refl (le_trans most (le_of_eq (sym (mul_assoc q 64 (2 ^ 119))))))

    pick : (b : Bool) → Size (q * 64) (cond b (round binary32 s (m * up e) (down e)) float.zero)
    pick true = narrow
    pick false = zero-size (q * 64)

-- ---- sums and products
pub add-size : (k l : ℕ) (x y : Float) → k + l < 2 ^ 53 → Size k x → Size l y → Size (k + l) (add binary64 x y)
unfolding add sum
add-size k l nan y b h g = absurd h
add-size k l (inf s) y b h g = absurd h
add-size k l (fin s m e) nan b h g = absurd g
add-size k l (fin s m e) (inf t) b h g = absurd g
add-size k l (fin s m e) (fin t n d) b h g = pick (beq s t) (ltb A A')
  where
    A : ℕ
    A = m * up e * down d

    A' : ℕ
    A' = n * up d * down e

    C : ℕ
    C = down e * down d

    cp : 0 < down e * down d
    cp = mul-pos (down_pos e) (down_pos d)

    both : (w v p r : ℕ) → w * 2 ^ 30 ≤ k * p → v * 2 ^ 30 ≤ l * r → (w * r + v * p) * 2 ^ 30 ≤ (k + l) * (p * r)
    both w v p r h g = omega (arith, mul-le-mul_right r h, mul-le-mul_right p g)

    all : (m * up e * down d + n * up d * down e) * 2 ^ 30 ≤ (k + l) * (down e * down d)
    all = both (m * up e) (n * up d) (down e) (down d) h g

    pick : (p r : Bool) → Size (k + l) (cond p (round binary64 s (m * up e * down d + n * up d * down e) (down e * down d))
        (cond r (round binary64 t (n * up d * down e - m * up e * down d) (down e * down d)) (round binary64 (s && ltb (n * up d * down e) (m * up e * down d)) (m * up e * down d - n * up d * down e) (down e * down d))))
    pick true r = round-size s (m * up e * down d + n * up d * down e) (down e * down d) (k + l) cp b all
    pick false true = round-size t (n * up d * down e - m * up e * down d) (down e * down d) (k + l) cp b (le_trans (mul-le-mul_right (2 ^ 30) (omega arith)) all)
    pick false false = round-size (s && ltb (n * up d * down e) (m * up e * down d)) (m * up e * down d - n * up d * down e) (down e * down d) (k + l) cp b (le_trans (mul-le-mul_right (2 ^ 30) (omega arith)) all)

pub mul-size : (k l K : ℕ) (x y : Float) → K < 2 ^ 53 → k * l ≤ K * 2 ^ 30 → Size k x → Size l y → Size K (mul binary64 x y)
unfolding mul
mul-size k l K nan y b p h g = absurd h
mul-size k l K (inf s) y b p h g = absurd h
mul-size k l K (fin s m e) nan b p h g = absurd g
mul-size k l K (fin s m e) (inf t) b p h g = absurd g
mul-size k l K (fin s m e) (fin t n d) b p h g =
    round-size (unlike s t) (m * up e * (n * up d)) (down e * down d) K (mul-pos (down_pos e) (down_pos d)) b (le_of_mul-le-mul_right (both (m * up e) (n * up d) (down e) (down d) h g) (pow_pos 30))
  where
    both : (w v p r : ℕ) → w * 2 ^ 30 ≤ k * p → v * 2 ^ 30 ≤ l * r → w * v * 2 ^ 30 * 2 ^ 30 ≤ K * (p * r) * 2 ^ 30
    both w v p' r h g = omega (arith, mul-le-mul h g, mul-le-mul_right (p' * r) p)

-- ---- a difference of two values that are not negative
pub sub-size : (x y : Float) (a b c k : ℕ) → 0 < c → HasValue x false a c → HasValue y false b c → k < 2 ^ 53 → (a - b) * 2 ^ 30 ≤ k * c → (b - a) * 2 ^ 30 ≤ k * c → Size k (sub binary64 x y)
unfolding sub add sum neg
sub-size nan y a b c k C v w K g h = absurd v
sub-size (inf s) y a b c k C v w K g h = absurd v
sub-size (fin true m e) y a b c k C v w K g h = absurd (true≢false v.0)
sub-size (fin false m e) nan a b c k C v w K g h = absurd w
sub-size (fin false m e) (inf s) a b c k C v w K g h = absurd w
sub-size (fin false m e) (fin true n d) a b c k C v w K g h = absurd (true≢false w.0)
sub-size (fin false m e) (fin false n d) a b c k C v w K g h = pick (ltb (m * up e * down d) (n * up d * down e))
  where
    cp : 0 < down e * down d
    cp = mul-pos (down_pos e) (down_pos d)

    scaled : (x y p r a b : ℕ) → x * c ≡ a * p → y * c ≡ b * r → a * 2 ^ 30 ≤ k * c + b * 2 ^ 30 → x * r * 2 ^ 30 * c ≤ (k * (p * r) + y * p * 2 ^ 30) * c
    scaled x y p r a b v w h = omega (arith, mul-le-mul_right (p * r) h, ap (λ (z : ℕ). z * (r * 2 ^ 30)) v, ap (λ (z : ℕ). z * (p * 2 ^ 30)) w)

    part : (x y p r a b : ℕ) → x * c ≡ a * p → y * c ≡ b * r → (a - b) * 2 ^ 30 ≤ k * c → (x * r - y * p) * 2 ^ 30 ≤ k * (p * r)
    part x y p r a b v w h = omega (arith, le_of_mul-le-mul_right (scaled x y p r a b v w (omega arith)) C)

    pick : (t : Bool) → Size k (cond t (round binary64 true (n * up d * down e - m * up e * down d) (down e * down d)) (round binary64 false (m * up e * down d - n * up d * down e) (down e * down d)))
    pick true = round-size true (n * up d * down e - m * up e * down d) (down e * down d) k cp K (subst (λ (z : ℕ). (n * up d * down e - m * up e * down d) * 2 ^ 30 ≤ k * z) (mul_comm (down d) (down e)) (part (n * up d) (m * up e) (down d) (down e) b a w.1 v.1 h))
    pick false = round-size false (m * up e * down d - n * up d * down e) (down e * down d) k cp K (part (m * up e) (n * up d) (down e) (down d) a b v.1 w.1 g)
