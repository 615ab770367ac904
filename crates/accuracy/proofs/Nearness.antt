-- Fractions of whole numbers that are near each other, |x / y - u / v| ≤ e / g, and what sums of such distances, complements and products are
-- near to: all multiplied out. A fraction below 4 rounds to one that is near it by 2 / 2 ^ 53. Assumes nothing.
use mathlib.Core.Path.{◌≡◌, refl, ap}
use mathlib.Core.Bool.{false}
use Prim.Native.Nat.{ℕ, ◌+◌, ◌*◌, ◌/◌, ◌^◌, ◌≤◌, ◌<◌}
use native.Mathlib.Nat.{le_trans, le_of_eq, lt_of_lt_of_le, lt_of_le_of_lt, mul_right_comm, mul-pos, mul-le-mul_left, mul-le-mul_right, mul-lt-mul_of_pos_right, le_of_mul-le-mul_right, div-lt_iff_lt-mul}
use native.Mathlib.Omega.{arith}
use lib.Dec.{lit≤}
use lib.Pow.{pow_pos, pow_mono}
use lib.Ieee.{Float, binary64, round}
use lib.Ieee.Digits.{size-le}
use lib.Ieee.Exact.{HasValue}
use lib.Ieee.Scale.{grid, round_val}
use Rattle.math.proofs.Rounding.{cut, grid-over, grid-under, grid-most}
use Rattle.math.proofs.Bounds.{bound-fits}

-- x / y is at most u / v + e / g
abbrev pub Upto : ℕ → ℕ → ℕ → ℕ → ℕ → ℕ → Type 0
Upto g x y u v e = g * (x * v) ≤ g * (u * y) + e * (y * v)

-- |x / y - u / v| ≤ e / g
pub record Near (g x y u v e : ℕ) : Type 0 where
  pub over : Upto g x y u v e
  pub under : Upto g u v x y e

module _ (g : ℕ) where
  -- ---- a chain
  upto-trans : (x y u v s t e f : ℕ) → 0 < v → Upto g x y u v e → Upto g u v s t f → Upto g x y s t (e + f)
  upto-trans x y u v s t e f vp h k =
      le_of_mul-le-mul_right (sums (g * (x * v)) (g * (u * y)) (e * (y * v)) (g * (u * t)) (g * (s * v)) (f * (v * t)) h k) vp
    where
      sums : (a b c a' b' c' : ℕ) → g * (x * v) ≤ g * (u * y) + e * (y * v) → g * (u * t) ≤ g * (s * v) + f * (v * t) → g * (x * t) * v ≤ (g * (s * y) + (e + f) * (y * t)) * v
      sums a b c a' b' c' h k = omega (arith, mul-le-mul_right t h, mul-le-mul_right y k)

  pub trans : (x y u v s t e f : ℕ) → 0 < v → Near g x y u v e → Near g u v s t f → Near g x y s t (e + f)
  trans x y u v s t e f vp h k = record {
    over = upto-trans x y u v s t e f vp h.over k.over;
    under = omega (arith, upto-trans s t u v x y f e vp k.under h.under);
  }

  pub more : (x y u v e f : ℕ) → e ≤ f → Near g x y u v e → Near g x y u v f
  more x y u v e f l h = record { over = up h.over; under = down h.under }
    where
      up : Upto g x y u v e → Upto g x y u v f
      up h = omega (arith, mul-le-mul_right (y * v) l)

      down : Upto g u v x y e → Upto g u v x y f
      down h = omega (arith, mul-le-mul_right (v * y) l)

  -- ---- both over c
  shrink : (x y u v e c : ℕ) → 0 < c → Upto g x y u v e → Upto g x (y * c) u (v * c) e
  shrink x y u v e c C h = omega (arith, mul-le-mul_right c h, mul-le-mul_right (e * (y * v) * c) C)

  pub over_by : (x y u v e c : ℕ) → 0 < c → Near g x y u v e → Near g x (y * c) u (v * c) e
  over_by x y u v e c C h = record { over = shrink x y u v e c C h.over; under = shrink u v x y e c C h.under }

  -- ---- one less each
  pub rest : (x y u v e x' u' : ℕ) → x' + x ≡ y → u' + u ≡ v → Near g x y u v e → Near g x' y u' v e
  rest x y u v e x' u' X U h = record { over = less x y u v x' u' X U h.under; under = less u v x y u' x' U X h.over }
    where
      less : (x y u v x' u' : ℕ) → x' + x ≡ y → u' + u ≡ v → Upto g u v x y e → Upto g x' y u' v e
      less x y u v x' u' X U h = omega (arith, ap (λ (z : ℕ). g * (z * v)) X, ap (λ (z : ℕ). g * (z * y)) U)

  -- ---- a product: first the one factor goes over, then the other
  left : (x y u v e s t : ℕ) → s ≤ t → Upto g x y u v e → Upto g (x * s) (y * t) (u * s) (v * t) e
  left x y u v e s t S h = omega (arith, mul-le-mul_right (s * t) h, mul-le-mul_right (e * y * v * t) S)

  -- u / v times f is at most h
  right : (u v s t m n f h : ℕ) → u * f ≤ h * v → Upto g s t m n f → Upto g (u * s) (v * t) (u * m) (v * n) h
  right u v s t m n f h B a = omega (arith, mul-le-mul_right (u * v) a, mul-le-mul_right (t * n * v) B)

  scale-by : (u v f h K k : ℕ) → 0 < k → k * u ≤ K * v → K * f ≤ k * h → u * f ≤ h * v
  scale-by u v f h K k P B H = le_of_mul-le-mul_right step P
    where
      step : u * f * k ≤ h * v * k
      step = omega (arith, mul-le-mul_right f B, mul-le-mul_right v H)

  pub product : (x y u v e s t m n f K k h : ℕ) → 0 < v → 0 < t → 0 < k → s ≤ t → k * u ≤ K * v → K * f ≤ k * h → Near g x y u v e → Near g s t m n f → Near g (x * s) (y * t) (u * m) (v * n) (e + h)
  product x y u v e s t m n f K k h vp tp P S B H a b =
      trans (x * s) (y * t) (u * s) (v * t) (u * m) (v * n) e h (mul-pos vp tp)
      (record { over = left x y u v e s t S a.over; under = left u v x y e s t S a.under })
      (record { over = right u v s t m n f h (scale-by u v f h K k P B H) b.over; under = right' })
    where
      right' : Upto g (u * m) (v * n) (u * s) (v * t) h
      right' = right u v m n s t f h (scale-by u v f h K k P B H) b.under

-- ---- rounding a fraction below 4: off by 2 ^ -52 at most
-- units of 2 ^ -1074 in 1
abbrev pub U : ℕ
U = 2 ^ 1074

-- distances are counted in parts of 2 ^ -53
abbrev pub G : ℕ
G = 2 ^ 53

cut-le : (a c : ℕ) → 0 < c → a < 4 * c → cut binary64 a c ≤ 1023
cut-le a c C h = omega (arith, size-le (a * 2 ^ 1074 / c) 1076 ((div-lt_iff_lt-mul C).1 (lt_of_lt_of_le (mul-lt-mul_of_pos_right h (pow_pos 1074)) (le_of_eq (mul_right_comm 4 c (2 ^ 1074))))))

rescaled : (x y c k h u : ℕ) → 2 ^ 52 * h ≡ 2 * u → k ≤ h → 2 * x ≤ 2 * y + c * k → 2 ^ 53 * x ≤ 2 ^ 53 * y + 2 * (u * c)
rescaled x y c k h u e l p = omega (arith, mul-le-mul_left c l, ap (λ (z : ℕ). c * z) e)

scaled : (a b c u : ℕ) → a ≤ b * c → a * u ≤ b * u * c
scaled a b c u h = le_trans (mul-le-mul_right u h) (le_of_eq (mul_right_comm b c u))

-- what a / c rounds to, with a bound of k
pub record Part (k : ℕ) (x : Float) (a c : ℕ) : Type 0 where
  pub at : ℕ
  pub value : HasValue x false at U
  pub near : Near G at U a c 2
  pub most : at ≤ k * U

pub part : (k a c : ℕ) → k < 4 → 0 < c → a ≤ k * c → Part k (round binary64 false a c) a c
part k a c K C l =
    let h : a < 4 * c = lt_of_le_of_lt l (mul-lt-mul_of_pos_right K C) in
    let small : k < 2 ^ 53 = lt_of_lt_of_le K (lit≤ tt) in
    let fine : k * 2 ^ 1074 < 2 ^ 1100 = lt_of_lt_of_le (mul-lt-mul_of_pos_right K (pow_pos 1074)) (lit≤ tt) in
    let g = bound-fits a c k 1074 C fine (scaled a k c (2 ^ 1074) l) in
    record {
      at = grid binary64 a c;
      value = round_val binary64 a c g;
      near = record {
        over = rescaled (grid binary64 a c * c) (a * 2 ^ 1074) c (2 ^ cut binary64 a c) (2 ^ 1023) (2 ^ 1074) refl (pow_mono (cut-le a c C h)) (grid-over binary64 a c C);
        under = omega (arith, rescaled (a * 2 ^ 1074) (grid binary64 a c * c) c (2 ^ cut binary64 a c) (2 ^ 1023) (2 ^ 1074) refl (pow_mono (cut-le a c C h)) (grid-under binary64 a c C));
      };
      most = grid-most binary64 a c k 1074 C small (lt_of_lt_of_le fine (lit≤ tt)) g (scaled a k c (2 ^ 1074) l);
    }
