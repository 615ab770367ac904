-- The denominators of the Taylor sums are what they are said to be. Assumes nothing.
use Rattle.std.proofs.Common.{◌≡◌, ℕ, zero, suc, ◌+◌, ◌*◌, ◌^◌, ap, ◌∙◌, pow-suc, arith}
use native.Mathlib.Nat.{pow-zero}
use Rattle.handset.specs.Sine.{denominator, denominator3, growth3, growth5}

unfoldable pub factorial : ℕ → ℕ
factorial zero = 1
factorial (suc n) = suc n * factorial n

two : (d k a b m : ℕ) → a ≡ suc k → b ≡ suc (suc k) → m ≡ suc (suc k) → d ^ k * factorial k * (d * d * (a * b)) ≡ d ^ m * factorial m
unfolding factorial
two d k a b m ea eb em = rw (ea, eb, em, pow-suc, pow-suc) (turn (d ^ k) (factorial k) d (suc k) (suc (suc k)))
  where
    turn : (x y d a b : ℕ) → x * y * (d * d * (a * b)) ≡ x * d * d * (b * (a * y))
    turn x y d a b = omega arith

to-wide : (d j w : ℕ) → w ≡ d ^ (4 * j + 1) * factorial (4 * j + 1) → w * growth3 d j ≡ d ^ (4 * j + 3) * factorial (4 * j + 3)
to-wide d j w e = ap (λ (x : ℕ). x * growth3 d j) e ∙ two d (4 * j + 1) (4 * j + 2) (4 * j + 3) (4 * j + 3) (omega arith) (omega arith) (omega arith)

pub whole_is : (d j : ℕ) → denominator d j ≡ d ^ (4 * j + 1) * factorial (4 * j + 1)
unfolding denominator factorial
whole_is d zero = rw (pow-suc, pow-zero) (omega arith)
whole_is d (suc j) =
    ap (λ (x : ℕ). x * growth5 d j) (to-wide d j (denominator d j) (whole_is d j))
    ∙ two d (4 * j + 3) (4 * j + 4) (4 * j + 5) (4 * suc j + 1) (omega arith) (omega arith) (omega arith)

pub wide_is : (d j : ℕ) → denominator3 d j ≡ d ^ (4 * j + 3) * factorial (4 * j + 3)
wide_is d j = to-wide d j (denominator d j) (whole_is d j)
