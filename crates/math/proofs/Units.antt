-- A number of units of 2 ^ -(52 + p), rounded: exact below 2 ^ 52 of them, and off by half of 2 ^ i at most below 2 ^ (53 + i). Assumes nothing.
use mathlib.Core.Path.{◌≡◌, sym, ap, ◌∙◌}
use mathlib.Core.Bool.{Bool, true, false, not}
use Prim.Native.Nat.{ℕ, suc, ◌+◌, ◌*◌, ◌^◌, ◌≤◌, ◌<◌}
use native.Mathlib.Nat.{le_trans, le_of_eq, lt_of_lt_of_le, mul_assoc, mul-le-mul_left, mul-le-mul_right, mul-lt-mul_of_pos_right, le_of_mul-le-mul_right}
use native.Mathlib.Omega.{arith}
use lib.Dec.{T, ltb, ltb→lt, nltb→le, lit≤}
use lib.Pow.{pow-add, pow_pos, pow_mono}
use lib.Ieee.{Float, binary64, round}
use lib.Ieee.Exact.{HasValue, round_exact}
use Rattle.math.proofs.Error.{round-at}

-- w units of 2 ^ -u, and `at` of them, with twice the distance at most 2 ^ i
pub record Near (u i w : ℕ) (x : Float) : Type 0 where
  pub at : ℕ
  pub value : HasValue x false at (2 ^ u)
  pub over : 2 * at ≤ 2 * w + 2 ^ i
  pub under : 2 * w ≤ 2 * at + 2 ^ i

pub near : (p v i w : ℕ) → p + v ≡ 1022 → v + i ≤ 2012 → w < 2 ^ (53 + i) → Near (52 + p) i w (round binary64 false w (2 ^ (52 + p)))
near p v i w pv I h = go (ltb w (2 ^ 52)) (ltb→lt w (2 ^ 52)) (nltb→le w (2 ^ 52))
  where
    c : ℕ
    c = 2 ^ (52 + p)

    cancel : (x y c e : ℕ) → 0 < c → 2 * (x * c) ≤ 2 * (y * c) + c * e → 2 * x ≤ 2 * y + e
    cancel x y c e C l = le_of_mul-le-mul_right {m = 2 * x} {n = 2 * y + e} (omega arith) C

    go : (b : Bool) → (T b → w < 2 ^ 52) → (T (not b) → 2 ^ 52 ≤ w) → Near (52 + p) i w (round binary64 false w c)
    go true l g =
        let few : v ≤ 1022 = omega arith in
        let whole : 1074 ≡ v + (52 + p) = omega arith in
        record {
          at = w;
          value = round_exact binary64 false w c w v (pow_pos (52 + p)) (lt_of_lt_of_le (l tt) (lit≤ tt)) (lt_of_lt_of_le (mul-lt-mul_of_pos_right (l tt) (pow_pos v)) (le_trans (mul-le-mul_left (2 ^ 52) (pow_mono few)) (lit≤ tt)))
              (ap (λ (z : ℕ). w * 2 ^ z) whole ∙ ap (λ (z : ℕ). w * z) (pow-add 2 v (52 + p)) ∙ sym (mul_assoc w (2 ^ v) c));
          over = omega arith;
          under = omega arith;
        }
    go false l g =
        let turned : 53 + i + p ≡ suc i + (52 + p) = omega arith in
        let r = round-at p v i w c pv (pow_pos (52 + p)) (le_trans (le_of_eq (pow-add 2 52 p)) (mul-le-mul_right (2 ^ p) (g tt)))
        (lt_of_lt_of_le (mul-lt-mul_of_pos_right h (pow_pos p)) (le_of_eq (sym (pow-add 2 (53 + i) p) ∙ ap (λ (z : ℕ). 2 ^ z) turned ∙ pow-add 2 (suc i) (52 + p)))) I in
        record { at = r.at; value = r.value; over = cancel r.at w c (2 ^ i) (pow_pos (52 + p)) r.over; under = cancel w r.at c (2 ^ i) (pow_pos (52 + p)) r.under }
