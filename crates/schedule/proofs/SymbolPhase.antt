-- The symbol phase stays in [0, 1): with a step of at most 1 / 16 the sum is at most 17 / 16, and less 1 that is at most 1 / 16. Assumes nothing.
use Rattle.std.proofs.Common.{◌≡◌, ℕ, ◌*◌, ◌^◌, ◌≤◌, Bool, true, false, cond, T, refl, subst, inl, inr, le_of_lt, mul-le-mul_right, mul_assoc, lit<, lit≤, pow_pos}
use lib.Ieee.{Float, binary64, round, add, le, lt, of_bits, fits}
use lib.Ieee.Fits.{add-fits, sub-fits}
use Rattle.math.specs.Float as float
use Rattle.math.specs.Float.{one, plus, minus}
use Rattle.math.proofs.Values.{one_value}
use Rattle.math.proofs.Error.{rescale}
use Rattle.math.proofs.Pattern.{magnitude}
use Rattle.math.proofs.Wrapping.{within, wrapped, negative-zero, Phase, in-range, wrap-stays}
use Rattle.schedule.specs.Symbols.{symbol_step, symbol_ends, next_phase, next_phase_by, in_symbol}
use Rattle.schedule.proofs.Symbols.{step_value}

phase-of : (p : Float) → T (fits binary64 p) → T (in_symbol p) → Phase (2 ^ 1074) p
phase-of p h k = elim (in-range one (2 ^ 1074) (one_value (2 ^ 1074)) p h k) [
  | inl z ↦ inl z
  | inr w ↦ inr (record { at = magnitude w.0.e w.0.t; value = w.1; most = le_of_lt w.2 })
]

step_of : (r : ℕ) → 8000 ≤ r → r ≤ 192000 → Phase (2 ^ 1070) (symbol_step r)
step_of r lo hi =
    let q = step_value r lo hi in
    inr (record { at = q.0 * 2 ^ 1012; value = rescale (symbol_step r) false q.0 (2 ^ 62) (q.0 * 2 ^ 1012) (2 ^ 1074) (pow_pos 62) (mul_assoc q.0 (2 ^ 1012) (2 ^ 62)) q.1; most = mul-le-mul_right (2 ^ 1012) q.2 })

negative-zeros : T (within one (wrapped one negative-zero negative-zero))
unfolding add le lt of_bits round
negative-zeros = tt

-- the phase at a fresh start
pub zero-in-symbol : T (in_symbol float.zero)
unfolding le lt of_bits
zero-in-symbol = tt

pub next-phase-fits : (s p : Float) → T (fits binary64 (next_phase s p))
unfolding next_phase
next-phase-fits s p = go (symbol_ends s p)
  where
    go : (b : Bool) → T (fits binary64 (next_phase_by b (plus p s)))
    go true = sub-fits binary64 (plus p s) one
    go false = add-fits binary64 p s

next-is : (s p : Float) → wrapped one s p ≡ next_phase s p
unfolding next_phase symbol_ends
next-is s p = go (le one (plus p s)) (plus p s)
  where
    go : (b : Bool) (x : Float) → cond b (minus x one) x ≡ next_phase_by b x
    go true x = refl
    go false x = refl

pub phase-stays : (r : ℕ) → 8000 ≤ r → r ≤ 192000 → (p : Float) → T (fits binary64 p) → T (in_symbol p) → T (in_symbol (next_phase (symbol_step r) p))
phase-stays r lo hi p h k =
    subst (λ (x : Float). T (in_symbol x)) (next-is (symbol_step r) p)
    (wrap-stays one (2 ^ 1074) (one_value (2 ^ 1074)) 17 1070 1 1070 (lit< tt) (lit< tt) (lit< tt) (lit< tt) (lit≤ tt) (lit< tt)
    p (symbol_step r) (2 ^ 1074) (2 ^ 1070) (phase-of p h k) (step_of r lo hi) (lit≤ tt) negative-zeros)
