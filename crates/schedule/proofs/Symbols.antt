-- When N bits are done: N * r / 300 samples on, or within one after that. In units of 2 ^ -62, the phase and the bits done differ from n steps by at most 2 ^ 10 for each sample,
-- and the step from 300 / r by half of 2 ^ 5; in all that is less than one sample's worth. Assumes nothing.
use Rattle.std.proofs.Common.{◌≡◌, ℕ, zero, suc, ◌+◌, ◌-◌, ◌*◌, ◌^◌, ◌<◌, ◌≤◌, Bool, true, false, not, T, leb, sym, refl, ap, ◌∙◌, subst, zero-le, le_of_eq, le_of_suc-le-suc, le_of_lt, mul-le-mul_right, mul-le-mul, mul-le-mul_left, lt_of_not-le, zero-mul, arith, lit<, lit≤, leb→le, pow_pos}
use lib.Dec.{nleb→lt}
use lib.Ieee.{Float, binary64, le}
use lib.Ieee.Exact.{HasValue}
use Rattle.math.specs.Float.{one, of_nat, plus}
use Rattle.math.proofs.Error.{Rounded, round-at}
use Rattle.math.proofs.Values.{zero-value, one_value, nat-value, div-by, add_at, sub_at, le-at}
use Rattle.schedule.specs.Symbols.{symbol_step, symbol_ends, next_phase, next_phase_by, phase_after, done_by, done_after}
use Rattle.schedule.proofs.Samples.{rate-value}
use Rattle.math.proofs.Units.{Near, near}

-- ---- after n samples with the step S * 2 ^ -62: the phase, and how far it is, with the bits done, from n steps
record After (s : Float) (S n : ℕ) : Type 0 where
  at : ℕ
  value : HasValue (phase_after s n) false at (2 ^ 62)
  below : at < 2 ^ 62
  over : done_after s n * 2 ^ 62 + at ≤ n * S + 1024 * n
  under : n * S ≤ done_after s n * 2 ^ 62 + at + 1024 * n

module _ (s : Float) (S : ℕ) (step : HasValue s false S (2 ^ 62)) (small : S ≤ 2 ^ 58) where
  start : After s S 0
  unfolding phase_after done_after
  start = record { at = 0; value = zero-value (2 ^ 62); below = lit< tt; over = zero-le; under = le_of_eq (zero-mul S) }

  done-step : (n : ℕ) (b : Bool) → le one (plus (phase_after s n) s) ≡ b → done_after s (suc n) ≡ done_by b (done_after s n)
  unfolding done_after symbol_ends
  done-step n b e = ap (λ (t : Bool). done_by t (done_after s n)) e

  phase-step : (n : ℕ) (b : Bool) → le one (plus (phase_after s n) s) ≡ b → phase_after s (suc n) ≡ next_phase_by b (plus (phase_after s n) s)
  unfolding phase_after next_phase symbol_ends
  phase-step n b e = ap (λ (t : Bool). next_phase_by t (plus (phase_after s n) s)) e

  then : (n : ℕ) → After s S n → After s S (suc n)
  then n a = go (leb (2 ^ 62) y.at) (le-at one x (2 ^ 62) y.at (2 ^ 62) (pow_pos 62) (one_value (2 ^ 62)) y.value) (leb→le (2 ^ 62) y.at) (nleb→lt (2 ^ 62) y.at)
    where
      x : Float
      x = plus (phase_after s n) s

      y : Near 62 10 (a.at + S) x
      y = subst (Near 62 10 (a.at + S)) (sym (add_at binary64 (phase_after s n) s a.at S (2 ^ 62) (pow_pos 62) a.value step)) (near 10 1012 10 (a.at + S) refl (lit≤ tt) (omega arith))

      go : (b : Bool) → le one x ≡ b → (T b → 2 ^ 62 ≤ y.at) → (T (not b) → y.at < 2 ^ 62) → After s S (suc n)
      go true e g l =
          let h = g tt in
          let z : Near 62 10 (y.at - 2 ^ 62) (phase_after s (suc n)) =
          subst (Near 62 10 (y.at - 2 ^ 62)) (sym (phase-step n true e ∙ sub_at binary64 x one y.at (2 ^ 62) (2 ^ 62) (pow_pos 62) y.value (one_value (2 ^ 62)) h))
          (near 10 1012 10 (y.at - 2 ^ 62) refl (lit≤ tt) (omega (arith, y.over))) in
          record { at = z.at; value = z.value; below = omega (arith, y.over); over = rw (done-step n true e) (omega (arith, y.over)); under = rw (done-step n true e) (omega (arith, y.under)) }
      go false e g l =
          record {
            at = y.at;
            value = subst (λ (t : Float). HasValue t false y.at (2 ^ 62)) (sym (phase-step n false e)) y.value;
            below = l tt;
            over = rw (done-step n false e) (omega (arith, y.over));
            under = rw (done-step n false e) (omega (arith, y.under));
          }

  after : (n : ℕ) → After s S n
  after zero = start
  after (suc n) = then n (after n)

-- ---- the step, and the pace that it keeps: P is n * S * r, Q is n * r, M is N * r
step_small : (S r : ℕ) → 8000 ≤ r → r ≤ 192000 → 2 * (S * r) ≤ 2 * (300 * 2 ^ 62) + r * 2 ^ 5 → S ≤ 2 ^ 58
step_small S r lo hi h = le_of_suc-le-suc (lt_of_not-le (λ (g : suc (2 ^ 58) ≤ S). (omega (arith, mul-le-mul_right r (le_of_lt g)))))

few : (Q M n : ℕ) → 300 * 2 ^ 62 * n ≤ 2 ^ 62 * M + 1040 * Q → Q ≤ 192000 * n → 299 * n ≤ M
few Q M n h k = omega arith

within : (Q M n : ℕ) → 300 * 2 ^ 62 * n ≤ 2 ^ 62 * M + 1040 * Q → Q ≤ 192000 * n → 299 * n ≤ M → M ≤ 57600000 → 300 * n ≤ M
within Q M n h k l g = omega arith

early : (P Q M n : ℕ) → P ≤ 2 ^ 62 * M + 1024 * Q → 600 * 2 ^ 62 * n ≤ 2 * P + 32 * Q → Q ≤ 192000 * n → M ≤ 57600000 → 300 * n ≤ M
early P Q M n h k l g = let pace : 300 * 2 ^ 62 * n ≤ 2 ^ 62 * M + 1040 * Q = omega arith in within Q M n pace l (few Q M n pace l) g

late : (P Q M n : ℕ) → 2 ^ 62 * M ≤ P + 1024 * Q → 2 * P ≤ 600 * 2 ^ 62 * n + 32 * Q → Q ≤ 192000 * n → n ≤ 2 ^ 32 → M ≤ 300 * n
late P Q M n h k l g = omega arith

module _ (r : ℕ) (lo : 8000 ≤ r) (hi : r ≤ 192000) where
  step : Rounded 62 5 300 r (symbol_step r)
  unfolding symbol_step
  step =
      let some : 0 < r = omega arith in
      subst (Rounded 62 5 300 r) (sym (div-by binary64 (of_nat 300) (of_nat r) 300 r 1 (pow_pos 0) some (nat-value 300 (lit≤ tt)) (rate-value r hi)))
      (round-at 10 1012 5 300 r refl some (omega arith) (omega arith) (lit≤ tt))

  -- the step is at most 1 / 16
  pub step_value : (S : ℕ) × HasValue (symbol_step r) false S (2 ^ 62) × (S ≤ 2 ^ 58)
  step_value = (step.at, step.value, step_small step.at r lo hi step.over)

  after-samples : (n : ℕ) → After (symbol_step r) step.at n
  after-samples = after (symbol_step r) step.at step.value (step_small step.at r lo hi step.over)

  -- while fewer than N bits are done
  pub bits-early : (N n : ℕ) → N ≤ 300 → done_after (symbol_step r) n < N → 300 * n ≤ N * r
  bits-early N n B h =
      let a = after-samples n in
      let S = step.at in
      let p : n * S ≤ 2 ^ 62 * N + 1024 * n = omega arith in
      let P = mul-le-mul_right r p in
      let k = mul-le-mul_right n step.under in
      early (n * S * r) (n * r) (N * r) n (omega arith) (omega arith) (omega (arith, mul-le-mul_left n hi)) (mul-le-mul B hi)

  -- once N bits are done
  pub bits-late : (N n : ℕ) → n ≤ 2 ^ 32 → N ≤ done_after (symbol_step r) n → N * r ≤ 300 * n
  bits-late N n B h =
      let a = after-samples n in
      let S = step.at in
      let p : 2 ^ 62 * N ≤ n * S + 1024 * n = omega arith in
      let P = mul-le-mul_right r p in
      let k = mul-le-mul_right n step.over in
      late (n * S * r) (n * r) (N * r) n (omega arith) (omega arith) (omega (arith, mul-le-mul_left n hi)) B
