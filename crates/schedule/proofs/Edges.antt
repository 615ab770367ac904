-- A digit's first sample is in its tone, also on the digit's edge: there t = n / r is p / 5 rounded, whatever the rate, and what the clock tells of
-- those 76 times is computed. Assumes nothing.
use Rattle.std.proofs.Common.{◌≡◌, ℕ, zero, suc, ◌+◌, ◌*◌, ◌^◌, ◌<◌, ◌≤◌, Bool, true, false, not, ◌&&◌, ◌||◌, leb, sym, refl, ◌∙◌, subst, inl, inr, true≢false, le_trans, le_of_eq, le_of_suc-le-suc, lt_of_le_of_lt, mul_comm, le_antisymm, eq-or-lt_of_le, lt_of_not-le, arith, lit<, lit≤, pow_pos, le-leb}
use mathlib.Core.Bool.{and-eq-true_iff}
use lib.Ieee.{binary64, sub, mul, div, lt, of_int, of_bits}
use lib.Ieee.Scale.{round_same}
use Rattle.math.specs.Float.{of_nat}
use Rattle.math.specs.Whole.{floor_of}
use Rattle.math.proofs.Values.{nat-value, div-by}
use Rattle.schedule.specs.Time.{time_at}
use Rattle.schedule.specs.Dialling.{digit_at, in_tone}
use Rattle.schedule.specs.Length.{dialling_length}
use Rattle.schedule.proofs.Samples.{rate-value}
use Rattle.schedule.proofs.Digits.{digit-late, in-tone}
use Rattle.schedule.proofs.Lengths.{digit_after, dialling-ends, dialling-near, dialling-range}

-- ---- on the edge
pub edge-time : (r n p : ℕ) → 8000 ≤ r → r ≤ 192000 → n ≤ 2 ^ 32 → p ≤ 76 → p * r ≡ 5 * n → time_at r n ≡ time_at 5 p
edge-time r n p lo hi N P e =
    div-by binary64 (of_nat n) (of_nat r) n r 1 (pow_pos 0) pos (nat-value n (le_trans N (lit≤ tt))) (rate-value r hi)
    ∙ round_same binary64 false n r p 5 pos (lit< tt) (mul_comm n 5 ∙ sym e)
    ∙ sym (div-by binary64 (of_nat p) (of_nat 5) p 5 1 (pow_pos 0) (lit< tt) (nat-value p (le_trans P (lit≤ tt))) (rate-value 5 (lit≤ tt)))
  where
    pos : 0 < r
    pos = omega arith

-- where p / 5 is told to be digit p and not the one before, it is in tone
abbrev sounds : ℕ → Bool
sounds p = not (leb p (digit_at (time_at 5 p))) || in_tone (time_at 5 p)

abbrev pub all_below : ℕ → (ℕ → Bool) → Bool
all_below zero f = true
all_below (suc n) f = f n && all_below n f

pub below : (n : ℕ) (f : ℕ → Bool) → all_below n f ≡ true → (k : ℕ) → k < n → f k ≡ true
below zero f e k h = absurd (omega arith)
below (suc n) f e k h =
    let (last, rest) = (and-eq-true_iff (f n) (all_below n f)).0 e in
    elim (eq-or-lt_of_le (le_of_suc-le-suc h)) [ inl q ↦ subst (λ (z : ℕ). f z ≡ true) (sym q) last | inr l ↦ below n f rest k l ]

edges : all_below 76 sounds ≡ true
unfolding in_tone digit_at floor_of div sub mul lt of_int of_bits
edges = refl

-- ---- the digit at position p, of which the p digits before it take `dialling_length`
module _ (r : ℕ) (lo : 8000 ≤ r) (hi : r ≤ 192000) (p : ℕ) (some : 0 < p) (P : p ≤ 75) where
  abbrev n : ℕ
  n = dialling_length r p

  short : n ≤ 2 ^ 32
  short = le_trans (dialling-range r lo hi p (le_trans P (lit≤ tt))).1 (lit≤ tt)

  reached : p ≤ digit_after r n
  reached = (dialling-ends r lo hi p (le_trans P (lit≤ tt)) some).reached

  begins : digit_at (time_at r n) ≡ p
  begins = le_antisymm (le_of_suc-le-suc (lt_of_not-le not-next)) reached
    where
      near : 5 * n ≤ p * r + 5
      near = (dialling-near r lo hi p (le_trans P (lit≤ tt))).1

      apart : (n x : ℕ) → 5 * n ≤ x + 5 → r + x ≤ 5 * n → ⊥
      apart n x h k = omega arith

      not-next : suc p ≤ digit_after r n → ⊥
      not-next g = apart n (p * r) near (le_trans (le_of_eq (omega arith)) (digit-late r lo hi n (dialling-range r lo hi p (le_trans P (lit≤ tt))).0 short (suc p) g))

  on_edge : p * r ≡ 5 * n → in_tone (time_at r n) ≡ true
  on_edge e = rw (edge-time r n p lo hi short (le_trans P (lit≤ tt)) e) (go (leb p (digit_at (time_at 5 p))) (in_tone (time_at 5 p)) (below 76 sounds edges p (lt_of_le_of_lt P (lit< tt))) told)
    where
      told : leb p (digit_at (time_at 5 p)) ≡ true
      told = rw (← edge-time r n p lo hi short (le_trans P (lit≤ tt)) e) (le-leb p (digit_after r n) reached)

      go : (a b : Bool) → not a || b ≡ true → a ≡ true → b ≡ true
      go true b h k = h
      go false b h k = absurd (true≢false (sym k))

  -- its first sample is in its tone
  pub digit-begins : (digit_at (time_at r n) ≡ p) × (in_tone (time_at r n) ≡ true)
  digit-begins = (begins, elim (eq-or-lt_of_le (dialling-near r lo hi p (le_trans P (lit≤ tt))).0) [ inl e ↦ on_edge e | inr l ↦ off l ])
    where
      middle : (n x : ℕ) → 5 * n ≤ x + 5 → 10 * n < 2 * x + r
      middle n x h = omega arith

      off : p * r < 5 * n → in_tone (time_at r n) ≡ true
      off l =
          let near = middle n (p * r) (dialling-near r lo hi p (le_trans P (lit≤ tt))).1 in
          (in-tone r lo hi n short p P l (le_trans near (le_of_eq (omega arith)))).1
