-- `first_from` finds the first number at which a count is large enough; and a count that keeps pace with b / a gets there within one of b / a. Assumes nothing.
use Rattle.std.proofs.Common.{◌≡◌, ℕ, zero, suc, ◌+◌, ◌*◌, ◌<◌, ◌≤◌, Bool, true, false, not, T, leb, sym, refl, ◌∙◌, subst, inl, inr, true≢false, le_trans, le_of_eq, le_refl, le_of_suc-le-suc, add-zero, le_antisymm, eq-or-lt_of_le, lt_of_not-le, not-le_of_lt, arith, le→leb, leb→le}
use native.Mathlib.Nat.{le-suc}
use lib.Dec.{nleb→lt}
use Rattle.schedule.specs.Length.{first_from}

-- ---- the first number from n on at which p holds
record First (p : ℕ → Bool) (k n m : ℕ) : Type 0 where
  holds : T (p m)
  before : (j : ℕ) → n ≤ j → j < m → T (not (p j))
  least : n ≤ m
  most : m ≤ n + k

first : (p : ℕ → Bool) (k : ℕ) (b : Bool) (n : ℕ) → p n ≡ b → T (p (n + k)) → First p k n (first_from p k b n)
unfolding first_from
first p zero b n e h = record { holds = subst (λ (z : ℕ). T (p z)) (add-zero n) h; before = λ j l g. absurd (omega arith); least = le_refl n; most = omega arith }
first p (suc k) true n e h = record { holds = subst T (sym e) tt; before = λ j l g. absurd (omega arith); least = le_refl n; most = omega arith }
first p (suc k) false n e h =
    let shift : n + suc k ≡ suc n + k = omega arith in
    let r = first p k (p (suc n)) (suc n) refl (subst (λ (z : ℕ). T (p z)) shift h) in
    record {
      holds = r.holds;
      before = λ j l g. elim (eq-or-lt_of_le l) [ inl q ↦ subst (λ (z : ℕ). T (not (p z))) q (subst (λ (t : Bool). T (not t)) (sym e) tt) | inr w ↦ r.before j w g ];
      least = le_trans (le-suc n) r.least;
      most = le_trans r.most (le_of_eq (sym shift));
    }

-- ---- m is the first number from 1 on at which the count is N or more
pub record Reaches (count : ℕ → ℕ) (N m : ℕ) : Type 0 where
  pub some : 1 ≤ m
  pub reached : N ≤ count m
  pub before : (n : ℕ) → 1 ≤ n → n < m → count n < N

-- there is one such number
pub reaches-once : (count : ℕ → ℕ) (N m n : ℕ) → Reaches count N m → Reaches count N n → m ≡ n
reaches-once count N m n a b = le_antisymm (not-later n m b a) (not-later m n a b)
  where
    not-later : (m n : ℕ) → Reaches count N m → Reaches count N n → n ≤ m
    not-later m n a b = le_of_suc-le-suc (lt_of_not-le (λ (g : suc m ≤ n). not-le_of_lt (b.before m a.some g) a.reached))

pub first-reaches : (count : ℕ → ℕ) (N k : ℕ) → N ≤ count (1 + k)
    → (m : ℕ) → m ≡ first_from (λ n. leb N (count n)) k (leb N (count 1)) 1 → Reaches count N m × (m ≤ 1 + k)
first-reaches count N k h m e =
    let f = subst (First (λ n. leb N (count n)) k 1) (sym e) (first (λ n. leb N (count n)) k (leb N (count 1)) 1 refl (le→leb N (count (1 + k)) h)) in
    (record { some = f.least; reached = leb→le N (count m) f.holds; before = λ n l g. nleb→lt N (count n) (f.before n l g) }, f.most)

-- a * n is at most b until the count is N, and b or more then: so it is N first at b / a, or less than 1 after that
pub first-near : (count : ℕ → ℕ) (N a b K m : ℕ) → ((n : ℕ) → 1 ≤ n → n ≤ K → count n < N → a * n ≤ b) → ((n : ℕ) → 1 ≤ n → n ≤ K → N ≤ count n → b ≤ a * n)
    → Reaches count N m → m ≤ K → (b ≤ a * m) × (a * m ≤ b + a)
first-near count N a b K zero early late f l = absurd (omega (arith, f.some))
first-near count N a b K (suc zero) early late f l = (late 1 f.some l f.reached, omega arith)
first-near count N a b K (suc (suc n)) early late f l =
    let h = early (suc n) (omega arith) (omega arith) (f.before (suc n) (omega arith) (le_refl (suc (suc n)))) in
    (late (suc (suc n)) f.some l f.reached, omega arith)

-- ---- a number at which p holds, and at none before it, is what `first_from` finds
pub first-is : (p : ℕ → Bool) (k : ℕ) (b : Bool) (n m : ℕ) → p n ≡ b → n ≤ m → m ≤ n + k → p m ≡ true → ((j : ℕ) → n ≤ j → j < m → p j ≡ false) → first_from p k b n ≡ m
unfolding first_from
first-is p zero b n m e l h holds before = omega arith
first-is p (suc k) true n m e l h holds before = elim (eq-or-lt_of_le l) [ inl q ↦ q | inr w ↦ absurd (true≢false (sym e ∙ before n (le_refl n) w)) ]
first-is p (suc k) false n m e l h holds before = elim (eq-or-lt_of_le l) [
  | inl q ↦ absurd (true≢false (sym holds ∙ subst (λ (z : ℕ). p z ≡ false) q e))
  | inr w ↦ first-is p k (p (suc n)) (suc n) m refl w (omega arith) holds (λ j i g. before j (le_trans (le-suc n) i) g)
]
