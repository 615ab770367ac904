-- How long the stages are: Dialling and the stages of bits end at the first sample that 01 names, and each stage has 1 sample or more and a bound that its count can hold. Assumes nothing.
use Rattle.std.proofs.Common.{◌≡◌, ℕ, zero, suc, ◌+◌, ◌*◌, ◌^◌, ◌<◌, ◌≤◌, refl, subst, le_trans, le_of_suc-le-suc, lt_of_le_of_lt, zero-lt-suc, mul-le-mul, le_antisymm, lt_of_not-le, not-le_of_lt, arith, lit<, lit≤}
use Rattle.math.specs.Float.{one}
use Rattle.schedule.specs.Time.{time_at, samples_in}
use Rattle.schedule.specs.Dialling.{digit_at}
use Rattle.schedule.specs.Symbols.{symbol_step, done_after}
use Rattle.schedule.specs.Length.{click_time, ringback_time, ansam_time, cj_silence, bits_length, dialling_length}
use Rattle.schedule.proofs.Samples.{click-near, silence-near, dial-tone-samples, ringback-samples, ansam-samples}
use Rattle.schedule.proofs.First.{Reaches, first-reaches, first-near}
use Rattle.schedule.proofs.Symbols.{bits-early, bits-late}
use Rattle.schedule.proofs.Digits.{digit-late, digit-past}

-- the digit's number after n samples, and the bits done
abbrev pub digit_after : ℕ → ℕ → ℕ
digit_after r n = digit_at (time_at r n)

abbrev pub bits_after : ℕ → ℕ → ℕ
bits_after r n = done_after (symbol_step r) n

pub dialling-none : (r : ℕ) → dialling_length r 0 ≡ 1
unfolding dialling_length
dialling-none r = refl

module _ (r : ℕ) (lo : 8000 ≤ r) (hi : r ≤ 192000) where
  -- ---- Dialling
  dialling-first : (d : ℕ) → d ≤ 76 → 0 < d → Reaches (digit_after r) d (dialling_length r d) × (dialling_length r d ≤ 4000001)
  unfolding dialling_length
  dialling-first zero D P = absurd (omega arith)
  dialling-first (suc d) D P = first-reaches (digit_after r) (suc d) 4000000 (digit-past r lo hi 4000001 (lit< tt) (lit≤ tt) (suc d) D (lt_of_le_of_lt (mul-le-mul D hi) (lit< tt))) (dialling_length r (suc d)) refl

  -- it ends at the first sample at which i >= d
  pub dialling-ends : (d : ℕ) → d ≤ 76 → 0 < d → Reaches (digit_after r) d (dialling_length r d)
  dialling-ends d D P = (dialling-first d D P).0

  -- d * r / 5, or within 1 after that
  pub dialling-near : (d : ℕ) → d ≤ 76 → (d * r ≤ 5 * dialling_length r d) × (5 * dialling_length r d ≤ d * r + 5)
  dialling-near zero D = rw (dialling-none r) (omega arith, omega arith)
  dialling-near (suc d) D =
      let f = dialling-first (suc d) D (zero-lt-suc d) in
      first-near (digit_after r) (suc d) 5 (suc d * r) (2 ^ 32) (dialling_length r (suc d)) early (λ n some most h. digit-late r lo hi n some most (suc d) h) f.0 (le_trans f.1 (lit≤ tt))
    where
      early : (n : ℕ) → 1 ≤ n → n ≤ 2 ^ 32 → digit_after r n < suc d → 5 * n ≤ suc d * r
      early n some most h = le_of_suc-le-suc (lt_of_not-le (λ (g : suc (suc d * r) ≤ 5 * n). not-le_of_lt h (digit-past r lo hi n some most (suc d) D g)))

  -- so at d * r / 5 rounded down, if i >= d there, and one sample later if not
  module _ (d : ℕ) (D : d ≤ 76) (P : 0 < d) (n : ℕ) (most : 5 * n ≤ d * r) (least : d * r < 5 * n + 5) where
    pub dialling-there : d ≤ digit_after r n → dialling_length r d ≡ n
    dialling-there h =
        let near = dialling-near d D in
        let ends = dialling-ends d D P in
        let some : 1 ≤ n = omega (arith, mul-le-mul P lo) in
        le_antisymm (le_of_suc-le-suc (lt_of_not-le (λ (g : suc n ≤ dialling_length r d). not-le_of_lt (ends.before n some g) h))) (omega arith)

    pub dialling-after : digit_after r n < d → dialling_length r d ≡ n + 1
    dialling-after h = go (dialling_length r d) (dialling-near d D) (dialling-ends d D P).reached
      where
        go : (m : ℕ) → (d * r ≤ 5 * m) × (5 * m ≤ d * r + 5) → d ≤ digit_after r m → m ≡ n + 1
        go m near reached =
            let past : m ≡ n → ⊥ = λ e. not-le_of_lt h (subst (λ (z : ℕ). d ≤ digit_after r z) e reached) in
            omega arith

  -- ---- the stages of bits
  bits-first : (N : ℕ) → N ≤ 300 → Reaches (bits_after r) N (bits_length r N) × (bits_length r N ≤ 1000001)
  unfolding bits_length
  bits-first N B = first-reaches (bits_after r) N 1000000 enough (bits_length r N) refl
    where
      enough : N ≤ bits_after r 1000001
      enough = le_of_suc-le-suc (lt_of_not-le (λ (g : suc (bits_after r 1000001) ≤ N). not-le_of_lt (lit< tt) (le_trans (bits-early r lo hi N 1000001 B g) (mul-le-mul B hi))))

  -- they end at the first sample at which all N are done
  pub bits-end : (N : ℕ) → N ≤ 300 → Reaches (bits_after r) N (bits_length r N)
  bits-end N B = (bits-first N B).0

  -- and no sample before has them done, the stage's beginning included
  pub bits-before : (N : ℕ) → 0 < N → N ≤ 300 → (n : ℕ) → n < bits_length r N → bits_after r n < N
  unfolding done_after
  bits-before N P B zero h = P
  bits-before N P B (suc n) h = (bits-end N B).before (suc n) (zero-lt-suc n) h

  -- N * r / 300, or within 1 after that
  pub bits-near : (N : ℕ) → N ≤ 300 → (N * r ≤ 300 * bits_length r N) × (300 * bits_length r N ≤ N * r + 300)
  bits-near N B =
      let f = bits-first N B in
      first-near (bits_after r) N 300 (N * r) (2 ^ 32) (bits_length r N) (λ n some most h. bits-early r lo hi N n B h) (λ n some most h. bits-late r lo hi N n most h) f.0 (le_trans f.1 (lit≤ tt))

  -- ---- each stage, at least and at most
  pub click-range : (1 ≤ samples_in click_time r) × (samples_in click_time r ≤ 9600)
  click-range = let h = click-near r lo hi in (omega arith, omega arith)

  pub dial-tone-range : (1 ≤ samples_in one r) × (samples_in one r ≤ 192000)
  dial-tone-range = let h = dial-tone-samples r lo hi in (omega arith, omega arith)

  pub dialling-range : (d : ℕ) → d ≤ 76 → (1 ≤ dialling_length r d) × (dialling_length r d ≤ 2918401)
  dialling-range zero D = rw (dialling-none r) (lit≤ tt, lit≤ tt)
  dialling-range (suc d) D =
      let h = dialling-near (suc d) D in
      let most : suc d * r ≤ 14592000 = mul-le-mul D hi in
      ((dialling-ends (suc d) D (zero-lt-suc d)).some, omega arith)

  pub ringback-range : (1 ≤ samples_in ringback_time r) × (samples_in ringback_time r ≤ 768000)
  ringback-range = let h = ringback-samples r lo hi in (omega arith, omega arith)

  pub bits_range : (N : ℕ) → N ≤ 300 → (1 ≤ bits_length r N) × (bits_length r N ≤ 192001)
  bits_range N B =
      let h = bits-near N B in
      let most : N * r ≤ 57600000 = mul-le-mul B hi in
      ((bits-end N B).some, omega arith)

  pub ansam-range : (1 ≤ samples_in ansam_time r) × (samples_in ansam_time r ≤ 576000)
  ansam-range = let h = ansam-samples r lo hi in (omega arith, omega arith)

  pub silence-range : (1 ≤ samples_in cj_silence r) × (samples_in cj_silence r ≤ 14400)
  silence-range = let h = silence-near r lo hi in (omega arith, omega arith)
