-- R(s) for 01's durations: exact for whole seconds, within a half for 0.05 and 0.075. Those two are G * 2 ^ -57, off k / 40 by 2 ^ -58,
-- and neither that nor the product's rounding reaches the 1 / 40 by which k * r / 40 misses the next half. Assumes nothing.
use Rattle.std.proofs.Common.{◌≡◌, ℕ, ◌+◌, ◌*◌, ◌/◌, ◌^◌, ◌<◌, ◌≤◌, false, sym, refl, ◌∙◌, subst, le_trans, lt_of_lt_of_le, lt_of_le_of_lt, mul-le-mul_right, mul-le-mul, one-mul, arith, lit<, lit≤, pow_pos}
use lib.Ieee.{Float, binary64, of_bits}
use lib.Ieee.Exact.{HasValue}
use lib.Ieee.Back.{round_whole}
use Rattle.math.specs.Float.{one, of_nat, times}
use Rattle.math.specs.Whole.{round_of}
use Rattle.math.proofs.Error.{Rounded, round-at}
use Rattle.math.proofs.Values.{one_value, nat-value, mul-by}
use Rattle.math.proofs.Whole.{half_at}
use Rattle.schedule.specs.Time.{samples_in}
use Rattle.schedule.specs.Length.{click_time, ringback_time, ansam_time, cj_silence}

pub rate-value : (r : ℕ) → r ≤ 192000 → HasValue (of_nat r) false r 1
rate-value r hi = nat-value r (le_trans hi (lit≤ tt))

-- ---- a whole number of seconds
whole-seconds : (s : Float) (k r : ℕ) → HasValue s false k 1 → k ≤ 4 → r ≤ 192000 → samples_in s r ≡ k * r
unfolding samples_in
whole-seconds s k r v K hi =
    half_at (times s (of_nat r)) (k * r) 1 (pow_pos 0)
    (subst (λ (z : Float). HasValue z false (k * r) 1) (sym (mul-by binary64 s (of_nat r) k 1 r 1 (pow_pos 0) (pow_pos 0) v (rate-value r hi))) (round_whole binary64 false (k * r) (le_trans (mul-le-mul K hi) (lit≤ tt))))
    (lt_of_le_of_lt (mul-le-mul K hi) (lit< tt))
    ∙ omega arith

-- ---- k fortieths of a second, up to the constant's own rounding
small : (A X : ℕ) → 2 * (A * 2 ^ 57) ≤ 2 * (X * 2 ^ 52) + 2 ^ 57 * 2 ^ 13 → X < 2 ^ 71 → A < 2 ^ 67
small A X h k = omega arith

module _ (s : Float) (G k r : ℕ) (value : HasValue s false G (2 ^ 57)) (least : 2 ^ 52 ≤ G) (over : 40 * G ≤ k * 2 ^ 57 + 16) (under : k * 2 ^ 57 ≤ 40 * G + 16) (K : k ≤ 3) (lo : 8000 ≤ r) (hi : r ≤ 192000) where
  fortieths : (40 * samples_in s r ≤ k * r + 20) × (k * r ≤ 40 * samples_in s r + 20)
  unfolding samples_in
  fortieths =
      let x = times s (of_nat r) in
      let low : 2 ^ 52 * 8000 ≤ G * r = mul-le-mul least lo in
      let top : 40 * G ≤ 3 * 2 ^ 57 + 16 = omega arith in
      let high : 40 * G * r ≤ (3 * 2 ^ 57 + 16) * 192000 = mul-le-mul top hi in
      let w : Rounded 52 13 (G * r) (2 ^ 57) x =
      subst (Rounded 52 13 (G * r) (2 ^ 57)) (sym (mul-by binary64 s (of_nat r) G (2 ^ 57) r 1 (pow_pos 57) (pow_pos 0) value (rate-value r hi)))
      (round-at 0 1022 13 (G * r) (2 ^ 57) refl (pow_pos 57) (omega arith) (omega arith) (lit≤ tt)) in
      let e : round_of x ≡ (2 * w.at + 2 ^ 52) / (2 * 2 ^ 52) = half_at x w.at (2 ^ 52) (pow_pos 52) w.value (lt_of_lt_of_le (small w.at (G * r) w.over (omega arith)) (lit≤ tt)) in
      let o = mul-le-mul_right r over in
      let u = mul-le-mul_right r under in
      (omega arith, omega arith)

click-value : HasValue click_time false 0x19_9999_9999_999a (2 ^ 57)
unfolding of_bits
click-value = (refl, refl)

silence-value : HasValue cj_silence false 0x26_6666_6666_6666 (2 ^ 57)
unfolding of_bits
silence-value = (refl, refl)

-- ---- the stages that last a time
module _ (r : ℕ) (lo : 8000 ≤ r) (hi : r ≤ 192000) where
  -- R(0.05), within a half of r / 20
  pub click-near : (20 * samples_in click_time r ≤ r + 10) × (r ≤ 20 * samples_in click_time r + 10)
  click-near = let h = fortieths click_time 0x19_9999_9999_999a 2 r click-value (lit≤ tt) (lit≤ tt) (lit≤ tt) (lit≤ tt) lo hi in (omega arith, omega arith)

  -- R(0.075), within a half of 3 r / 40
  pub silence-near : (40 * samples_in cj_silence r ≤ 3 * r + 20) × (3 * r ≤ 40 * samples_in cj_silence r + 20)
  silence-near = fortieths cj_silence 0x26_6666_6666_6666 3 r silence-value (lit≤ tt) (lit≤ tt) (lit≤ tt) (lit≤ tt) lo hi

  pub dial-tone-samples : samples_in one r ≡ r
  dial-tone-samples = whole-seconds one 1 r (one_value 1) (lit≤ tt) hi ∙ one-mul r

  pub ringback-samples : samples_in ringback_time r ≡ 4 * r
  ringback-samples = whole-seconds ringback_time 4 r (nat-value 4 (lit≤ tt)) (lit≤ tt) hi

  pub ansam-samples : samples_in ansam_time r ≡ 3 * r
  ansam-samples = whole-seconds ansam_time 3 r (nat-value 3 (lit≤ tt)) (lit≤ tt) hi
