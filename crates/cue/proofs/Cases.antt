-- 02, E2: the cues of 1234 at 8,000 samples a second. The fourth is not where whole numbers have it, 13201: there the clock still tells the third digit.
-- The lengths of one, two and three digits are 01's cases, computed. Assumes nothing.
use Prim.Native.Nat.{ℕ, ◌+◌, ◌<◌}
use mathlib.Core.Path.{◌≡◌, refl}
use lib.Dec.{lit<, lit≤}
use native.Mathlib.Omega.{arith}
use Rattle.math.specs.Float.{one}
use Rattle.ascii.specs.Ascii.{ascii}
use Rattle.schedule.specs.Time.{samples_in}
use Rattle.schedule.specs.Length.{click_time}
use Rattle.schedule.proofs.Samples.{dial-tone-samples}
use Rattle.schedule.proofs.Cases.{click-at-8000, one-digit-at-8000, two-digits-at-8000, three-digits-at-8000}
use Rattle.passage.specs.Lengths.{samples_of_digits}
use Rattle.passage.specs.Cue.{first_in_tone}
use Rattle.passage.proofs.Cue.{first-sample-is}

first : (p : ℕ) → p < 4 → first_in_tone (ascii "1234") 8000 p ≡ samples_in click_time 8000 + samples_in one 8000 + samples_of_digits 8000 p + 1
first p h = first-sample-is (ascii "1234") 8000 (lit≤ tt) (lit≤ tt) (lit≤ tt) p h

place : (p n : ℕ) → p < 4 → samples_of_digits 8000 p ≡ n → first_in_tone (ascii "1234") 8000 p ≡ 8401 + n
place p n h e = omega (arith, first p h, click-at-8000, dial-tone-samples 8000 (lit≤ tt) (lit≤ tt), e)

pub cues-of-1234 :
    (first_in_tone (ascii "1234") 8000 0 ≡ 8401)
    × (first_in_tone (ascii "1234") 8000 1 ≡ 10001)
    × (first_in_tone (ascii "1234") 8000 2 ≡ 11601)
    × (first_in_tone (ascii "1234") 8000 3 ≡ 13202)
cues-of-1234 = (
  place 0 0 (lit< tt) refl,
  place 1 1600 (lit< tt) one-digit-at-8000,
  place 2 3200 (lit< tt) two-digits-at-8000,
  place 3 4801 (lit< tt) three-digits-at-8000,
)
