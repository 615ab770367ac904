-- 02, E14: "entry k, from 0, within one unit of 32,767 times the sine of k/1,024 turns, by the Taylor sum as whole numbers with a stated bound on
-- pi".
use Rattle.std.specs.Prelude.{ℕ, suc, ◌+◌, ◌*◌, ◌<◌, ◌≤◌, ℤ, pos, negsuc}
use Rattle.handset.specs.Sine.{plus_terms, minus_terms, denominator, plus_terms3, minus_terms3, denominator3}

-- e = plus_part e - minus_part e
abbrev pub plus_part : ℤ → ℕ
plus_part (pos n) = n
plus_part (negsuc n) = 0

abbrev pub minus_part : ℤ → ℕ
minus_part (pos n) = 0
minus_part (negsuc n) = suc n

-- e lies within one unit of 32,767 × (p - m) / w
pub record WithinOne (e : ℤ) (p m w : ℕ) : Type 0 where
  pub over : 32767 * p + minus_part e * w ≤ 32767 * m + (plus_part e + 1) * w
  pub under : 32767 * m + plus_part e * w ≤ 32767 * p + (minus_part e + 1) * w

-- e lies within one unit of 32,767 times each Taylor sum of the sine at n / d from degree 25 on, and so of 32,767 times the sine, their limit
pub record NearSine (e : ℤ) (n d : ℕ) : Type 0 where
  pub larger : (j : ℕ) → 6 ≤ j → WithinOne e (plus_terms n d j) (minus_terms n d j) (denominator d j)
  pub smaller : (j : ℕ) → 6 ≤ j → WithinOne e (plus_terms3 n d j) (minus_terms3 n d j) (denominator3 d j)

-- the bound on pi: 3.1415926535 ≤ p / q ≤ 3.1415926536. proofs/PiBound.antt shows from the same sums that the sine changes its sign there
abbrev pub pi_low : ℕ
pi_low = 31415926535

abbrev pub pi_high : ℕ
pi_high = 31415926536

abbrev pub pi_scale : ℕ
pi_scale = 10000000000

pub record PiBounds (p q : ℕ) : Type 0 where
  pub some : 0 < q
  pub least : pi_low * q ≤ p * pi_scale
  pub most : p * pi_scale ≤ pi_high * q

-- e is an entry for k / 1,024 turns, which are 2 pi k / 1,024 radians, whatever fraction within the bound stands for pi
abbrev pub IsSine : ℕ → ℤ → Type 0
IsSine k e = (p q : ℕ) → PiBounds p q → NearSine e (2 * k * p) (1024 * q)
