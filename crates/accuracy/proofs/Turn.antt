-- A phase in the turn as a fraction n / d beside 01's constants Q, H and TAU, which are K, 2 K and 4 K over 2 ^ 52: S's three tests are tests
-- of whole numbers. Assumes nothing.
use mathlib.Core.Path.{◌≡◌, refl}
use mathlib.Core.Bool.{false}
use Prim.Native.Nat.{ℕ, ◌*◌, ◌^◌, ◌≤◌, ◌<◌}
use native.Mathlib.Nat.{mul_assoc, mul-pos}
use native.Mathlib.Omega.{arith}
use lib.Dec.{leb, ltb}
use lib.Pow.{pow_pos}
use lib.Ieee.{Float, le, lt, of_bits}
use lib.Ieee.Exact.{HasValue}
use Rattle.math.specs.Float.{tau, half_turn, quarter_turn}
use Rattle.math.proofs.Error.{rescale}
use Rattle.math.proofs.Values.{le-at, lt_at}

abbrev pub K : ℕ
K = 0x19_21fb_5444_2d18

quarter-value : HasValue quarter_turn false K (2 ^ 52)
unfolding of_bits
quarter-value = (refl, refl)

half-value : HasValue half_turn false (2 * K) (2 ^ 52)
unfolding of_bits
half-value = (refl, refl)

pub tau-value : HasValue tau false (4 * K) (2 ^ 52)
unfolding of_bits
tau-value = (refl, refl)

-- ---- over d × 2 ^ 52
module _ (n d : ℕ) (dp : 0 < d) (y : Float) (yv : HasValue y false n d) where
  pub common : 0 < d * 2 ^ 52
  common = mul-pos dp (pow_pos 52)

  pub value : HasValue y false (n * 2 ^ 52) (d * 2 ^ 52)
  value = rescale y false n d (n * 2 ^ 52) (d * 2 ^ 52) dp (swap n d) yv
    where
      swap : (n d : ℕ) → n * 2 ^ 52 * d ≡ n * (d * 2 ^ 52)
      swap n d = omega arith

  constant : (x : Float) (k : ℕ) → HasValue x false k (2 ^ 52) → HasValue x false (k * d) (d * 2 ^ 52)
  constant x k v = rescale x false k (2 ^ 52) (k * d) (d * 2 ^ 52) (pow_pos 52) (mul_assoc k d (2 ^ 52)) v

  pub half : HasValue half_turn false (2 * K * d) (d * 2 ^ 52)
  half = constant half_turn (2 * K) half-value

  pub to-quarter : le y quarter_turn ≡ leb (n * 2 ^ 52) (K * d)
  to-quarter = le-at y quarter_turn (n * 2 ^ 52) (K * d) (d * 2 ^ 52) common value (constant quarter_turn K quarter-value)

  pub past-quarter : lt quarter_turn y ≡ ltb (K * d) (n * 2 ^ 52)
  past-quarter = lt_at quarter_turn y (K * d) (n * 2 ^ 52) (d * 2 ^ 52) common (constant quarter_turn K quarter-value) value

  pub from-half : le half_turn y ≡ leb (2 * K * d) (n * 2 ^ 52)
  from-half = le-at half_turn y (2 * K * d) (n * 2 ^ 52) (d * 2 ^ 52) common half value

  pub below-tau : lt y tau ≡ ltb (n * 2 ^ 52) (4 * K * d)
  below-tau = lt_at y tau (n * 2 ^ 52) (4 * K * d) (d * 2 ^ 52) common value (constant tau (4 * K) tau-value)

  -- Q is below 11 / 7
  pub sevenths : n * 2 ^ 52 ≤ K * d → 7 * n ≤ 11 * d
  sevenths h = omega arith
