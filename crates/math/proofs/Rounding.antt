-- What a fraction rounds to, in units of the format's smallest value: half a unit of the last place kept away at most, and no more than
-- a bound that the format holds. By the nearest whole number of such places. Assumes nothing.
use mathlib.Core.Path.{◌≡◌, refl, sym, ap, ◌∙◌, subst}
use mathlib.Core.Bool.{Bool, false}
use Prim.Native.Nat.{ℕ, ◌+◌, ◌-◌, ◌*◌, ◌/◌, ◌%◌, ◌^◌, ◌≤◌, ◌<◌, compare}
use native.Mathlib.Nat.{le_trans, lt_of_le_of_lt, mul_assoc, mul_comm, mul-pos, mul-le-mul, div-lt_iff_lt-mul, div-div-eq-div-mul}
use native.Mathlib.Omega.{arith}
use lib.Pow.{pow_pos, pow_mono}
use lib.Ieee.{Float, Format, prec, low, size, round}
use lib.Ieee.Digits.{size-le}
use lib.Ieee.Fits.{round_is, nearest-le, kept-lt}
use lib.Ieee.Exact.{HasValue, units_val, round_exact}
use lib.Ieee.Nearest.{closest}
use lib.Ieee.Order.{drop, kept, round_mono}
use lib.Ieee.Scale.{grid, overflow, round_val}
use Rattle.math.proofs.Error.{closest-over, closest-under}
use Rattle.math.proofs.Values.{of_le}

-- ---- how far off
-- the digits dropped
abbrev pub cut : Format → ℕ → ℕ → ℕ
cut f a c = drop (prec f) (a * 2 ^ low f) c

turn : (q c p : ℕ) → q * (c * p) ≡ q * p * c
turn q c p = ap (λ (z : ℕ). q * z) (mul_comm c p) ∙ sym (mul_assoc q p c)

pub grid-over : (f : Format) (a c : ℕ) → 0 < c → 2 * (grid f a c * c) ≤ 2 * (a * 2 ^ low f) + c * 2 ^ cut f a c
grid-over f a c C = subst (λ (z : ℕ). 2 * z ≤ 2 * (a * 2 ^ low f) + c * 2 ^ cut f a c) (turn (kept (prec f) (a * 2 ^ low f) c) c (2 ^ cut f a c)) (closest-over (a * 2 ^ low f) (c * 2 ^ cut f a c) (mul-pos C (pow_pos (cut f a c))))

pub grid-under : (f : Format) (a c : ℕ) → 0 < c → 2 * (a * 2 ^ low f) ≤ 2 * (grid f a c * c) + c * 2 ^ cut f a c
grid-under f a c C = subst (λ (z : ℕ). 2 * (a * 2 ^ low f) ≤ 2 * z + c * 2 ^ cut f a c) (turn (kept (prec f) (a * 2 ^ low f) c) c (2 ^ cut f a c)) (closest-under (a * 2 ^ low f) (c * 2 ^ cut f a c) (mul-pos C (pow_pos (cut f a c))))

-- ---- no overflow, where a / c is below 2 ^ z units and the format holds that
pub grid-fits : (f : Format) (a c z : ℕ) → 0 < c → a * 2 ^ low f < 2 ^ z * c → 2 ^ prec f * 2 ^ (z - prec f) < overflow f → grid f a c < overflow f
grid-fits f a c z C h room =
    let n = a * 2 ^ low f in
    let k = size (n / c) - prec f in
    let kle : k ≤ z - prec f = omega (arith, size-le (n / c) z ((div-lt_iff_lt-mul C).1 h)) in
    let qle : closest n (c * 2 ^ k) ≤ 2 ^ prec f =
    le_trans (nearest-le (n / (c * 2 ^ k)) (compare (n % (c * 2 ^ k) * 2) (c * 2 ^ k))) (subst (λ (x : ℕ). x < 2 ^ prec f) (div-div-eq-div-mul n c (2 ^ k)) (kept-lt (prec f) (n / c))) in
    lt_of_le_of_lt (mul-le-mul qle (pow_mono kle)) room

-- ---- the value, with a sign, and a bound that the format holds
pub round-value : (f : Format) (s : Bool) (a c : ℕ) → grid f a c < overflow f → HasValue (round f s a c) s (grid f a c) (2 ^ low f)
round-value f s a c h = subst (λ (z : Float). HasValue z s (grid f a c) (2 ^ low f)) (sym (round_is f s a c)) (units_val f s (kept (prec f) (a * 2 ^ low f) c) (drop (prec f) (a * 2 ^ low f) c) h)

pub grid-most : (f : Format) (a c q j : ℕ) → 0 < c → q < 2 ^ prec f → q * 2 ^ j < overflow f → grid f a c < overflow f → a * 2 ^ low f ≤ q * 2 ^ j * c → grid f a c ≤ q * 2 ^ j
grid-most f a c q j C small fine g h =
    of_le (round f false a c) (round f false (q * 2 ^ j) (2 ^ low f)) (grid f a c) (q * 2 ^ j) (2 ^ low f) (pow_pos (low f)) (round_val f a c g)
    (round_exact f false (q * 2 ^ j) (2 ^ low f) q j (pow_pos (low f)) small fine refl)
    (round_mono f a c (q * 2 ^ j) (2 ^ low f) C (pow_pos (low f)) h)
