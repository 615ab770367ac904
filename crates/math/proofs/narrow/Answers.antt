-- `narrow` meets its contract: the sign's bit and `narrow_bits` make the pattern of the rounded value, which is no NaN's. Assumes nothing.
use Rattle.math.proofs.Narrowing.{narrow_bits-le, narrow_bits-no-nan, narrow-small, narrow-large, narrow-nan, sign_le, zero-narrow, field-small, field-large, low-digits}
use Rattle.math.specs.Steps.{narrow_bits}
use lib.Ieee.{binary64, to_bits}
use lib.Dec.{leb}
use lib.Pow.{pow_pos}
use native.Mathlib.Nat.{mod-lt}
use Prim.Native.Nat.{ℕ, ◌+◌, ◌^◌, ◌≤◌, ◌<◌, ◌%◌, ◌/◌}
use mathlib.Core.Path.{◌≡◌, sym, subst, ap, ◌∙◌}
use native.Mathlib.Omega.{arith}
use Rattle.std.proofs.lemmas.Float.{T_from_true}
use Rattle.math.proofs.narrow.Goals as goal
use Rattle.math.proofs.narrow.Goals.{After-narrow_bits}

-- what `narrow_bits` gave, by the digits of the whole pattern
narrowed-bits : (c : After-narrow_bits) →
    let b = to_bits binary64 c.args.x in
    c.narrow_bits.result ≡ narrow_bits (b % 2 ^ 63 / 2 ^ 52) (b % 2 ^ 52)
narrowed-bits c = let b = to_bits binary64 c.args.x in c.narrow_bits.ensures ∙ ap (narrow_bits (b % 2 ^ 63 / 2 ^ 52)) (low-digits b)

-- the pattern that is put together, below 2 ^ 32
small : (c : After-narrow_bits) → c.sign_bit.result + c.narrow_bits.result < 2 ^ 32
small c =
    let b = to_bits binary64 c.args.x in
    let h : c.sign_bit.result ≤ 2 ^ 31 = subst (λ (z : ℕ). z ≤ 2 ^ 31) (sym c.sign_bit.ensures) (sign_le (leb (2 ^ 63) b)) in
    let k : c.narrow_bits.result ≤ 2 ^ 30 = subst (λ (z : ℕ). z ≤ 2 ^ 30) (sym (narrowed-bits c)) (narrow_bits-le (b % 2 ^ 63 / 2 ^ 52) (b % 2 ^ 52) (field-small _ c.if-m-lt4611686018427387904.true) (mod-lt b (pow_pos 52))) in
    omega arith

pub overflow_add-p : goal.overflow_add-p
overflow_add-p c = let h = small (goal.at.overflow_add-p c).After-narrow_bits in omega arith

pub overflow_cast-result : goal.overflow_cast-result
overflow_cast-result c = let h = small (goal.at.overflow_cast-result c).After-narrow_bits in omega arith

pub float_from_bits-result : goal.float_from_bits-result
float_from_bits-result c = let b = to_bits binary64 c.args.x in
    rw (c.sign_bit.ensures, narrowed-bits (goal.at.float_from_bits-result c).After-narrow_bits) (narrow_bits-no-nan (leb (2 ^ 63) b) (b % 2 ^ 63 / 2 ^ 52) (b % 2 ^ 52) (field-small _ c.if-m-lt4611686018427387904.true) (mod-lt b (pow_pos 52)))

pub returns-then-m-lt4611686018427387904 : goal.returns-then-m-lt4611686018427387904
returns-then-m-lt4611686018427387904 c = rw (c.sign_bit.ensures, narrowed-bits (goal.at.returns-then-m-lt4611686018427387904 c).After-narrow_bits) (narrow-small c.args.x (T_from_true _ c.well_formed.0.1) (field-small _ c.if-m-lt4611686018427387904.true))

pub returns-else-m-lt4611686018427387904 : goal.returns-else-m-lt4611686018427387904
returns-else-m-lt4611686018427387904 c = zero-narrow ∙ narrow-large c.args.x (T_from_true _ c.well_formed.0.1) (field-large _ c.if-m-lt4611686018427387904.false)

pub returns-else-not-is_nan : goal.returns-else-not-is_nan
returns-else-not-is_nan c = zero-narrow ∙ narrow-nan c.args.x (sym c.is_nan.ensures.value ∙ c.if-not-is_nan.false)
