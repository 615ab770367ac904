-- 02, E14: "the Taylor sum as whole numbers". At an angle of x = n / d radians,
--     x - x^3 / 3! + x^5 / 5! - .. + x^(4j+1) / (4j+1)!                       =  (plus_terms n d j - minus_terms n d j) / denominator d j
--     x - x^3 / 3! + x^5 / 5! - .. + x^(4j+1) / (4j+1)! - x^(4j+3) / (4j+3)!  =  (plus_terms3 n d j - minus_terms3 n d j) / denominator3 d j
-- with denominator d j = d^(4j+1) × (4j+1)! and denominator3 d j = d^(4j+3) × (4j+3)!, which proofs/Factorial.antt shows. From a sum to the
-- next both parts go over to the new denominator, and the new term is a power of n there.
use Rattle.std.specs.Prelude.{ℕ, zero, suc, ◌+◌, ◌*◌, ◌^◌}

-- what the denominator grows by
abbrev pub growth3 : ℕ → ℕ → ℕ
growth3 d j = d * d * ((4 * j + 2) * (4 * j + 3))

abbrev pub growth5 : ℕ → ℕ → ℕ
growth5 d j = d * d * ((4 * j + 4) * (4 * j + 5))

unfoldable pub denominator : ℕ → ℕ → ℕ
denominator d zero = d
denominator d (suc j) = denominator d j * growth3 d j * growth5 d j

unfoldable pub plus_terms : ℕ → ℕ → ℕ → ℕ
plus_terms n d zero = n
plus_terms n d (suc j) = plus_terms n d j * growth3 d j * growth5 d j + n ^ (4 * j + 5)

unfoldable pub minus_terms : ℕ → ℕ → ℕ → ℕ
minus_terms n d zero = 0
minus_terms n d (suc j) = (minus_terms n d j * growth3 d j + n ^ (4 * j + 3)) * growth5 d j

abbrev pub denominator3 : ℕ → ℕ → ℕ
denominator3 d j = denominator d j * growth3 d j

abbrev pub plus_terms3 : ℕ → ℕ → ℕ → ℕ
plus_terms3 n d j = plus_terms n d j * growth3 d j

abbrev pub minus_terms3 : ℕ → ℕ → ℕ → ℕ
minus_terms3 n d j = minus_terms n d j * growth3 d j + n ^ (4 * j + 3)
