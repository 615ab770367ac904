-- The test of an entry, which computes: at degrees 25 and 27, with pi at the ends of its bound.
use Rattle.std.proofs.Common.{ℕ, suc, ◌+◌, ◌*◌, Bool, true, ◌&&◌, leb, List, [], ◌∷◌, ℤ}
use Rattle.handset.specs.Sine.{plus_terms, minus_terms, denominator, plus_terms3, minus_terms3, denominator3}
use Rattle.handset.specs.Rule.{plus_part, minus_part, pi_low, pi_high, pi_scale}

-- the terms that add are taken at one end of the bound and those that take away at the other
unfoldable pub fits-above : ℕ → ℤ → Bool
fits-above k e = leb
    (32767 * plus_terms (2 * k * pi_high) (1024 * pi_scale) 6 + minus_part e * denominator (1024 * pi_scale) 6)
    (32767 * minus_terms (2 * k * pi_low) (1024 * pi_scale) 6 + (plus_part e + 1) * denominator (1024 * pi_scale) 6)

unfoldable pub fits_below : ℕ → ℤ → Bool
fits_below k e = leb
    (32767 * minus_terms3 (2 * k * pi_high) (1024 * pi_scale) 6 + plus_part e * denominator3 (1024 * pi_scale) 6)
    (32767 * plus_terms3 (2 * k * pi_low) (1024 * pi_scale) 6 + (minus_part e + 1) * denominator3 (1024 * pi_scale) 6)

unfoldable pub fits : ℕ → ℤ → Bool
fits k e = fits-above k e && fits_below k e

-- the test passes at each entry of the list and its place, counted from i
abbrev pub all_fit : (ℕ → ℤ → Bool) → ℕ → List ℤ → Bool
all_fit f i [] = true
all_fit f i (x ∷ xs) = f i x && all_fit f (suc i) xs
