-- The stated bound on pi, from the same sums: at 3.1415926535 the smaller of two sums that follow each other is above 0, and at 3.1415926536
-- the larger is below 0. So the sine changes its sign between the two, and pi is the only place between 3 and 4 where it does. Assumes nothing.
use Rattle.std.proofs.Common.{◌<◌, lit<, lit≤}
use Rattle.handset.specs.Sine.{plus_terms, minus_terms, plus_terms3, minus_terms3}
use Rattle.handset.specs.Rule.{pi_low, pi_high, pi_scale, PiBounds}

pub above_low : minus_terms3 pi_low pi_scale 6 < plus_terms3 pi_low pi_scale 6
unfolding plus_terms minus_terms
above_low = lit< tt

pub below-high : plus_terms pi_high pi_scale 6 < minus_terms pi_high pi_scale 6
unfolding plus_terms minus_terms
below-high = lit< tt

-- fractions in pi's place there are
pub one-such : PiBounds pi_low pi_scale
one-such = record { some = lit< tt; least = lit≤ tt; most = lit≤ tt }
