-- T's bounds, of demand 3: the sum of what is known of each stage's length. Assumes nothing.
use Rattle.std.proofs.Common.{ℕ, ◌*◌, ◌≤◌, mul-le-mul, arith, lit≤}
use Rattle.schedule.specs.Length.{total}
use Rattle.schedule.specs.Bounds.{TotalBounds}
use Rattle.schedule.proofs.Samples.{click-near, silence-near, dial-tone-samples, ringback-samples, ansam-samples}
use Rattle.schedule.proofs.Lengths.{dialling-near, bits-near}

module _ (r : ℕ) (lo : 8000 ≤ r) (hi : r ≤ 192000) (d : ℕ) (D : d ≤ 76) where
  pub total-bounds : TotalBounds r d
  unfolding total
  total-bounds =
      let click = click-near r lo hi in
      let tone = dial-tone-samples r lo hi in
      let dial = dialling-near r lo hi d D in
      let ring = ringback-samples r lo hi in
      let ci = bits-near r lo hi 60 (lit≤ tt) in
      let ansam = ansam-samples r lo hi in
      let cm = bits-near r lo hi 80 (lit≤ tt) in
      let cj = silence-near r lo hi in
      let train = bits-near r lo hi 300 (lit≤ tt) in
      record { least = omega arith; most = omega arith }

  -- so at every rate and with every number of digits
  pub total-range : (1 ≤ total r d) × (total r d ≤ 4798406)
  total-range =
      let T = total-bounds in
      let digits : 24 * d ≤ 1824 = omega arith in
      let most : 24 * d * r ≤ 350208000 = mul-le-mul digits hi in
      (omega arith, omega arith)
