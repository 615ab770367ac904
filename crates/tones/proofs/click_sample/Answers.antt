-- `click_sample` meets its contract: it is the formula; the literal 8388608.0 is the number, computed. Assumes nothing.
use Rattle.tones.specs.Samples.{click_sample}
use Rattle.std.proofs.Common.{◌≡◌, refl}
use Rattle.math.specs.Float.{f64, of_nat}
use Rattle.tones.proofs.click_sample.Goals as goal

scale : f64 0x4160_0000_0000_0000 ≡ of_nat 8388608
unfolding lib.Ieee.of_bits lib.Ieee.of_int
scale = refl

pub returns : goal.returns
unfolding click_sample
returns c = rw (c.exp.ensures, c.nearest_u64_to_f64.ensures, scale)
