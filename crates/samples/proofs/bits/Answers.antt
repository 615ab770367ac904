-- `samples::bits` meets its contract: the pattern of a NaN is the one that `to_bits` writes for it. Assumes nothing.
use Rattle.std.proofs.Common.{◌≡◌, true, refl, sym, ◌∙◌}
use lib.Ieee.{Float, nan, inf, fin, binary32, is_nan, to_bits}
use Rattle.samples.proofs.bits.Goals as goal

nan-bits : (x : Float) → is_nan x ≡ true → 0x7fc0_0000 ≡ to_bits binary32 x
unfolding is_nan to_bits
nan-bits nan e = refl
nan-bits (inf s) e = search
nan-bits (fin s m k) e = search

pub returns-then-is_nan : goal.returns-then-is_nan
returns-then-is_nan c = nan-bits _ (sym c.is_nan.ensures.value ∙ c.if-is_nan.true)
