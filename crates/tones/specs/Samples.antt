-- 01, "Stages": a sample, of what its oscillators give: the click's, two tones mixed, and Ansam's. The keyed tone of the bits is
-- `fsk`'s, and rest is 0.0.
use Rattle.std.specs.Prelude.{ℕ, ◌*◌, ◌/◌, ◌%◌, ◌^◌, bit_xor, Float}
use Rattle.math.specs.Float.{f64, of_nat, one, plus, minus, times, over}
use Rattle.math.specs.Decay.{decay}

-- 1: xor with itself left 13, then right 7, then left 17; 64 bits
unfoldable pub shifted : ℕ → ℕ
shifted x =
    let a = bit_xor x (x * 2 ^ 13 % 2 ^ 64) in
    let b = bit_xor a (a / 2 ^ 7) in
    bit_xor b (b * 2 ^ 17 % 2 ^ 64)

-- 0.4 and 0.008
abbrev pub click_gain : Float
click_gain = f64 0x3fd9_9999_9999_999a

abbrev pub click_decay : Float
click_decay = f64 0x3f80_624d_d2f1_a9fc

-- 1: (top 24 bits / 8388608 - 1) × 0.4 × E(t / 0.008)
unfoldable pub click_sample : ℕ → Float → Float
click_sample rng t = times (times (minus (over (of_nat (rng / 2 ^ 40)) (of_nat 8388608)) one) click_gain) (decay (over t click_decay))

-- 0.45
abbrev pub tone_gain : Float
tone_gain = f64 0x3fdc_cccc_cccc_cccd

-- 2: a × 0.45 + b × 0.45
unfoldable pub mixed : Float → Float → Float
mixed a b = plus (times a tone_gain) (times b tone_gain)

-- 0.3 and 0.7
abbrev pub ansam_depth : Float
ansam_depth = f64 0x3fd3_3333_3333_3333

abbrev pub ansam_gain : Float
ansam_gain = f64 0x3fe6_6666_6666_6666

-- 6: ((2100 Hz × sign) × (1 + 0.3 × 15 Hz)) × 0.7
unfoldable pub ansam_sample : Float → Float → Float → Float
ansam_sample carrier env sign = times (times (times carrier sign) (plus one (times ansam_depth env))) ansam_gain
