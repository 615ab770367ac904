-- 01, "Stages": the samples of each of the stages 1 to 9, and T, their sum, for d digits at the rate r.
use Rattle.std.specs.Prelude.{ℕ, zero, suc, ◌+◌, Bool, true, false, cond, ◌&&◌, leb, List, [], ◌∷◌, nat_le, Float}
use Rattle.math.specs.Float.{f64, of_nat, one}
use Rattle.schedule.specs.Time.{min_rate, max_rate, time_at, samples_in}
use Rattle.schedule.specs.Dialling.{digit_at}
use Rattle.schedule.specs.Symbols.{symbol_step, done_after}

-- 0.05, 4, 3 and 0.075 seconds
abbrev pub click_time : Float
click_time = f64 0x3fa9_9999_9999_999a

abbrev pub ringback_time : Float
ringback_time = of_nat 4

abbrev pub ansam_time : Float
ansam_time = of_nat 3

abbrev pub cj_silence : Float
cj_silence = f64 0x3fb3_3333_3333_3333

-- the first number from n on at which p holds, b being p at n; n + k if it does not hold before. With the k below, it does at 01's rates.
unfoldable pub first_from : (ℕ → Bool) → ℕ → Bool → ℕ → ℕ
first_from p zero b n = n
first_from p (suc k) true n = n
first_from p (suc k) false n = first_from p k (p (suc n)) (suc n)

-- the samples of N bits: the first n at which all are done
unfoldable pub bits_length : ℕ → ℕ → ℕ
bits_length r N = first_from (λ n. leb N (done_after (symbol_step r) n)) 1000000 (nat_le N (done_after (symbol_step r) 1)) 1

-- the samples of d digits: the first n at which i >= d, and 1 where there are none
unfoldable pub dialling_length : ℕ → ℕ → ℕ
dialling_length r zero = 1
dialling_length r (suc d) = first_from (λ n. leb (suc d) (digit_at (time_at r n))) 4000000 (nat_le (suc d) (digit_at (time_at r 1))) 1

-- a dial line has no more digits
abbrev pub max_digits : ℕ
max_digits = 76

-- the same at 01's rates and for as many digits as a call may have, and 0 elsewhere
unfoldable pub dialling_samples : ℕ → ℕ → ℕ
dialling_samples r d = cond ((nat_le min_rate r && nat_le r max_rate) && nat_le d max_digits) (dialling_length r d) 0

-- the bits of each payload, ten a byte: CICICI, CMJMCMJM, CJCJCJ, and thirty bytes
abbrev pub ci_bits : ℕ
ci_bits = 60

abbrev pub cm_jm_bits : ℕ
cm_jm_bits = 80

abbrev pub cj_bits : ℕ
cj_bits = 60

abbrev pub training_bits : ℕ
training_bits = 300

-- the samples of each of the stages 1 to 9, in their order
abbrev pub stage_lengths : ℕ → ℕ → List ℕ
stage_lengths r d =
    samples_in click_time r
    ∷ samples_in one r
    ∷ dialling_length r d
    ∷ samples_in ringback_time r
    ∷ bits_length r ci_bits
    ∷ samples_in ansam_time r
    ∷ bits_length r cm_jm_bits
    ∷ (bits_length r cj_bits + samples_in cj_silence r)
    ∷ bits_length r training_bits
    ∷ []

abbrev pub sum_from : ℕ → List ℕ → ℕ
sum_from n [] = n
sum_from n (k ∷ ks) = sum_from (n + k) ks

abbrev pub sum : List ℕ → ℕ
sum [] = 0
sum (k ∷ ks) = sum_from k ks

-- T, their sum
unfoldable pub total : ℕ → ℕ → ℕ
total r d = sum (stage_lengths r d)
