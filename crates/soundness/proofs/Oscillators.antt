-- A sound oscillator: what its test says of it and what that test asks. A fresh one is sound, and a sound one after a sample and at another
-- frequency: phase and step stay in [0, TAU), and the rate, which `==` compares, is r itself. Assumes nothing.
use mathlib.Core.Path.{◌≡◌, refl}
use mathlib.Core.Bool.{true, false, and-eq-true_iff}
use Prim.Native.Nat.{ℕ, ◌≤◌}
use native.Mathlib.Nat.{le_trans, zero-lt-suc}
use native.Mathlib.Omega.{arith}
use lib.Dec.{T, lit≤}
use lib.IntN.{pos}
use lib.Ieee.{Float, binary64, eq, fits}
use lib.Ieee.Bits.{is_true}
use lib.Ieee.Exact.{HasValue}
use lib.Ieee.Fits.{of_int-fits}
use Rattle.math.specs.Float.{of_nat}
use Rattle.math.proofs.Values.{nat-value}
use Rattle.math.proofs.Equal.{eq_self, equal}
use Rattle.nco.specs.declared.Nco.{Nco}
use Rattle.nco.specs.Nco.{phase_in_range, fresh_nco, retuned, stepped_nco}
use Rattle.nco.proofs.Phase.{InRange, stepped-in-range}
use Rattle.nco.proofs.Steps.{fresh-in-range, retuned-in-range}
use Rattle.schedule.proofs.Samples.{rate-value}
use Rattle.soundness.specs.Sound.{nco_ok}
use Rattle.std.proofs.lemmas.Bool.{and_from}
use Rattle.std.proofs.lemmas.Float.{T_from_true}

-- a number of binary64, as every float that code holds
abbrev pub Double : Float → Type 0
Double x = T (fits binary64 x)

pub record NcoFits (o : Nco) : Type 0 where
  pub phase : Double o.phase
  pub step : Double o.step
  pub rate : Double o.rate

pub record SoundNco (o : Nco) (r : ℕ) : Type 0 where
  pub in-range : InRange o
  pub rate : o.rate ≡ of_nat r

-- a frequency that is a whole number of hertz, as all of 01's are
pub record Hertz (freq : Float) : Type 0 where
  pub count : ℕ
  pub value : HasValue freq false count 1
  pub most : count ≤ 6000

pub hertz : (k : ℕ) → k ≤ 6000 → Hertz (of_nat k)
hertz k h = record { count = k; value = nat-value k (le_trans h (lit≤ tt)); most = h }

module _ (r : ℕ) (lo : 8000 ≤ r) (hi : r ≤ 192000) where
  -- ---- the test, and back
  pub nco-sound : (o : Nco) → NcoFits o → nco_ok o r ≡ true → SoundNco o r
  unfolding nco_ok
  nco-sound o h e =
      let (phase, rest) = (and-eq-true_iff (phase_in_range o.phase) _).0 e in
      let (step, rate) = (and-eq-true_iff (phase_in_range o.step) _).0 rest in
      record {
        in-range = record { phase-fits = h.phase; step_fits = h.step; phase-in = T_from_true _ phase; step_in = T_from_true _ step };
        rate = equal o.rate (of_nat r) r 1 (omega arith) (zero-lt-suc 0) (rate-value r hi) h.rate (of_int-fits binary64 (pos r)) (T_from_true _ rate);
      }

  pub nco-ok : (o : Nco) → SoundNco o r → nco_ok o r ≡ true
  unfolding nco_ok
  nco-ok o s =
      and_from _ _ (is_true (phase_in_range o.phase) s.in-range.phase-in)
      (and_from _ _ (is_true (phase_in_range o.step) s.in-range.step_in) (rw s.rate (is_true (eq (of_nat r) (of_nat r)) (eq_self (of_nat r) false r 1 (rate-value r hi)))))

  pub nco-fits : (o : Nco) → SoundNco o r → NcoFits o
  nco-fits o s = record { phase = s.in-range.phase-fits; step = s.in-range.step_fits; rate = rw s.rate (of_int-fits binary64 (pos r)) }

  -- ---- fresh, after a sample, at another frequency
  pub fresh-nco : (freq : Float) → Hertz freq → SoundNco (fresh_nco freq (of_nat r)) r
  fresh-nco freq f = record { in-range = fresh-in-range freq f.count r f.value f.most lo hi; rate = refl }

  pub stepped-nco : (o : Nco) → SoundNco o r → SoundNco (stepped_nco o) r
  stepped-nco o s = record { in-range = stepped-in-range s.in-range; rate = s.rate }

  pub retuned-nco : (o : Nco) (freq : Float) → Hertz freq → SoundNco o r → SoundNco (retuned o freq) r
  retuned-nco o freq f s = record { in-range = retuned-in-range s.in-range freq f.count r s.rate f.value f.most lo hi; rate = s.rate }
