-- A sound modulator: what its test says of it and what that test asks. A fresh one is sound, and a sound one after a sample and at another bit, on any
-- two tones of whole hertz: the symbol phase stays in [0, 1), since the step, which `==` compares, is 300 / r itself. So is a channel's. Assumes nothing.
use mathlib.Core.Path.{◌≡◌, refl, sym, subst}
use mathlib.Core.Bool.{Bool, true, false, and-eq-true_iff}
use mathlib.Core.List.{List, [], ◌∷◌}
use Prim.Native.Nat.{ℕ, ◌^◌, ◌≤◌, ◌<◌}
use native.Mathlib.Nat.{le_trans}
use native.Mathlib.Omega.{arith}
use lib.Dec.{T, lit≤}
use lib.ListN.{drop}
use lib.Pow.{pow_pos}
use lib.Ieee.{Float, binary64, round, eq, le}
use lib.Ieee.Bits.{is_true, of_bits-fits}
use lib.Ieee.Exact.{HasValue}
use lib.Ieee.Fits.{div-fits}
use lib.Ieee.Order.{round_mono}
use Rattle.math.specs.Float.{of_nat}
use Rattle.math.proofs.Values.{nat-value, div-by, of_le}
use Rattle.math.proofs.Equal.{eq_self, equal}
use Rattle.frame.specs.Frame.{framed, bit_at}
use Rattle.schedule.specs.Symbols.{symbol_step, in_symbol}
use Rattle.schedule.proofs.Samples.{rate-value}
use Rattle.schedule.proofs.Symbols.{step_value}
use Rattle.schedule.proofs.SymbolPhase.{zero-in-symbol, next-phase-fits, phase-stays}
use Rattle.fsk.specs.declared.Modulator.{Modulator}
use Rattle.fsk.specs.declared.FskChannel.{FskChannel}
use Rattle.fsk.specs.Modulator.{tone_of, fresh_modulator, keyed, bit_ends, next_modulator}
use Rattle.fsk.specs.Channel.{fresh_channel, next_keyed, one_more_done, channel_by, next_channel}
use Rattle.soundness.specs.Sound.{nco_ok, modulator_ok}
use Rattle.std.proofs.lemmas.Bool.{and_from}
use Rattle.std.proofs.lemmas.Float.{T_from_true}
use Rattle.soundness.proofs.Oscillators.{Double, NcoFits, SoundNco, Hertz, hertz, nco-sound, nco-ok, nco-fits, fresh-nco, stepped-nco, retuned-nco}

pub record ModulatorFits (m : Modulator) : Type 0 where
  pub nco : NcoFits m.nco
  pub phase : Double m.phase
  pub step : Double m.step

pub record SoundModulator (m : Modulator) (r : ℕ) : Type 0 where
  pub nco : SoundNco m.nco r
  pub phase-fits : Double m.phase
  pub phase-in : T (in_symbol m.phase)
  pub step : m.step ≡ symbol_step r

-- ---- the step is above 0, being 1 / 2048 or more
small-value : HasValue (round binary64 false 1 2048) false (2 ^ 51) (2 ^ 62)
unfolding round
small-value = (refl, refl)

module _ (r : ℕ) (lo : 8000 ≤ r) (hi : r ≤ 192000) where
  step-above : T (le (round binary64 false 1 2048) (symbol_step r))
  unfolding symbol_step
  step-above =
      subst (λ (x : Float). T (le (round binary64 false 1 2048) x)) (sym (div-by binary64 (of_nat 300) (of_nat r) 300 r 1 (pow_pos 0) (some lo) (nat-value 300 (lit≤ tt)) (rate-value r hi)))
      (round_mono binary64 1 2048 300 r (lit≤ tt) (some lo) (omega arith))
    where
      some : 8000 ≤ r → 0 < r
      some h = omega arith

  step-pos : 0 < (step_value r lo hi).0
  step-pos = le_trans (lit≤ tt) (of_le (round binary64 false 1 2048) (symbol_step r) (2 ^ 51) (step_value r lo hi).0 (2 ^ 62) (pow_pos 62) small-value (step_value r lo hi).1 step-above)

  step_fits : Double (symbol_step r)
  unfolding symbol_step
  step_fits = div-fits binary64 (of_nat 300) (of_nat r)

  -- ---- the test, and back
  pub modulator-sound : (m : Modulator) → ModulatorFits m → modulator_ok m r ≡ true → SoundModulator m r
  unfolding modulator_ok
  modulator-sound m h e =
      let (nco, rest) = (and-eq-true_iff (nco_ok m.nco r) _).0 e in
      let (phase, step) = (and-eq-true_iff (in_symbol m.phase) _).0 rest in
      record {
        nco = nco-sound r lo hi m.nco h.nco nco;
        phase-fits = h.phase;
        phase-in = T_from_true _ phase;
        step = equal m.step (symbol_step r) (step_value r lo hi).0 (2 ^ 62) step-pos (pow_pos 62) (step_value r lo hi).1 h.step step_fits (T_from_true _ step);
      }

  pub modulator-ok : (m : Modulator) → SoundModulator m r → modulator_ok m r ≡ true
  unfolding modulator_ok
  modulator-ok m s =
      and_from _ _ (nco-ok r lo hi m.nco s.nco)
      (and_from _ _ (is_true (in_symbol m.phase) s.phase-in) (rw s.step (is_true (eq (symbol_step r) (symbol_step r)) (eq_self (symbol_step r) false (step_value r lo hi).0 (2 ^ 62) (step_value r lo hi).1))))

  pub modulator-fits : (m : Modulator) → SoundModulator m r → ModulatorFits m
  modulator-fits m s = record { nco = nco-fits r lo hi m.nco s.nco; phase = s.phase-fits; step = rw s.step step_fits }

  -- ---- after a sample
  pub next-modulator : (m : Modulator) → SoundModulator m r → SoundModulator (next_modulator m) r
  next-modulator m s = record {
    nco = stepped-nco r lo hi m.nco s.nco;
    phase-fits = next-phase-fits m.step m.phase;
    phase-in = rw s.step (phase-stays r lo hi m.phase s.phase-fits s.phase-in);
    step = s.step;
  }

  -- ---- fresh, and at another bit
  module _ (mark space : Float) (M : Hertz mark) (S : Hertz space) where
    tone-hertz : (bit : Bool) → Hertz (tone_of mark space bit)
    tone-hertz true = M
    tone-hertz false = S

    pub fresh-modulator : (bit : Bool) → SoundModulator (fresh_modulator mark space r bit) r
    fresh-modulator bit = record { nco = fresh-nco r lo hi (tone_of mark space bit) (tone-hertz bit); phase-fits = of_bits-fits binary64 0; phase-in = zero-in-symbol; step = refl }

    pub keyed-modulator : (m : Modulator) (bit : Bool) → SoundModulator m r → SoundModulator (keyed m mark space bit) r
    keyed-modulator m bit s = record { nco = retuned-nco r lo hi m.nco (tone_of mark space bit) (tone-hertz bit) s.nco; phase-fits = s.phase-fits; phase-in = s.phase-in; step = s.step }

  -- ---- a channel's
  pub fresh-channel : (payload : List ℕ) → SoundModulator (fresh_channel payload r).modulator r
  unfolding fresh_channel
  fresh-channel payload = fresh-modulator (of_nat 980) (of_nat 1180) (hertz 980 (lit≤ tt)) (hertz 1180 (lit≤ tt)) (bit_at payload 0)

  next-keyed : (left : List Bool) (m : Modulator) → SoundModulator m r → SoundModulator (next_keyed left m) r
  next-keyed [] m s = s
  next-keyed (bit ∷ left) m s = keyed-modulator (of_nat 980) (of_nat 1180) (hertz 980 (lit≤ tt)) (hertz 1180 (lit≤ tt)) m bit s

  pub next-channel : (f : FskChannel) (payload : List ℕ) → SoundModulator f.modulator r → SoundModulator (next_channel f payload).modulator r
  unfolding next_channel
  next-channel f payload s = go (bit_ends f.modulator)
    where
      go : (b : Bool) → SoundModulator (channel_by b f payload).modulator r
      go true = next-keyed (drop (one_more_done f.done) (framed payload)) (next_modulator f.modulator) (next-modulator f.modulator s)
      go false = next-modulator f.modulator s
