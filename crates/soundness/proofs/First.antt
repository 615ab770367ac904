-- Every stage begins sound: nothing is done yet and every stage has a first sample, its oscillators are fresh, and 01's frequencies are whole numbers of hertz. Assumes nothing.
use mathlib.Core.Path.{◌≡◌, refl, sym, subst}
use mathlib.Core.Bool.{Bool, true, false}
use mathlib.Core.List.{List}
use Prim.Native.Nat.{ℕ, zero, suc, ◌≤◌, ◌<◌, zero-le}
use native.Mathlib.Nat.{le_trans, zero-lt-suc}
use lib.Dec.{lit≤}
use lib.ListN.{length, get_or}
use borrow.Author.Tests.{lt-ltb}
use Rattle.math.specs.Float.{of_nat, one}
use Rattle.math.proofs.Values.{one_value}
use Rattle.frame.specs.Frame.{ci_payload, cm_jm_payload, cj_payload, training_payload}
use Rattle.std.specs.Prelude.{Option}
use Rattle.keys.specs.declared.Tones.{Tones}
use Rattle.keys.specs.Keys.{rows, columns, is_key, key_row, key_column, tones_of}
use Rattle.keys.proofs.Keypad.{key_row_lem, key-column, key-tones, no-tones, low-between, high-between}
use Rattle.schedule.proofs.Lengths.{click-range, dial-tone-range, dialling-range, ringback-range, ansam-range, silence-range}
use Rattle.fsk.specs.Channel.{fresh_channel}
use Rattle.tones.specs.declared.KeyTones.{KeyTones}
use Rattle.tones.specs.Dial.{tones_for, digit_tones}
use Rattle.stage.specs.declared.Stage.{Stage}
use Rattle.stage.specs.declared.Stage.TheVariants as stage
use Rattle.stage.specs.Enter.{at, enter_of}
use Rattle.soundness.specs.Sound.{rate_ok, digits_ok, digit_ok}
use Rattle.soundness.proofs.Limits.{rate-low, rate-high, digits-few}
use Rattle.soundness.proofs.Oscillators.{Hertz, hertz, fresh-nco}
use Rattle.soundness.proofs.Modulators.{fresh-channel}
use Rattle.soundness.proofs.States.{SoundTones, SoundBits, Facts, Sound, facts-sound}

-- ---- a key's two frequencies, and 1 Hz where there is no key
abbrev KeyHertz : KeyTones → Type 0
KeyHertz t = Hertz t.low × Hertz t.high

one-hertz : Hertz one
one-hertz = record { count = 1; value = one_value 1; most = lit≤ tt }

pub digit-hertz : (digits : List ℕ) (i : ℕ) → Hertz (digit_tones digits i).low × Hertz (digit_tones digits i).high
unfolding digit_tones
digit-hertz digits i = go (get_or digits i 0) _ refl
  where
    go : (b : ℕ) (k : Bool) → is_key b ≡ k → KeyHertz (tones_for (tones_of b))
    go b true e =
        subst (λ (t : Option Tones). KeyHertz (tones_for t)) (sym (key-tones b e)) (
          hertz (get_or rows (key_row b) 0) (le_trans (low-between (key_row b) (key_row_lem b e)).1 (lit≤ tt)),
          hertz (get_or columns (key_column b) 0) (le_trans (high-between (key_column b) (key-column b e)).1 (lit≤ tt)),
        )
    go b false e = subst (λ (t : Option Tones). KeyHertz (tones_for t)) (sym (no-tones b e)) (one-hertz, one-hertz)

-- ---- stages
first-digit : (d : ℕ) → digit_ok 0 d ≡ true
first-digit zero = refl
first-digit (suc d) = rw (lt-ltb 0 (suc d) (zero-lt-suc d))

module _ (r : ℕ) (lo : 8000 ≤ r) (hi : r ≤ 192000) where
  first-tones : (a b end : ℕ) → a ≤ 6000 → b ≤ 6000 → 0 < end → SoundTones (at a r) (at b r) 0 end r
  first-tones a b end A B h = record { first = fresh-nco r lo hi (of_nat a) (hertz a A); second = fresh-nco r lo hi (of_nat b) (hertz b B); count = h }

  first-bits : (payload : List ℕ) (N : ℕ) → 0 < N → SoundBits (fresh_channel payload r) N r
  unfolding fresh_channel
  first-bits payload N h = record { modulator = fresh-channel r lo hi payload; done = h }

  pub first-facts : (s : Stage) (digits : List ℕ) → length digits ≤ 76 → Facts (enter_of s digits r) (length digits) r
  unfolding enter_of fresh_channel
  first-facts stage.OffHook digits D = (click-range r lo hi).0
  first-facts stage.DialTone digits D = first-tones 350 450 _ (lit≤ tt) (lit≤ tt) (dial-tone-range r lo hi).0
  first-facts stage.Dialling digits D =
      let f = digit-hertz digits 0 in
      record {
        digit = first-digit (length digits);
        tones = record { first = fresh-nco r lo hi _ f.0; second = fresh-nco r lo hi _ f.1; count = (dialling-range r lo hi (length digits) D).0 };
      }
  first-facts stage.Ringback digits D = record { ring-ok = refl; tones = first-tones 400 450 _ (lit≤ tt) (lit≤ tt) (ringback-range r lo hi).0 }
  first-facts stage.Ci digits D = first-bits ci_payload 60 (lit≤ tt)
  first-facts stage.Ansam digits D = first-tones 2100 15 _ (lit≤ tt) (lit≤ tt) (ansam-range r lo hi).0
  first-facts stage.CmJm digits D = first-bits cm_jm_payload 80 (lit≤ tt)
  first-facts stage.Cj digits D = record { modulator = fresh-channel r lo hi cj_payload; done = zero-le; zeros = (silence-range r lo hi).0 }
  first-facts stage.Training digits D = first-bits training_payload 300 (lit≤ tt)
  first-facts stage.Connected digits D = tt

-- every stage begins sound
pub first-sound : (s : Stage) (digits : List ℕ) (r : ℕ) → rate_ok r ≡ true → digits_ok digits ≡ true → Sound (enter_of s digits r) digits r
first-sound s digits r rate keys = facts-sound (enter_of s digits r) digits r rate keys (first-facts r (rate-low r rate) (rate-high r rate) s digits (digits-few digits keys))
