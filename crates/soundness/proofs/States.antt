-- A sound state: what the test of each kind says of its oscillators, its bits and its counts, and what that test asks. Of a state whose floats are
-- numbers of binary64, as in any that code holds: a definition can be given any float. Assumes nothing.
use mathlib.Core.Path.{◌≡◌, refl}
use mathlib.Core.Bool.{true, ◌&&◌, and-eq-true_iff}
use mathlib.Core.List.{List}
use Prim.Native.Nat.{ℕ, ◌≤◌, ◌<◌}
use lib.Dec.{leb, ltb}
use lib.ListN.{length}
use borrow.Author.Tests.{leb-true, ltb-true, le-leb, lt-ltb}
use Rattle.math.specs.Float.{one}
use Rattle.nco.specs.declared.Nco.{Nco}
use Rattle.schedule.specs.Time.{samples_in}
use Rattle.schedule.specs.Length.{click_time, ringback_time, ansam_time, cj_silence, dialling_length}
use Rattle.fsk.specs.declared.FskChannel.{FskChannel}
use Rattle.stage.specs.declared.StageState.{StageState}
use Rattle.stage.specs.declared.StageState.TheVariants.{OffHook, DialTone, Dialling, Ringback, Ci, Ansam, CmJm, Cj, Training, Connected}
use Rattle.soundness.specs.Sound.{rate_ok, digits_ok, nco_ok, modulator_ok, digit_ok, ring_ok, tones_ok, dialling_ok, ringback_ok, bits_ok, cj_ok, state_ok, sound_state}
use Rattle.soundness.proofs.Limits.{rate-low, rate-high}
use Rattle.std.proofs.lemmas.Bool.{and_from}
use Rattle.soundness.proofs.Oscillators.{NcoFits, SoundNco, nco-sound, nco-ok, nco-fits}
use Rattle.soundness.proofs.Modulators.{ModulatorFits, SoundModulator, modulator-sound, modulator-ok, modulator-fits}

abbrev pub StateFits : StageState → Type 0
StateFits (OffHook rng n) = Unit {0}
StateFits (DialTone a b n) = NcoFits a × NcoFits b
StateFits (Dialling i on a b n) = NcoFits a × NcoFits b
StateFits (Ringback a b n ring) = NcoFits a × NcoFits b
StateFits (Ci f) = ModulatorFits f.modulator
StateFits (Ansam carrier env n) = NcoFits carrier × NcoFits env
StateFits (CmJm f) = ModulatorFits f.modulator
StateFits (Cj f z) = ModulatorFits f.modulator
StateFits (Training f) = ModulatorFits f.modulator
StateFits Connected = Unit {0}

-- two oscillators, and a count below the stage's end
pub record SoundTones (a b : Nco) (n end r : ℕ) : Type 0 where
  pub first : SoundNco a r
  pub second : SoundNco b r
  pub count : n < end

pub record SoundBits (f : FskChannel) (N r : ℕ) : Type 0 where
  pub modulator : SoundModulator f.modulator r
  pub done : f.done < N

pub record SoundCj (f : FskChannel) (z r : ℕ) : Type 0 where
  pub modulator : SoundModulator f.modulator r
  pub done : f.done ≤ 60
  pub zeros : z < samples_in cj_silence r

pub record SoundDialling (i : ℕ) (a b : Nco) (n d r : ℕ) : Type 0 where
  pub digit : digit_ok i d ≡ true
  pub tones : SoundTones a b n (dialling_length r d) r

pub record SoundRingback (a b : Nco) (n ring r : ℕ) : Type 0 where
  pub ring-ok : ring_ok ring ≡ true
  pub tones : SoundTones a b n (samples_in ringback_time r) r

abbrev pub Facts : StageState → (d r : ℕ) → Type 0
Facts (OffHook rng n) d r = n < samples_in click_time r
Facts (DialTone a b n) d r = SoundTones a b n (samples_in one r) r
Facts (Dialling i on a b n) d r = SoundDialling i a b n d r
Facts (Ringback a b n ring) d r = SoundRingback a b n ring r
Facts (Ci f) d r = SoundBits f 60 r
Facts (Ansam carrier env n) d r = SoundTones carrier env n (samples_in ansam_time r) r
Facts (CmJm f) d r = SoundBits f 80 r
Facts (Cj f z) d r = SoundCj f z r
Facts (Training f) d r = SoundBits f 300 r
Facts Connected d r = Unit {0}

module _ (r : ℕ) (lo : 8000 ≤ r) (hi : r ≤ 192000) where
  -- ---- from the test
  tones-sound : (a b : Nco) (n end : ℕ) → NcoFits a × NcoFits b → (nco_ok a r && (nco_ok b r && ltb n end)) ≡ true → SoundTones a b n end r
  tones-sound a b n end h e =
      let (first, rest) = (and-eq-true_iff (nco_ok a r) _).0 e in
      let (second, count) = (and-eq-true_iff (nco_ok b r) _).0 rest in
      record { first = nco-sound r lo hi a h.0 first; second = nco-sound r lo hi b h.1 second; count = ltb-true n end count }

  bits-sound : (f : FskChannel) (N : ℕ) → ModulatorFits f.modulator → bits_ok f N r ≡ true → SoundBits f N r
  unfolding bits_ok
  bits-sound f N h e =
      let (m, done) = (and-eq-true_iff (modulator_ok f.modulator r) _).0 e in
      record { modulator = modulator-sound r lo hi f.modulator h m; done = ltb-true f.done N done }

  cj-sound : (f : FskChannel) (z : ℕ) → ModulatorFits f.modulator → cj_ok f z r ≡ true → SoundCj f z r
  unfolding cj_ok
  cj-sound f z h e =
      let (m, rest) = (and-eq-true_iff (modulator_ok f.modulator r) _).0 e in
      let (done, zeros) = (and-eq-true_iff (leb f.done 60) _).0 rest in
      record { modulator = modulator-sound r lo hi f.modulator h m; done = leb-true f.done 60 done; zeros = ltb-true z (samples_in cj_silence r) zeros }

  pub facts : (s : StageState) (d : ℕ) → StateFits s → state_ok s d r ≡ true → Facts s d r
  unfolding state_ok tones_ok dialling_ok ringback_ok
  facts (OffHook rng n) d h e = ltb-true n (samples_in click_time r) e
  facts (DialTone a b n) d h e = tones-sound a b n (samples_in one r) h e
  facts (Dialling i on a b n) d h e =
      let (digit, rest) = (and-eq-true_iff (digit_ok i d) _).0 e in
      record { digit = digit; tones = tones-sound a b n (dialling_length r d) h rest }
  facts (Ringback a b n ring) d h e =
      let (ok, rest) = (and-eq-true_iff (ring_ok ring) _).0 e in
      record { ring-ok = ok; tones = tones-sound a b n (samples_in ringback_time r) h rest }
  facts (Ci f) d h e = bits-sound f 60 h e
  facts (Ansam carrier env n) d h e = tones-sound carrier env n (samples_in ansam_time r) h e
  facts (CmJm f) d h e = bits-sound f 80 h e
  facts (Cj f z) d h e = cj-sound f z h e
  facts (Training f) d h e = bits-sound f 300 h e
  facts Connected d h e = tt

  -- ---- and back
  tones-ok : (a b : Nco) (n end : ℕ) → SoundTones a b n end r → (NcoFits a × NcoFits b) × ((nco_ok a r && (nco_ok b r && ltb n end)) ≡ true)
  tones-ok a b n end k = ((nco-fits r lo hi a k.first, nco-fits r lo hi b k.second), and_from _ _ (nco-ok r lo hi a k.first) (and_from _ _ (nco-ok r lo hi b k.second) (lt-ltb n end k.count)))

  bits-ok : (f : FskChannel) (N : ℕ) → SoundBits f N r → ModulatorFits f.modulator × (bits_ok f N r ≡ true)
  unfolding bits_ok
  bits-ok f N k = (modulator-fits r lo hi f.modulator k.modulator, and_from _ _ (modulator-ok r lo hi f.modulator k.modulator) (lt-ltb f.done N k.done))

  pub facts-ok : (s : StageState) (d : ℕ) → Facts s d r → StateFits s × (state_ok s d r ≡ true)
  unfolding state_ok tones_ok dialling_ok ringback_ok cj_ok
  facts-ok (OffHook rng n) d k = (tt, lt-ltb n (samples_in click_time r) k)
  facts-ok (DialTone a b n) d k = tones-ok a b n (samples_in one r) k
  facts-ok (Dialling i on a b n) d k = let (fit, ok) = tones-ok a b n (dialling_length r d) k.tones in (fit, and_from _ _ k.digit ok)
  facts-ok (Ringback a b n ring) d k = let (fit, ok) = tones-ok a b n (samples_in ringback_time r) k.tones in (fit, and_from _ _ k.ring-ok ok)
  facts-ok (Ci f) d k = bits-ok f 60 k
  facts-ok (Ansam carrier env n) d k = tones-ok carrier env n (samples_in ansam_time r) k
  facts-ok (CmJm f) d k = bits-ok f 80 k
  facts-ok (Cj f z) d k = (
    modulator-fits r lo hi f.modulator k.modulator,
    and_from _ _ (modulator-ok r lo hi f.modulator k.modulator) (and_from _ _ (le-leb f.done 60 k.done) (lt-ltb z (samples_in cj_silence r) k.zeros)),
  )
  facts-ok (Training f) d k = bits-ok f 300 k
  facts-ok Connected d k = (tt, refl)

-- ---- the test, with the digits and the rate
pub record SoundParts (s : StageState) (digits : List ℕ) (r : ℕ) : Type 0 where
  pub rate : rate_ok r ≡ true
  pub keys : digits_ok digits ≡ true
  pub state : state_ok s (length digits) r ≡ true

pub sound-parts : (s : StageState) (digits : List ℕ) (r : ℕ) → sound_state s digits r ≡ true → SoundParts s digits r
unfolding sound_state
sound-parts s digits r e =
    let (rate, rest) = (and-eq-true_iff (rate_ok r) _).0 e in
    let (keys, state) = (and-eq-true_iff (digits_ok digits) _).0 rest in
    record { rate = rate; keys = keys; state = state }

-- sound, of floats that are numbers of binary64
abbrev pub Sound : StageState → List ℕ → ℕ → Type 0
Sound s digits r = StateFits s × (sound_state s digits r ≡ true)

pub facts-sound : (s : StageState) (digits : List ℕ) (r : ℕ) → rate_ok r ≡ true → digits_ok digits ≡ true → Facts s (length digits) r → Sound s digits r
unfolding sound_state
facts-sound s digits r rate keys k = let (fit, ok) = facts-ok r (rate-low r rate) (rate-high r rate) s (length digits) k in (fit, and_from _ _ rate (and_from _ _ keys ok))
