-- From the runs of a stage's clock to runs of the wave: what sounds stays what it is, and where it sounds each sample is one step more. By the laws
-- of the stages. Assumes nothing.
use Rattle.std.proofs.Common.{◌≡◌, ℕ, zero, suc, ◌+◌, ◌-◌, ◌<◌, ◌≤◌, Bool, true, false, List, length, get_or, sym, refl, ap, ◌∙◌, subst, le_trans, le_refl, add-zero, le_of_lt, add-suc, arith, lit<}
use Rattle.math.specs.Float.{one}
use Rattle.std.specs.Prelude.{Option}
use Rattle.std.specs.declared.option.Option.TheVariants as option
use Rattle.keys.specs.declared.Key.{Key}
use Rattle.keys.specs.Keys.{rows, columns}
use Rattle.schedule.specs.Time.{time_at, samples_in}
use Rattle.schedule.specs.Dialling.{in_tone}
use Rattle.schedule.specs.Length.{ringback_time, dialling_length}
use Rattle.schedule.proofs.Lengths.{digit_after}
use Rattle.runs.specs.Runs.{counted, Least, OneGate, OneKey}
use Rattle.runs.proofs.Counted.{counted_is}
use Rattle.stage.specs.declared.Stage.TheVariants as stage
use Rattle.tones.specs.Dial.{dialled_key}
use Rattle.passage.specs.Lengths.{samples_before, samples_of_digits}
use Rattle.std.specs.Prelude.{Some, None}
use Rattle.handset.specs.declared.Tones.{Tones}
use Rattle.handset.specs.Sound.{Sound}
use Rattle.handset.specs.declared.Run.{Run}
use Rattle.handset.specs.Sound.{sounding_tones, key_sound, ring_sound, sound_after, steps_after, heard}
use Rattle.handset.specs.Runs.{count_if, rings_at, rung_before, rung_with, Audible, Room, silent_run, dial_tone_run, DialledRun, RungRun, IsRun}
use Rattle.handset.proofs.Stages.{silent-before, silent-after, dial-tone-sound, dial-tone-steps, ringback-sound, ringback-steps, dialling-sound, dialling-steps}

-- ---- what is audible
row_low : (row : ℕ) → get_or rows row 0 < 8000
row_low zero = lit< tt
row_low (suc zero) = lit< tt
row_low (suc (suc zero)) = lit< tt
row_low (suc (suc (suc zero))) = lit< tt
row_low (suc (suc (suc (suc row)))) = lit< tt

column-low : (column : ℕ) → get_or columns column 0 < 8000
column-low zero = lit< tt
column-low (suc zero) = lit< tt
column-low (suc (suc zero)) = lit< tt
column-low (suc (suc (suc zero))) = lit< tt
column-low (suc (suc (suc (suc column)))) = lit< tt

key-audible : (key : Option Key) → Audible (key_sound key)
key-audible (option.Some key) = (row_low key.row, column-low key.column)
key-audible option.None = tt

ring-audible : (on : Bool) → Audible (ring_sound on)
ring-audible true = (lit< tt, lit< tt)
ring-audible false = tt

-- ---- room
pub wider : (stage left least count : ℕ) → Least stage left least → 0 < stage → Room least count → Room left count
wider stage left least count L s S = record { some = λ h. S.some (L.some s h); fits = le_trans S.fits L.fits }

pub all_of : (stage left least : ℕ) → Least stage left least → 0 < stage → Room left least
all_of stage left least L s = record { some = L.some s; fits = L.fits }

-- ---- Ringback's bursts
pub rung-few : (r n : ℕ) → rung_before r n ≤ n
unfolding rung_before
rung-few r zero = le_refl 0
rung-few r (suc n) = go (rings_at r n) (rung-few r n)
  where
    go : (b : Bool) → rung_before r n ≤ n → count_if b (rung_before r n) ≤ suc n
    go true h = omega arith
    go false h = omega arith

one_more : (on b : Bool) (k c : ℕ) → b ≡ on → count_if b (rung_with on k c) ≡ rung_with on k (suc c)
one_more true b k c e = rw e (sym (add-suc k c))
one_more false b k c e = rw e

pub rung-more : (r n c : ℕ) (on : Bool) → ((j : ℕ) → j < c → rings_at r (n + j) ≡ on) → rung_before r (n + c) ≡ rung_with on (rung_before r n) c
unfolding rung_before
rung-more r n zero true h = ap (rung_before r) (add-zero n) ∙ sym (add-zero (rung_before r n))
rung-more r n zero false h = ap (rung_before r) (add-zero n)
rung-more r n (suc c) on h =
    ap (rung_before r) (add-suc n c)
    ∙ ap (count_if (rings_at r (n + c))) (rung-more r n c on (λ j l. h j (le_trans l (more c))))
    ∙ one_more on (rings_at r (n + c)) (rung_before r n) c (h c (le_refl (suc c)))
  where
    more : (c : ℕ) → c ≤ suc c
    more c = omega arith

-- a run of the rings' clock, as its samples are counted
pub gate-stays : (r n most c : ℕ) → OneGate r n most c → n ≤ 0x1000_0000 → most ≤ 0x1000_0000 → (j : ℕ) → j < c → rings_at r (n + j) ≡ rings_at r n
gate-stays r n most c G N M j l = subst (λ (m : ℕ). rings_at r m ≡ rings_at r n) (counted_is j n (omega (arith, G.fits))) (G.gate j l)

-- ---- a run of Dialling's clock
module _ (digits : List ℕ) (r n left i : ℕ) (on : Bool) (more start : ℕ) (sound : Sound) (N : n ≤ 0x1000_0000) (some : 0 < left) (short : left ≤ 65536)
    (ei : i ≡ digit_after r n) (eo : on ≡ in_tone (time_at r n)) (key : OneKey r n i on (left - 1) more)
    (es : start ≡ samples_of_digits r i) (before : start ≤ n) (sounds : sound ≡ key_sound (dialled_key digits i on)) where
  within : (j : ℕ) → j < more → counted (suc j) n ≡ n + suc j
  within j l = counted_is (suc j) n (omega (arith, key.fits))

  digit-stays : (j : ℕ) → j < more + 1 → digit_after r (n + j) ≡ digit_after r n
  digit-stays zero l = ap (digit_after r) (add-zero n)
  digit-stays (suc j) l = let h : j < more = omega arith in ap (digit_after r) (sym (within j h)) ∙ key.digit-stays j h ∙ ei

  tone-stays : (j : ℕ) → j < more + 1 → in_tone (time_at r (n + j)) ≡ in_tone (time_at r n)
  tone-stays zero l = ap (λ (m : ℕ). in_tone (time_at r m)) (add-zero n)
  tone-stays (suc j) l = let h : j < more = omega arith in ap (λ (m : ℕ). in_tone (time_at r m)) (sym (within j h)) ∙ key.tone-stays j h ∙ eo

  pub dialled-run : DialledRun digits r n left (record { sound = sound; steps = n - start; count = more + 1 })
  dialled-run = record {
    room = record { some = λ h. omega arith; fits = omega (arith, key.fits) };
    sound = sounds ∙ rw (ei, eo);
    steps = let e : start ≡ samples_of_digits r (digit_after r n) = es ∙ ap (samples_of_digits r) ei in rw (← e) (back n start before);
    digit-stays = digit-stays;
    tone-stays = tone-stays;
  }
    where
      back : (n s : ℕ) → s ≤ n → n - s + s ≡ n
      back n s h = omega arith

-- ---- runs of the wave
module _ (digits : List ℕ) (r : ℕ) (lo : 8000 ≤ r) (hi : r ≤ 192000) (few : length digits ≤ 76) where
  abbrev d : ℕ
  d = length digits

  pub silent-run : (k left count : ℕ) → Room left count → ((j : ℕ) → j < count → sound_after digits r (k + j) ≡ None) → IsRun digits r k left (silent_run count)
  silent-run k left count S h = record { room = S; audible = tt; sound = h; heard-alike = λ j l. refl }

  -- before dial tone, and after Ringback
  pub early-run : (k left count : ℕ) → k + count ≤ samples_before stage.DialTone r d → Room left count → IsRun digits r k left (silent_run count)
  early-run k left count e S = silent-run k left count S (λ j l. silent-before digits r lo hi few (k + j) (omega arith))

  pub late-run : (k left count : ℕ) → samples_before stage.Ci r d ≤ k → Room left count → IsRun digits r k left (silent_run count)
  late-run k left count e S = silent-run k left count S (λ j l. silent-after digits r lo hi few (k + j) (omega arith))

  -- the place of a sample, from its stage's first
  placed : (b n k j : ℕ) → b + n ≡ k → b + (n + j) ≡ k + j
  placed b n k j e = omega arith

  inside : (n count L j : ℕ) → n + count ≤ L → j < count → n + j < L
  inside n count L j h l = omega arith

  pub dial-tone-run : (k n left count : ℕ) → samples_before stage.DialTone r d + n ≡ k → n + count ≤ samples_in one r → Room left count → IsRun digits r k left (dial_tone_run n count)
  dial-tone-run k n left count e h S = record {
    room = S;
    audible = (lit< tt, lit< tt);
    sound = λ j l. ap (sound_after digits r) (sym (placed _ n k j e)) ∙ dial-tone-sound digits r lo hi few (n + j) (inside n count _ j h l);
    heard-alike = λ j l. ap (heard (sounding_tones 350 450) r) (ap (steps_after digits r) (sym (placed _ n k j e)) ∙ dial-tone-steps digits r lo hi few (n + j) (inside n count _ j h l));
  }

  -- where nothing sounds, no step matters
  by-sound : (sound : Sound) (a b : ℕ) → ((tones : Tones) → sound ≡ Some tones → a ≡ b) → heard sound r a ≡ heard sound r b
  by-sound None a b h = refl
  by-sound (Some tones) a b h = ap (heard (Some tones) r) (h tones refl)

  module _ (k n least left : ℕ) (run : Run) where
    pub dialling-run : samples_before stage.Dialling r d + n ≡ k → n + run.count ≤ dialling_length r d → DialledRun digits r n least run → Room left run.count → IsRun digits r k left run
    dialling-run e h R S = record {
      room = S;
      audible = subst Audible (sym R.sound) (key-audible (dialled_key digits (digit_after r n) (in_tone (time_at r n))));
      sound = sound;
      heard-alike = λ j l. by-sound run.sound _ _ (λ tones q. steps (steps_after digits r (k + j)) run.steps (samples_of_digits r (digit_after r n)) j R.steps (sounded j l tones q));
    }
      where
        sound : (j : ℕ) → j < run.count → sound_after digits r (k + j) ≡ run.sound
        sound j l =
            ap (sound_after digits r) (sym (placed _ n k j e))
            ∙ dialling-sound digits r lo hi few (n + j) (inside n _ _ j h l)
            ∙ rw (R.digit-stays j l, R.tone-stays j l) (sym R.sound)

        sounded : (j : ℕ) → j < run.count → (tones : Tones) → run.sound ≡ Some tones → steps_after digits r (k + j) + samples_of_digits r (digit_after r n) ≡ n + j
        sounded j l tones q =
            rw (← R.digit-stays j l, ← placed _ n k j e)
            (dialling-steps digits r lo hi few (n + j) (inside n _ _ j h l) tones (ap (sound_after digits r) (placed _ n k j e) ∙ sound j l ∙ q))

        steps : (a s x j : ℕ) → s + x ≡ n → a + x ≡ n + j → a ≡ s + j
        steps a s x j f g = omega arith

    pub ringback-run : samples_before stage.Ringback r d + n ≡ k → n + run.count ≤ samples_in ringback_time r → RungRun r n least run → Room left run.count → IsRun digits r k left run
    ringback-run e h R S = record {
      room = S;
      audible = subst Audible (sym R.sound) (ring-audible (rings_at r n));
      sound = λ j l. ap (sound_after digits r) (sym (placed _ n k j e)) ∙ ringback-sound digits r lo hi few (n + j) (inside n _ _ j h l) ∙ ap ring_sound (R.stays j l) ∙ sym R.sound;
      heard-alike = λ j l. by-sound run.sound _ _ (λ tones q.
          ap (steps_after digits r) (sym (placed _ n k j e))
          ∙ ringback-steps digits r lo hi few (n + j) (inside n _ _ j h l)
          ∙ rung-more r n j true (λ i m. R.stays i (le_trans m (le_of_lt l)) ∙ rings (rings_at r n) tones (sym R.sound ∙ q))
          ∙ ap (λ (x : ℕ). x + j) (sym R.steps));
    }
      where
        rings : (b : Bool) (tones : Tones) → ring_sound b ≡ Some tones → b ≡ true
        rings true tones e = refl
        rings false tones e = cc
