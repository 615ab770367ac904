-- 01, "Cue", and 02, E2: which sample numbers, from 1 in the whole overture, lie in the tone of the digit at position p, and the first of them.
use Rattle.std.specs.Prelude.{Bool, true, false, ◌&&◌, List, ◌≡◌, ℕ, suc, ◌-◌, ◌≤◌, eqb, length}
use Rattle.math.specs.Float.{of_nat}
use Rattle.nco.specs.declared.Nco.{Nco}
use Rattle.nco.specs.Nco.{step_of}
use Rattle.schedule.specs.Length.{first_from, total}
use Rattle.stage.specs.declared.StageState.{StageState}
use Rattle.stage.specs.declared.StageState.TheVariants.{OffHook, DialTone, Dialling, Ringback, Ci, Ansam, CmJm, Cj, Training, Connected}
use Rattle.tones.specs.Dial.{digit_tones}
use Rattle.overture.specs.Iteration.{fresh, after}

-- the state that sample m is made from, after the m - 1 before it, is Dialling's, at that digit, in tone, with its key's two frequencies
pub record InDigitTone (digits : List ℕ) (r p m : ℕ) : Type 0 where
  pub before : ℕ
  pub number : m ≡ suc before
  pub a : Nco
  pub b : Nco
  pub n : ℕ
  pub state : after before (fresh digits r) digits r ≡ Dialling p true a b n
  pub low : a.step ≡ step_of (digit_tones digits p).low (of_nat r)
  pub high : b.step ≡ step_of (digit_tones digits p).high (of_nat r)

-- 02, E2: "the first sample of that digit's tone: no smaller sample number lies in it"
pub record FirstInTone (digits : List ℕ) (r p m : ℕ) : Type 0 where
  pub in_tone : InDigitTone digits r p m
  pub least : (k : ℕ) → InDigitTone digits r p k → m ≤ k

-- it as a number. Whether a state's next sample is in that digit's tone
unfoldable pub sounding : ℕ → StageState → Bool
sounding p (OffHook rng n) = false
sounding p (DialTone a b n) = false
sounding p (Dialling i on a b n) = eqb i p && on
sounding p (Ringback a b n ring) = false
sounding p (Ci f) = false
sounding p (Ansam c e n) = false
sounding p (CmJm f) = false
sounding p (Cj f z) = false
sounding p (Training f) = false
sounding p Connected = false

-- whether sample m is
abbrev pub in_digit_tone : List ℕ → ℕ → ℕ → ℕ → Bool
in_digit_tone digits r p m = sounding p (after (m - 1) (fresh digits r) digits r)

-- and the first that is, of an overture's T; where none is, T + 1
unfoldable pub first_in_tone : List ℕ → ℕ → ℕ → ℕ
first_in_tone digits r p = first_from (in_digit_tone digits r p) (total r (length digits)) (in_digit_tone digits r p 1) 1
