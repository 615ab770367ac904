-- No part of 02. What the code goes by: where the four first stages end, and runs, some samples in a row that sound alike.
use Rattle.std.specs.Prelude.{◌≡◌, ℕ, zero, suc, ◌+◌, ◌<◌, ◌≤◌, Bool, true, false, cond, List, [], ◌∷◌, length, ℤ, nat_lt, Some, None}
use Rattle.schedule.specs.Time.{time_at}
use Rattle.schedule.specs.Dialling.{digit_at, in_tone}
use Rattle.schedule.specs.Ringback.{ring_time, ring_tone}
use Rattle.stage.specs.declared.Stage.TheVariants as stage
use Rattle.passage.specs.Lengths.{samples_before, samples_of_digits}
use Rattle.handset.specs.declared.Run.{Run}
use Rattle.handset.specs.declared.Edges.{Edges}
use Rattle.tones.specs.Dial.{dialled_key}
use Rattle.handset.specs.Sound.{Sound, sounding_tones, key_sound, ring_sound, sound_after, steps_after, heard}

abbrev pub edges_of : (r d : ℕ) → Edges
edges_of r d = record {
  tone = samples_before stage.DialTone r d;
  dial = samples_before stage.Dialling r d;
  ring = samples_before stage.Ringback r d;
  end = samples_before stage.Ci r d;
}

-- the samples in tone among the first n of Ringback
abbrev pub count_if : Bool → ℕ → ℕ
count_if true k = suc k
count_if false k = k

abbrev pub rings_at : ℕ → ℕ → Bool
rings_at r n = ring_tone (ring_time (time_at r n))

unfoldable pub rung_before : ℕ → ℕ → ℕ
rung_before r zero = 0
rung_before r (suc n) = count_if (rings_at r n) (rung_before r n)

-- and with so many more, all in tone or none
abbrev pub rung_with : Bool → ℕ → ℕ → ℕ
rung_with true k count = k + count
rung_with false k count = k

-- no tone is as high as the lowest rate
abbrev pub Audible : Sound → Type 0
Audible None = Unit {0}
Audible (Some tones) = (tones.low < 8000) × (tones.high < 8000)

-- some samples, where there is room for one
pub record Room (left count : ℕ) : Type 0 where
  pub some : 0 < left → 0 < count
  pub fits : count ≤ left

abbrev pub silent_run : ℕ → Run
silent_run count = record { sound = None; steps = 0; count = count }

abbrev pub dial_tone_run : ℕ → ℕ → Run
dial_tone_run n count = record { sound = sounding_tones 350 450; steps = n; count = count }

-- of Dialling, n samples after its first: of one digit, in its tone or in its gap
pub record DialledRun (digits : List ℕ) (r n left : ℕ) (run : Run) : Type 0 where
  pub room : Room left run.count
  pub sound : run.sound ≡ key_sound (dialled_key digits (digit_at (time_at r n)) (in_tone (time_at r n)))
  pub steps : run.steps + samples_of_digits r (digit_at (time_at r n)) ≡ n
  pub digit-stays : (j : ℕ) → j < run.count → digit_at (time_at r (n + j)) ≡ digit_at (time_at r n)
  pub tone-stays : (j : ℕ) → j < run.count → in_tone (time_at r (n + j)) ≡ in_tone (time_at r n)

-- of Ringback: of one burst or of one gap
pub record RungRun (r n left : ℕ) (run : Run) : Type 0 where
  pub room : Room left run.count
  pub sound : run.sound ≡ ring_sound (rings_at r n)
  pub steps : run.steps ≡ rung_before r n
  pub stays : (j : ℕ) → j < run.count → rings_at r (n + j) ≡ rings_at r n

-- where the edges of a call are, and within a buffer's limits
pub record Placed (digits : List ℕ) (r : ℕ) (edges : Edges) (left : ℕ) : Type 0 where
  pub placed : edges ≡ edges_of r (length digits)
  pub some : 0 < left
  pub short : left ≤ 65536

-- of the wave, k samples after its first
pub record IsRun (digits : List ℕ) (r k left : ℕ) (run : Run) : Type 0 where
  pub room : Room left run.count
  pub audible : Audible run.sound
  pub sound : (j : ℕ) → j < run.count → sound_after digits r (k + j) ≡ run.sound
  pub heard-alike : (j : ℕ) → j < run.count → heard run.sound r (steps_after digits r (k + j)) ≡ heard run.sound r (run.steps + j)

-- so many samples that sound alike, from so many steps on
unfoldable pub heard_from : Sound → (r steps count : ℕ) → List ℤ
heard_from sound r steps zero = []
heard_from sound r steps (suc n) = heard sound r steps ∷ heard_from sound r (suc steps) n

-- no call sounds as late as this, so that it is all one where a later one begins
abbrev pub passed_of : ℕ → ℕ
passed_of pass = cond (nat_lt pass 0x1000_0000) pass 0x1000_0000
