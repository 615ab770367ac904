-- A sample's place in its stage, from the edges, and the run that begins there. Assumes nothing.
use Rattle.std.proofs.Common.{◌≡◌, ℕ, ◌+◌, ◌-◌, ◌<◌, ◌≤◌, List, length, sym, refl, ap, ◌∙◌, le_trans, le_of_eq, le_of_lt, arith}
use Rattle.math.specs.Float.{one}
use Rattle.schedule.specs.Time.{samples_in}
use Rattle.schedule.specs.Length.{ringback_time, dialling_length}
use Rattle.schedule.proofs.Lengths.{ringback-range}
use Rattle.runs.specs.Runs.{Least}
use Rattle.stage.specs.declared.Stage.TheVariants as stage
use Rattle.passage.specs.Lengths.{samples_before}
use Rattle.handset.specs.declared.Run.{Run}
use Rattle.handset.specs.declared.Edges.{Edges}
use Rattle.handset.specs.Runs.{silent_run, dial_tone_run, DialledRun, RungRun, Placed, IsRun}
use Rattle.handset.proofs.Lifted.{wider, all_of, early-run, late-run, dial-tone-run, dialling-run, ringback-run}

-- k lies between a stage's beginning and its end, L samples later
module _ (b e L k left m : ℕ) (ends : b + L ≡ e) (from : b ≤ k) (to : k < e) (least : Least (e - k) left m) where
  placed : b + (k - b) ≡ k
  placed = omega arith

  inside : (count : ℕ) → count ≤ m → k - b + count ≤ L
  inside count h = omega (arith, least.few)

  before : k - b < L
  before = omega arith

  some : 0 < e - k
  some = omega arith

module _ (digits : List ℕ) (r : ℕ) (edges : Edges) (left : ℕ) (P : Placed digits r edges left) (lo : 8000 ≤ r) (hi : r ≤ 192000) (few : length digits ≤ 76) (place : ℕ) where
  abbrev d : ℕ
  d = length digits

  tone-is : edges.tone ≡ samples_before stage.DialTone r d
  tone-is = ap (λ (e : Edges). e.tone) P.placed

  dial-is : edges.dial ≡ samples_before stage.Dialling r d
  dial-is = ap (λ (e : Edges). e.dial) P.placed

  ring-is : edges.ring ≡ samples_before stage.Ringback r d
  ring-is = ap (λ (e : Edges). e.ring) P.placed

  end_is : edges.end ≡ samples_before stage.Ci r d
  end_is = ap (λ (e : Edges). e.end) P.placed

  -- each stage ends where the next begins
  tone-ends : edges.tone + samples_in one r ≡ edges.dial
  unfolding samples_before
  tone-ends = rw (tone-is, dial-is)

  dial-ends : edges.dial + dialling_length r d ≡ edges.ring
  unfolding samples_before
  dial-ends = rw (dial-is, ring-is)

  ring-ends : edges.ring + samples_in ringback_time r ≡ edges.end
  unfolding samples_before
  ring-ends = rw (ring-is, end_is)

  pub early-placed : place < edges.tone → (m : ℕ) → Least (edges.tone - place) left m → IsRun digits r place left (silent_run m)
  early-placed to m least =
      early-run digits r lo hi few place left m
      (le_trans (fits edges.tone to least.few) (le_of_eq tone-is)) (all_of (edges.tone - place) left m least (positive edges.tone to))
    where
      fits : (e : ℕ) → place < e → m ≤ e - place → place + m ≤ e
      fits e h k = omega arith

      positive : (e : ℕ) → place < e → 0 < e - place
      positive e h = omega arith

  pub late-placed : edges.end ≤ place → IsRun digits r place left (silent_run left)
  late-placed from = late-run digits r lo hi few place left left (le_trans (le_of_eq (sym end_is)) from) (record { some = λ h. h; fits = le_trans (le_of_eq refl) (same left) })
    where
      same : (n : ℕ) → n ≤ n
      same n = omega arith

  module _ (from : edges.tone ≤ place) (to : place < edges.dial) (m : ℕ) (least : Least (edges.dial - place) left m) where
    pub dial-tone-placed : IsRun digits r place left (dial_tone_run (place - edges.tone) m)
    dial-tone-placed =
        dial-tone-run digits r lo hi few place (place - edges.tone) left m
        (ap (λ (b : ℕ). b + (place - edges.tone)) (sym tone-is) ∙ placed _ _ _ place left m tone-ends from to least)
        (inside _ _ _ place left m tone-ends from to least m (same m))
        (all_of (edges.dial - place) left m least (some _ _ _ place left m tone-ends from to least))
      where
        same : (n : ℕ) → n ≤ n
        same n = omega arith

  module _ (from : edges.dial ≤ place) (to : place < edges.ring) (m : ℕ) (least : Least (edges.ring - place) left m) where
    pub dialling-asks : (place - edges.dial < dialling_length r d) × (0 < m) × (m ≤ 65536)
    dialling-asks = (before _ _ _ place left m dial-ends from to least, least.some (some _ _ _ place left m dial-ends from to least) P.some, le_trans least.fits P.short)

    pub dialling-placed : (run : Run) → DialledRun digits r (place - edges.dial) m run → IsRun digits r place left run
    dialling-placed run R =
        dialling-run digits r lo hi few place (place - edges.dial) m left run
        (ap (λ (b : ℕ). b + (place - edges.dial)) (sym dial-is) ∙ placed _ _ _ place left m dial-ends from to least)
        (inside _ _ _ place left m dial-ends from to least run.count R.room.fits)
        R
        (wider (edges.ring - place) left m run.count least (some _ _ _ place left m dial-ends from to least) R.room)

  module _ (from : edges.ring ≤ place) (to : place < edges.end) (m : ℕ) (least : Least (edges.end - place) left m) where
    pub ringback-asks : (place - edges.ring ≤ 768000) × (0 < m) × (m ≤ 65536)
    ringback-asks = (
      le_trans (le_of_lt (before _ _ _ place left m ring-ends from to least)) (ringback-range r lo hi).1,
      least.some (some _ _ _ place left m ring-ends from to least) P.some,
      le_trans least.fits P.short,
    )

    pub ringback-placed : (run : Run) → RungRun r (place - edges.ring) m run → IsRun digits r place left run
    ringback-placed run R =
        ringback-run digits r lo hi few place (place - edges.ring) m left run
        (ap (λ (b : ℕ). b + (place - edges.ring)) (sym ring-is) ∙ placed _ _ _ place left m ring-ends from to least)
        (inside _ _ _ place left m ring-ends from to least run.count R.room.fits)
        R
        (wider (edges.end - place) left m run.count least (some _ _ _ place left m ring-ends from to least) R.room)
