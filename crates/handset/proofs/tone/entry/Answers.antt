-- `tone::entry` meets its contract: it is the wave's entry, and each entry of the wave is right. Assumes nothing.
use Rattle.std.proofs.Common.{◌≡◌, ℕ, ◌/◌, ◌^◌, ◌<◌, List, get_or, ℤ, pos, sym, refl, ap, ◌∙◌, subst, w32, to_z, of_z}
use Rattle.handset.specs.Rule.{IsSine}
use Rattle.handset.specs.Wave.{wave}
use Rattle.handset.specs.Tone.{entry_at}
use Rattle.handset.proofs.Entries.{picked}
use Rattle.handset.proofs.Gain.{entry-back}
use Rattle.handset.proofs.tone.entry.Goals as goal

-- as it lay in its word
read : (table : List ℤ) (phase : ℕ) → table ≡ wave → phase < 2 ^ 32
    → (to_z w32 (of_z w32 (get_or table (phase / 2 ^ 22) (pos 0))) ≡ entry_at phase) × IsSine (phase / 2 ^ 22) (to_z w32 (of_z w32 (get_or table (phase / 2 ^ 22) (pos 0))))
read table phase e h =
    let is : get_or table (phase / 2 ^ 22) (pos 0) ≡ entry_at phase = ap (λ (l : List ℤ). get_or l (phase / 2 ^ 22) (pos 0)) e in
    let back = entry-back phase (get_or table (phase / 2 ^ 22) (pos 0)) is ∙ is in
    (back, subst (IsSine (phase / 2 ^ 22)) (sym back) (picked phase h))

pub returns : goal.returns
unfolding wave
returns c = read wave c.args.phase refl c.ranges.phase.fits
