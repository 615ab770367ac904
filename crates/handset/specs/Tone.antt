-- 02, E14: "A 32-bit phase that wraps picks entries by its top ten bits", what a tone gives by it, and two tones mixed.
use Rattle.std.specs.Prelude.{ℕ, zero, suc, ◌+◌, ◌*◌, ◌/◌, ◌%◌, ◌^◌, ℤ, pos, ◌+ℤ◌, ◌*ℤ◌, slice_index_or}
use Rattle.std.specs.Int.Signed.{shr_z}
use Rattle.handset.specs.Wave.{wave}

-- "its step is frequency × 2^32 / r rounded down"
unfoldable pub step_of : (hertz r : ℕ) → ℕ
step_of hertz r = hertz * 2 ^ 32 / r

-- "starts at 0", and after so many steps
unfoldable pub phase_after : (step steps : ℕ) → ℕ
phase_after step zero = 0
phase_after step (suc n) = (phase_after step n + step) % 2 ^ 32

-- the entry that a phase picks
abbrev pub entry_at : ℕ → ℤ
entry_at phase = slice_index_or wave (phase / 2 ^ 22) (pos 0)

-- "times a gain of 14,745 in 1/32,768, rounded down": towards minus infinity
unfoldable pub tone_at : ℕ → ℤ
tone_at phase = shr_z (pos 14745 *ℤ entry_at phase) (2 ^ 15)

-- "then added"
unfoldable pub mixed_at : ℕ → ℕ → ℤ
mixed_at low high = tone_at low +ℤ tone_at high
