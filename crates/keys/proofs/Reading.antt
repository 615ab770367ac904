-- 02, E8 read off the contract of `dtmf_freqs`, in full, so that one that says less is refused here. Assumes nothing.
use Prim.Native.Nat.{ℕ, ◌+◌, ◌*◌, ◌<◌}
use mathlib.Core.Path.{◌≡◌, subst}
use lib.Ieee.{Float}
use lib.ListN.{get_or}
use Rattle.std.specs.Prelude.{Option, Some}
use Rattle.keys.specs.declared.Tones.{Tones}
use Rattle.keys.specs.Keys.{keypad, tones_of, NamesKey}
use Rattle.keys.proofs.dtmf_freqs.Reads as dtmf-freqs

module _ (b : ℕ) (answer : Option Tones) (d : dtmf-freqs.Learnt tt (b, tt) answer (b, tt)) where
  pub tones-are : answer ≡ tones_of b
  tones-are = d.0

  -- row and column, 0 to 3 each, name the same key as the digit
  pub key-is-named : (low high : Float) (row column : ℕ)
      → answer ≡ Some (record { low = low; high = high; key = record { row = row; column = column } })
      → (row < 4) × (column < 4) × (get_or keypad (4 * row + column) 0 ≡ b)
  key-is-named low high row column e = subst (NamesKey b) e d.1
