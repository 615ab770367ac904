-- A channel after a sample: its symbol phase and its bits done, by whether a bit is done, and the bit that is then set, by whether the payload has it. Assumes nothing.
use Prim.Native.Nat.{ℕ, ◌+◌, ◌<◌, ◌≤◌, min}
use native.Mathlib.Numerals.{add-one}
use mathlib.Core.Path.{◌≡◌, refl, ◌∙◌}
use mathlib.Core.Bool.{Bool, true, false}
use mathlib.Core.List.{List, [], ◌∷◌}
use lib.Dec.{ltb}
use lib.ListN.{length, drop, drop_of_length-le}
use lib.Seq.{drop-cons}
use borrow.Author.Tests.{ltb-true, ltb-false}
use Rattle.math.specs.Float.{f64, of_nat}
use Rattle.frame.specs.Frame.{framed, bit_at}
use Rattle.schedule.specs.Symbols.{next_phase, done_by}
use Rattle.schedule.proofs.Count.{inc-below, inc_saturates}
use Rattle.fsk.specs.declared.Modulator.{Modulator}
use Rattle.fsk.specs.declared.FskChannel.{FskChannel}
use Rattle.fsk.specs.Modulator.{keyed, bit_ends, next_modulator}
use Rattle.fsk.specs.Channel.{next_keyed, most_done, one_more_done, channel_by, next_channel}

-- the code's literals are 01's numbers
pub mark_is : f64 0x408e_a000_0000_0000 ≡ of_nat 980
unfolding lib.Ieee.of_bits lib.Ieee.of_int
mark_is = refl

pub space_is : f64 0x4092_7000_0000_0000 ≡ of_nat 1180
unfolding lib.Ieee.of_bits lib.Ieee.of_int
space_is = refl

-- std's `saturating_add` of one counts as 02, E5 has it
pub one_more_done_is : (done : ℕ) → done ≤ most_done → one_more_done done ≡ min (done + 1) most_done
unfolding one_more_done
one_more_done_is done h = inc_saturates most_done done h

module _ (payload : List ℕ) (k : ℕ) (m : Modulator) where
  pub next_bit : ltb k (length (framed payload)) ≡ true → next_keyed (drop k (framed payload)) m ≡ keyed m (of_nat 980) (of_nat 1180) (bit_at payload k)
  unfolding bit_at
  next_bit e = let h = ltb-true k (length (framed payload)) e in rw (drop-cons (framed payload) k true h)

  pub no-next-bit : ltb k (length (framed payload)) ≡ false → next_keyed (drop k (framed payload)) m ≡ m
  no-next-bit e = rw (drop_of_length-le (framed payload) {i = k} (ltb-false k (length (framed payload)) e))

-- a bit that is set leaves the symbol clock alone
keyed-phase : (left : List Bool) (m : Modulator) → (next_keyed left m).phase ≡ m.phase
keyed-phase [] m = refl
keyed-phase (bit ∷ left) m = refl

keyed-step : (left : List Bool) (m : Modulator) → (next_keyed left m).step ≡ m.step
keyed-step [] m = refl
keyed-step (bit ∷ left) m = refl

module _ (f : FskChannel) (payload : List ℕ) where
  pub next-phase : (next_channel f payload).modulator.phase ≡ next_phase f.modulator.step f.modulator.phase
  unfolding next_channel
  next-phase = go (bit_ends f.modulator)
    where
      go : (b : Bool) → (channel_by b f payload).modulator.phase ≡ next_phase f.modulator.step f.modulator.phase
      go true = keyed-phase (drop (one_more_done f.done) (framed payload)) (next_modulator f.modulator)
      go false = refl

  pub next-step : (next_channel f payload).modulator.step ≡ f.modulator.step
  unfolding next_channel
  next-step = go (bit_ends f.modulator)
    where
      go : (b : Bool) → (channel_by b f payload).modulator.step ≡ f.modulator.step
      go true = keyed-step (drop (one_more_done f.done) (framed payload)) (next_modulator f.modulator)
      go false = refl

  -- one more bit is done, or none
  pub next-done : f.done < most_done → (next_channel f payload).done ≡ done_by (bit_ends f.modulator) f.done
  unfolding next_channel one_more_done
  next-done h = go (bit_ends f.modulator)
    where
      go : (b : Bool) → (channel_by b f payload).done ≡ done_by b f.done
      go true = inc-below most_done f.done h ∙ add-one f.done
      go false = refl
