-- 02, E10: "a fill now plays our own originate sender": the samples that follow, one after another.
use Rattle.std.specs.Prelude.{ℕ, zero, suc, ◌≤◌, ◌<◌, ◌≡◌, false, List, [], ◌∷◌, ◌++◌, Float, length, drop}
use Rattle.math.specs.Narrow.{narrowed}
use Rattle.fsk.specs.Modulator.{modulator_sample}
use Rattle.sender.specs.declared.Sender.{Sender}
use Rattle.sender.specs.declared.Sending.{Sending}
use Rattle.sender.specs.Sender.{ticked, sample_next, next}

-- after k samples
unfoldable pub after : ℕ → Sending → Sending
after zero x = x
after (suc k) x = after k (next x)

-- those k samples, narrowed
unfoldable pub samples : ℕ → Sending → List Float
samples zero x = []
samples (suc k) x = narrowed (sample_next x) ∷ samples k (next x)

-- ---- the samples of one bit: those from an edge's, once its bit is chosen, to the next edge
unfoldable pub ticks : ℕ → Sender → Sender
ticks zero s = s
ticks (suc k) s = ticks k (ticked s)

unfoldable pub tone_samples : ℕ → Sender → List Float
tone_samples zero s = []
tone_samples (suc k) s = narrowed (modulator_sample s.modulator) ∷ tone_samples k (ticked s)

-- what their writer promises of a part that held `was` and now holds `is`. It stops where the symbol ends,
-- so how much it wrote is its own to say. `left` is the sender after it
pub record PlayedIs (s left : Sender) (was is : List Float) (written : ℕ) : Type 0 where
  pub count : written ≤ length was
  pub some : 0 < length was → 0 < written
  pub buffer : is ≡ tone_samples written s ++ drop written was
  pub sender : left ≡ ticks written s
  pub between : (j : ℕ) → 0 < j → j < written → (ticks j s).edge ≡ false
