-- 01, "The set" and "The list of demand 3": the samples that follow a state, one after another; the overture for digits is those that
-- follow the fresh state.
use Rattle.std.specs.Prelude.{ℕ, zero, suc, List, [], ◌∷◌, replicate, Float}
use Rattle.std.specs.Float.{binary32}
use Rattle.std.specs.Float.Ieee.{of_bits}
use Rattle.math.specs.Narrow.{narrowed}
use Rattle.stage.specs.declared.Stage.TheVariants as stage
use Rattle.stage.specs.declared.StageState.{StageState}
use Rattle.stage.specs.declared.Shown.{Shown}
use Rattle.stage.specs.Stage.{shown_of, waiting_of}
use Rattle.stage.specs.Enter.{enter_of}
use Rattle.stage.specs.Next.{sample_next, state_next}

-- the state before an overture's first sample
abbrev pub fresh : List ℕ → ℕ → StageState
fresh digits r = enter_of stage.OffHook digits r

-- the state after k samples
unfoldable pub after : ℕ → StageState → List ℕ → ℕ → StageState
after zero s digits r = s
after (suc k) s digits r = after k (state_next s digits r) digits r

-- those k samples, narrowed
unfoldable pub samples : ℕ → StageState → List ℕ → ℕ → List Float
samples zero s digits r = []
samples (suc k) s digits r = narrowed (sample_next s digits r) ∷ samples k (state_next s digits r) digits r

-- what is shown after a fill of k samples: of the last sample, or, after an empty fill, the stage of the next one. 02, E8: and no key
abbrev pub shown_after : ℕ → StageState → List ℕ → ℕ → Shown
shown_after zero s digits r = waiting_of s
shown_after (suc k) s digits r = shown_of (after k s digits r) digits

-- k samples of no sound
abbrev pub zeros : ℕ → List Float
zeros k = replicate k (of_bits binary32 0)
