-- No part of 01. What makes samples, one after another, and what a function that plays them into a buffer promises of it. It stops where what it
-- plays ends, so how much it wrote is its own to say.
use Rattle.std.specs.Prelude.{ℕ, zero, suc, ◌≤◌, ◌<◌, ◌≡◌, Bool, false, List, [], ◌∷◌, ◌++◌, length, drop, Float}
use Rattle.math.specs.Narrow.{narrowed}
use Rattle.fsk.specs.declared.Modulator.{Modulator}
use Rattle.fsk.specs.Modulator.{modulator_sample}

-- the sample of what is in hand, and what is in hand after it
pub record Source (X : Type 0) : Type 0 where
  pub sample : X → Float
  pub next : X → X

-- what is in hand after k samples from x, and those samples, narrowed
unfoldable pub left : {X : Type 0} → Source X → ℕ → X → X
left f zero x = x
left f (suc k) x = f.next (left f k x)

unfoldable pub made : {X : Type 0} → Source X → ℕ → X → List Float
made f zero x = []
made f (suc k) x = made f k x ++ (narrowed (f.sample (left f k x)) ∷ [])

-- over a part's front: the samples from x, with y left
pub record PlayedIs {X : Type 0} (f : Source X) (count : ℕ) (x : X) (was is : List Float) (y : X) : Type 0 where
  pub buffer : is ≡ made f count x ++ drop count was
  pub rest : y ≡ left f count x

-- what sounds on a modulator
abbrev pub keying : {X : Type 0} → (X → Modulator) → (X → X) → Source X
keying modulator next = record { sample = λ x. modulator_sample (modulator x); next = next }

-- over a part that held `was` and now holds `is`: the samples from x to the one that ends it, or until the part is full, with y left
pub record SoundedIs {X : Type 0} (f : Source X) (ends : X → Bool) (x : X) (was is : List Float) (y : X) (written : ℕ) : Type 0 where
  pub some : 0 < length was → 0 < written
  pub fits : written ≤ length was
  pub played : PlayedIs f written x was is y
  pub early : (j : ℕ) → suc j < written → ends (left f (suc j) x) ≡ false
