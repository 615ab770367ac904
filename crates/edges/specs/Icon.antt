-- No part of 01, for the table that `call` prints: the icon that a set shows, and which sample of a fill is a stage's first.
use Rattle.std.specs.Prelude.{ℕ, ◌-◌, ◌<◌, ◌≤◌, ◌≡◌, Bool, true, false, Result, IfOk}
use Rattle.refusal.specs.declared.Refusal.{Refusal}
use Rattle.set.specs.declared.Set.{Set}
use Rattle.set.specs.Refusals.{cause_of_sound, answered, checked}
use Rattle.set.specs.Sound.{sound}
use Rattle.set.specs.Set.{fill, is_up, set_filled}

-- the stage shown, or 10 once the line is up
unfoldable pub icon_if : Bool → Set → ℕ
icon_if true s = 10
icon_if false s = s.session.shown

unfoldable pub icon_of : Set → ℕ
icon_of s = icon_if (is_up s.session) s

-- it is worked out, so the set is checked
unfoldable pub shown : Set → Result ℕ Refusal
shown s = answered (cause_of_sound (sound s)) (icon_of s)

-- after a fill of n samples
unfoldable pub icon_after : Set → ℕ → ℕ
icon_after s n = icon_of (set_filled s (fill s n))

-- sample k of a fill of n: the icon is a later one with it, if it is at the fill's end at all, and is not with the samples before it
pub record IsFirst (s : Set) (stage n k : ℕ) : Type 0 where
  pub within : k ≤ n
  -- sample 0 is none, so it is the answer for an empty fill only
  pub some : 0 < n → 0 < k
  pub before : 1 < k → icon_after s (k - 1) < stage
  pub shows : stage ≤ icon_after s n → stage ≤ icon_after s k

-- the answer: declined as the fill is, else the stage's first sample
pub record FirstIs (s : Set) (stage n : ℕ) (answer : Result ℕ Refusal) : Type 0 where
  pub refusal : checked answer ≡ checked (fill s n)
  pub first : IfOk answer (λ (k : ℕ). IsFirst s stage n k)
