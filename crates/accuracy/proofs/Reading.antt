-- 02, E9 read off the four functions, which ask nothing, each promise at its full strength, so that one that says less is refused here; and the sum
-- and the level computed: the sum at 3 / 2, and of the 32-bit numbers 0.92's own neighbours on either side. Assumes nothing.
use Prim.Native.Nat.{ℕ, ◌+◌, ◌*◌, ◌^◌, ◌≤◌}
use mathlib.Core.Path.{◌≡◌, refl}
use mathlib.Core.List.{List, [], ◌∷◌, ◌++◌}
use contract.Lifetimes.{Lfts}
use denote.Bor.{Bor}
use denote.MutBor.{MutBor}
use denote.Ref.{at_last}
use lib.Dec.{T, leb→le, le→leb}
use lib.Ieee.{Float, le, binary32, of_bits}
use lib.ListN.{length}
use Rattle.math.specs.Float.{zero, quarter_turn, plus, times}
use Rattle.math.specs.Sine.{sine}
use Rattle.math.specs.Narrow.{narrowed}
use Rattle.tones.specs.Samples.{tone_gain}
use Rattle.overture.specs.declared.Filled as overture
use Rattle.overture.specs.Iteration.{fresh, after, samples, shown_after}
use Rattle.session.specs.declared.SessionState.TheVariants.{Dialling, Connected}
use Rattle.set.specs.declared.Set.{Set}
use Rattle.set.specs.declared.Filled.{Filled}
use Rattle.std.specs.Prelude.{Result, IsOk}
use Rattle.refusal.specs.declared.Refusal.{Refusal}
use Rattle.set.specs.Set.{fill, buffer}
use Rattle.accuracy.specs.Taylor.{units, factorial, term, added, taken, divisor}
use Rattle.accuracy.specs.Level.{InLevel, AllInLevel}
use Rattle.accuracy.proofs.near_sin.Reads as near-sin
use Rattle.accuracy.proofs.two_sines.Reads as two-sines
use Rattle.accuracy.proofs.read_fresh.Reads as read-fresh
use Rattle.accuracy.proofs.process_out.Reads as process-out

-- "for every f64", "at all rates and digits": no call asks anything
pub asks_nothing : (p q : Float) (s : Set) (rate : ℕ) (κ : Lfts 1) (κs : Lfts 2) (digits : Bor (List ℕ)) (out : MutBor (List Float))
    → near-sin.Asked tt (p, tt)
    × two-sines.Asked tt (p, (q, tt))
    × read-fresh.Asked κs (digits, (rate, (out, tt)))
    × process-out.Asked κ (s, (out, tt))
asks_nothing p q s rate κ κs digits out = (tt, tt, tt, tt)

-- the sum at 3 / 2, added and taken terms and what they are divided by
pub sum-at-3-halves : (added 3 2 ≡ 167509861004545764116604723) × (taken 3 2 ≡ 60632790288826871920618800) × (divisor 2 ≡ 107145471557284795514880000)
unfolding added taken term divisor factorial
sum-at-3-halves = (refl, refl, refl)

module _ (y r : Float) (d : near-sin.Learnt tt (y, tt) r (y, tt)) where
  pub is-sine : r ≡ sine y
  is-sine = d.0

  module _ (from : T (le zero y)) (to : T (le y quarter_turn)) where
    -- 2^-36 of a whole, in units of 2^-1074
    pub not-over : 2 ^ 36 * (units r * divisor (2 ^ 1074) + taken (units y) (2 ^ 1074) * 2 ^ 1074)
        ≤ 2 ^ 36 * (added (units y) (2 ^ 1074) * 2 ^ 1074) + 2 ^ 1074 * divisor (2 ^ 1074)
    not-over = (d.1 from to).within.over

    pub not-under : 2 ^ 36 * (added (units y) (2 ^ 1074) * 2 ^ 1074)
        ≤ 2 ^ 36 * (units r * divisor (2 ^ 1074) + taken (units y) (2 ^ 1074) * 2 ^ 1074) + 2 ^ 1074 * divisor (2 ^ 1074)
    not-under = (d.1 from to).within.under

    pub not_negative : T (le zero r)
    not_negative = (d.1 from to).sign

module _ (p q r : Float) (d : two-sines.Learnt tt (p, (q, tt)) r (p, (q, tt))) where
  pub is-mixed : r ≡ narrowed (plus (times (sine p) tone_gain) (times (sine q) tone_gain))
  is-mixed = d.0

  pub mixed-in-level : InLevel r
  mixed-in-level = d.1

module _ (κs : Lfts 2) (digits : Bor (List ℕ)) (rate : ℕ) (out : MutBor (List Float)) (left : List Float) (w : overture.Filled)
    (d : read-fresh.Learnt κs (digits, (rate, (out, tt))) w (digits, (rate, (at_last out left, tt)))) where
  pub is-the-overture : left ≡ samples (length out.now) (fresh digits.now rate) digits.now rate
  is-the-overture = d.0

  pub is-the-state : w.state ≡ after (length out.now) (fresh digits.now rate) digits.now rate
  is-the-state = d.1.0

  pub is-the-shown : w.shown ≡ shown_after (length out.now) (fresh digits.now rate) digits.now rate
  is-the-shown = d.1.1.0

  pub read-in-level : AllInLevel left
  read-in-level = d.1.1.1.0

  pub overture-in-level : (k : ℕ) → AllInLevel (samples k (fresh digits.now rate) digits.now rate)
  overture-in-level = d.1.1.1.1

module _ (s : Set) (κs : Lfts 1) (out : MutBor (List Float)) (left : List Float) (answer : Result Filled Refusal)
    (d : process-out.Learnt κs (s, (out, tt)) answer (s, (at_last out left, tt))) where
  pub is-the-fill : answer ≡ fill s (length out.now)
  is-the-fill = d.0

  pub is-the-buffer : left ≡ buffer s out.now
  is-the-buffer = d.1.0

  pub filled-in-level : s.session.state ≡ Dialling → IsOk answer → AllInLevel left
  filled-in-level = d.1.1.0

  pub sent-in-level : s.session.state ≡ Connected → IsOk answer → AllInLevel left
  sent-in-level = d.1.1.1

-- "every sample": whichever of them
pub each-in-level : (before : List Float) (x : Float) (behind : List Float) → AllInLevel (before ++ x ∷ behind) → InLevel x
unfolding AllInLevel
each-in-level [] x behind h = h.0
each-in-level (b ∷ before) x behind h = each-in-level before x behind h.1

-- 0.92 is no 32-bit number: the greatest below it keeps the level, the next one does not, and so with their signs
pub level-ends : InLevel (of_bits binary32 0x3f6b_851e) × InLevel (of_bits binary32 0xbf6b_851e)
unfolding of_bits
level-ends = (leb→le _ _ tt, leb→le _ _ tt)

pub level-passed : (InLevel (of_bits binary32 0x3f6b_851f) → ⊥) × (InLevel (of_bits binary32 0xbf6b_851f) → ⊥)
unfolding of_bits
level-passed = (λ h. le→leb _ _ h, λ h. le→leb _ _ h)

-- nor do the infinities and what is no number
pub level-of-none : (InLevel (of_bits binary32 0x7f80_0000) → ⊥) × (InLevel (of_bits binary32 0xff80_0000) → ⊥) × (InLevel (of_bits binary32 0x7fc0_0000) → ⊥)
unfolding of_bits
level-of-none = (λ h. h, λ h. h, λ h. h)
