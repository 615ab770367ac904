-- What was stored is loaded as it was, part by part; and memory that holds no set loads as an unsound one: no sound set has rate 0.
-- Assumes nothing.
use mathlib.Core.Path.{◌≡◌, refl, sym, ap, ◌∙◌}
use mathlib.Core.Bool.{Bool, true, false}
use mathlib.Core.List.{[], ◌∷◌}
use lib.Dec.{leb, eqb}
use native.Mathlib.Omega.{arith}
use Rattle.std.proofs.lemmas.Bool.{false_from_ne_true}
use Rattle.command.specs.Line.{ran_over}
use Rattle.at.specs.Processor.{command_mode, line_of, seen}
use Rattle.stage.specs.declared.StageState.{StageState}
use Rattle.stage.specs.declared.StageState.TheVariants as at
use Rattle.session.specs.declared.SessionState.{SessionState}
use Rattle.session.specs.declared.SessionState.TheVariants.{Idle, Dialling, Answering, Connected}
use Rattle.session.specs.Session.{state_number}
use Rattle.set.specs.declared.Set.{Set}
use Rattle.set.specs.Set.{fresh_set}
use Rattle.set.specs.Sound.{sound}
use Rattle.set.proofs.Ranges.{sound-rate}
use Rattle.gibbonplate.specs.declared.plain.PlainStage.{PlainStage}
use Rattle.gibbonplate.specs.declared.memory.Memory.{Memory}
use Rattle.gibbonplate.specs.Memory.{plain, staged, state_at, flag, stored, set_in, loaded, holds_set}

flag-low : (on : Bool) → leb (flag on) 1 ≡ true
flag-low true = refl
flag-low false = refl

flag-back : (on : Bool) → eqb (flag on) 1 ≡ on
flag-back true = refl
flag-back false = refl

state-low : (state : SessionState) → leb (state_number state) 3 ≡ true
unfolding state_number
state-low Idle = refl
state-low Dialling = refl
state-low Answering = refl
state-low Connected = refl

state-back : (state : SessionState) → state_at (state_number state) ≡ state
unfolding state_number
state-back Idle = refl
state-back Dialling = refl
state-back Answering = refl
state-back Connected = refl

stage-range : (stage : StageState) → (leb 1 (plain stage).number ≡ true) × (leb (plain stage).number 10 ≡ true)
stage-range (at.OffHook rng n) = (refl, refl)
stage-range (at.DialTone a b n) = (refl, refl)
stage-range (at.Dialling i on a b n) = (refl, refl)
stage-range (at.Ringback a b n ring) = (refl, refl)
stage-range (at.Ci f) = (refl, refl)
stage-range (at.Ansam c e n) = (refl, refl)
stage-range (at.CmJm f) = (refl, refl)
stage-range (at.Cj f z) = (refl, refl)
stage-range (at.Training f) = (refl, refl)
stage-range at.Connected = (refl, refl)

-- the set's stage is read back from its numbers as it was: 16 bits hold its bits done
abbrev StageBack : Set → Type 0
StageBack s = staged (plain s.session.stage) ≡ s.session.stage

back : (s : Set) → StageBack s → set_in (stored s) ≡ s
unfolding set_in stored
back s stage-back =
    rw (
      flag-back (command_mode s.processor),
      flag-back (seen s.processor),
      flag-back (plain s.session.stage).tone,
      flag-back (ran_over (line_of s.processor)),
      flag-back s.sending.sender.edge,
      state-back s.session.state,
      stage-back,
    )

reload : (s : Set) → StageBack s → loaded (stored s) ≡ s
unfolding loaded stored
reload s stage-back =
    rw (
      flag-low (command_mode s.processor),
      flag-low (seen s.processor),
      state-low s.session.state,
      (stage-range s.session.stage).0,
      (stage-range s.session.stage).1,
      flag-low (plain s.session.stage).tone,
      flag-low (ran_over (line_of s.processor)),
      flag-low s.sending.sender.edge,
    )
    (back s stage-back)

-- of memory with a set stored in it, from the numbers of its stage
pub laid : (m : Memory) (s : Set) (p : PlainStage) → (p ≡ plain s.session.stage) × (staged p ≡ s.session.stage) → m ≡ stored s → (m ≡ stored s) × (loaded m ≡ s)
laid m s p (is, stage-back) e = (e, ap loaded e ∙ reload s (sym (ap staged is) ∙ stage-back))

-- a flag of 2 is none: the mode, the carrier-seen mark, whether in tone, whether the line ran over, whether an edge is next
pub flags-of-2 :
    (holds_set (2 ∷ 0 ∷ 0 ∷ 0 ∷ 0 ∷ 1 ∷ 0 ∷ 0 ∷ 0 ∷ []) ≡ false)
    × (holds_set (0 ∷ 0 ∷ 2 ∷ 0 ∷ 0 ∷ 1 ∷ 0 ∷ 0 ∷ 0 ∷ []) ≡ false)
    × (holds_set (0 ∷ 0 ∷ 0 ∷ 0 ∷ 0 ∷ 1 ∷ 0 ∷ 2 ∷ 0 ∷ []) ≡ false)
    × (holds_set (0 ∷ 0 ∷ 0 ∷ 0 ∷ 0 ∷ 1 ∷ 0 ∷ 0 ∷ 2 ∷ []) ≡ false)
    × (holds_set (0 ∷ 0 ∷ 0 ∷ 0 ∷ 0 ∷ 1 ∷ 0 ∷ 0 ∷ 0 ∷ 0 ∷ 0 ∷ 0 ∷ 2 ∷ []) ≡ false)
flags-of-2 = (refl, refl, refl, refl, refl)

pub no-set : sound (fresh_set 0) ≡ false
no-set = false_from_ne_true _ (λ (e : sound (fresh_set 0) ≡ true). omega (arith, (sound-rate (fresh_set 0) e).0))
