-- In another state than Dialling a fill leaves the session, writes zeros and lights no key, and nothing rings. Case by case. Assumes nothing.
use Rattle.std.specs.Prelude.{ℕ, ◌≡◌, refl, None}
use Rattle.overture.specs.Iteration.{zeros}
use Rattle.stage.specs.declared.StageState.{StageState}
use Rattle.session.specs.declared.SessionState.{SessionState}
use Rattle.session.specs.declared.SessionState.TheVariants.{Idle, Dialling, Answering, Connected}
use Rattle.session.specs.declared.Session.{Session}
use Rattle.session.specs.Session.{filled_in, written_in, key_in, ring_in}

-- what answers the same in the three other states
same_in : {A : Type 0} (f : SessionState → A) (a : A) → f Idle ≡ a → f Answering ≡ a → f Connected ≡ a → (state : SessionState) → (state ≡ Dialling → ⊥) → f state ≡ a
same_in f a idle answering connected Dialling other = absurd (other refl)
same_in f a idle answering connected Idle other = idle
same_in f a idle answering connected Answering other = answering
same_in f a idle answering connected Connected other = connected

module _ (state : SessionState) (other : state ≡ Dialling → ⊥) where
  pub still : (s : Session) (b r : ℕ) → filled_in state s b r ≡ s
  still s b r = same_in (λ t. filled_in t s b r) s refl refl refl state other

  pub zeroed : (s : Session) (b r : ℕ) → written_in state s b r ≡ zeros b
  zeroed s b r = same_in (λ t. written_in t s b r) (zeros b) refl refl refl state other

  pub dark : (s : Session) (b r : ℕ) → key_in state s b r ≡ None
  dark s b r = same_in (λ t. key_in t s b r) None refl refl refl state other

  pub unrung : (s : StageState) → ring_in state s ≡ 0
  unrung s = same_in (λ t. ring_in t s) 0 refl refl refl state other

pub ruleset silent = (still, zeroed, dark, unrung)
