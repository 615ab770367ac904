-- 02, E8 read off the contract of `process_out`, of every set: the key is that of the last sample, and none after an empty or declined fill or where
-- nothing is dialled. A contract or a definition that says less is refused here. Assumes nothing.
use Prim.Native.Nat.{ℕ, suc}
use mathlib.Core.Path.{◌≡◌, refl, ap, ◌∙◌}
use mathlib.Core.Bool.{Bool, true, false}
use mathlib.Core.List.{List}
use contract.Lifetimes.{Lfts}
use denote.Ref.{MutBor, at_last}
use lib.Ieee.{Float}
use lib.ListN.{length}
use Rattle.std.specs.Prelude.{Result, Option, None}
use Rattle.refusal.specs.declared.Refusal.{Refusal}
use Rattle.keys.specs.declared.Key.{Key}
use Rattle.stage.specs.Stage.{key_of}
use Rattle.overture.specs.Iteration.{after}
use Rattle.session.specs.declared.SessionState.{SessionState}
use Rattle.session.specs.declared.SessionState.TheVariants.{Idle, Dialling, Answering, Connected}
use Rattle.session.specs.Session.{digits_held, key_in, key_after}
use Rattle.set.specs.declared.Set.{Set}
use Rattle.set.specs.declared.Filled.{Filled}
use Rattle.set.specs.Refusals.{accepted, either}
use Rattle.set.specs.Set.{fill_cause, samples_filled, fill, key_filled}
use Rattle.set.proofs.Unchanged.{told-if}
use Rattle.set.proofs.Set.process_out.Reads as process-out

dark-if : (t : Bool) (key : Option Key) → key ≡ None → either t key None ≡ None
dark-if true key e = e
dark-if false key e = refl

module _ (s : Set) (κs : Lfts 1) (out : MutBor (List Float)) (left : List Float) (answer : Result Filled Refusal)
    (d : process-out.Learnt κs (s, (out, tt)) answer (s, (at_last out left, tt))) where
  key-is : key_filled answer ≡ either (accepted (fill_cause s (length out.now))) (key_after s.session (length out.now) s.rate) None
  unfolding fill
  key-is = ap key_filled d.0 ∙ told-if (fill_cause s (length out.now)) (λ (f : Filled). f.key) None (samples_filled s (length out.now))

  pub declined-dark : accepted (fill_cause s (length out.now)) ≡ false → key_filled answer ≡ None
  declined-dark declined = rw (key-is, declined)

  pub empty-dark : length out.now ≡ 0 → key_filled answer ≡ None
  unfolding key_after
  empty-dark empty = key-is ∙ dark-if (accepted (fill_cause s (length out.now))) _ (rw empty (by_state s.session.state))
    where
      by_state : (state : SessionState) → key_in state s.session 0 s.rate ≡ None
      by_state Idle = refl
      by_state Dialling = refl
      by_state Answering = refl
      by_state Connected = refl

  pub undialled-dark : (s.session.state ≡ Dialling → ⊥) → key_filled answer ≡ None
  unfolding key_after
  undialled-dark other = key-is ∙ dark-if (accepted (fill_cause s (length out.now))) _ (by_state s.session.state other)
    where
      by_state : (state : SessionState) → (state ≡ Dialling → ⊥) → key_in state s.session (length out.now) s.rate ≡ None
      by_state Idle h = refl
      by_state Dialling h = absurd (h refl)
      by_state Answering h = refl
      by_state Connected h = refl

  pub last-lit : (b : ℕ) → length out.now ≡ suc b → accepted (fill_cause s (length out.now)) ≡ true → s.session.state ≡ Dialling
      → key_filled answer ≡ key_of (after b s.session.stage (digits_held s.session) s.rate) (digits_held s.session)
  unfolding key_after
  last-lit b some taken dialled = rw (key-is, taken, dialled, some)
