-- `sound_state` meets its contract: the state is asked only within the limits of rate and digits. Assumes nothing.
use Prim.Native.Nat.{ℕ, ◌≤◌}
use mathlib.Core.Path.{◌≡◌, sym, ap, subst, ◌∙◌}
use mathlib.Core.Bool.{true, false}
use mathlib.Core.List.{List}
use lib.ListN.{length}
use borrow.Author.Tests.{le-leb}
use Rattle.schedule.specs.Rate.{is_rate}
use Rattle.stage.specs.declared.StageState.{StageState}
use Rattle.soundness.specs.Sound.{rate_ok, digits_ok, state_ok, sound_state}
use Rattle.soundness.proofs.Limits.{digits-few}
use Rattle.soundness.proofs.sound_state.Goals as goal

within : (s : StageState) (digits : List ℕ) (r : ℕ) → 8000 ≤ r → r ≤ 192000 → digits_ok digits ≡ true → sound_state s digits r ≡ state_ok s (length digits) r
unfolding sound_state rate_ok
within s digits r slow fast few = rw (le-leb 8000 r slow, le-leb r 192000 fast, few)

outside : (s : StageState) (digits : List ℕ) (r : ℕ) → is_rate r ≡ false → sound_state s digits r ≡ false
unfolding sound_state rate_ok
outside s digits r e = rw e

pub invariant_of-call : goal.invariant_of-call
invariant_of-call c = record { few = digits-few _ (sym c.digits_ok.ensures ∙ c.if-digits_ok.true) }

pub returns-in-Some : goal.returns-in-Some
returns-in-Some c =
    let given : c.in-Some.rate.hertz ≡ c.args.rate = rw c.in-Some.is at c.new.ensures in
    c.state_ok.ensures ∙ ap (λ (r : ℕ). state_ok c.args.state (length c.args.digits.now) r) given
    ∙ sym (within _ _ _ (subst (λ (r : ℕ). 8000 ≤ r) given c.in-Some.rate.slow) (subst (λ (r : ℕ). r ≤ 192000) given c.in-Some.rate.fast) (sym c.digits_ok.ensures ∙ c.if-digits_ok.true))

pub returns-in_default-2 : goal.returns-in_default-2
returns-in_default-2 c = let none : is_rate c.args.rate ≡ false = rw c.in_default.is at c.new.ensures in sym (outside _ _ _ none)
