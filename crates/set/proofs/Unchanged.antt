-- Demand 1: a declined call changes nothing. Laws for all that goes by whether a call is accepted. Assumes nothing.
use Rattle.std.specs.Prelude.{Result, Ok, Err}
use mathlib.Core.Bool.{true, true≢false}
use mathlib.Core.Path.{◌≡◌, refl, sym}
use Rattle.set.specs.Refusals.{Checked, Declined, accepted, if_accepted, answered, checked, told}

pub unchanged : {X : Type 0} (cause : Checked) → Declined cause → (next was : X) → if_accepted cause next was ≡ was
unfolding accepted
unchanged (Ok done) declined next was = absurd (declined refl)
unchanged (Err cause) declined next was = refl

-- an answer tells its cause, and of a declined call nothing
pub checked-is : {X : Type 0} (cause : Checked) (answer : X) → checked (answered cause answer) ≡ cause
checked-is (Ok done) answer = refl
checked-is (Err cause) answer = refl

pub untold : {X Y : Type 0} (cause : Checked) → Declined cause → (tells : X → Y) (none : Y) (answer : X) → told tells none (answered cause answer) ≡ none
untold (Ok done) declined tells none answer = absurd (declined refl)
untold (Err cause) declined tells none answer = refl

-- what is told goes by whether the call is accepted
pub told-if : {X Y : Type 0} (cause : Checked) (tells : X → Y) (none : Y) (answer : X) → told tells none (answered cause answer) ≡ if_accepted cause (tells answer) none
unfolding accepted
told-if (Ok done) tells none answer = refl
told-if (Err cause) tells none answer = refl

pub taken-answer : {X : Type 0} (cause : Checked) (answer : X) → accepted cause ≡ true → answered cause answer ≡ Ok answer
unfolding accepted
taken-answer (Ok done) answer taken = refl
taken-answer (Err cause) answer taken = absurd (true≢false (sym taken))
