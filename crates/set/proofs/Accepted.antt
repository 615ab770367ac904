-- A call whose answer is `Ok` was not declined. Assumes nothing.
use mathlib.Core.Path.{◌≡◌, refl}
use mathlib.Core.Bool.{true}
use Rattle.std.specs.Prelude.{Ok, Err, IsOk}
use Rattle.set.specs.Refusals.{Checked, accepted, answered}

pub taken : {X : Type 0} (cause : Checked) (answer : X) → IsOk (answered cause answer) → accepted cause ≡ true
unfolding accepted
taken (Ok done) answer h = refl
taken (Err cause) answer h = absurd (cc)
