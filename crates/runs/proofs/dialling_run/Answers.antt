-- `dialling_run` meets its contract off the edges, by `one-tone` and `one-gap`. Assumes nothing.
use native.Mathlib.Nat.{lt_of_lt_of_le}
use native.Mathlib.Omega.{arith}
use Rattle.runs.proofs.Runs.{one-tone, one-gap}
use Rattle.runs.proofs.dialling_run.Goals as goal

pub returns-then-tone : goal.returns-then-tone
returns-then-tone c = rw c.if-tone.true
    (one-tone _ _ _ _ _ c.in-Some.ensures.1 c.if-digit-gt75.false (omega (arith, c.min.ensures))
    (λ j l. rw (← c.in-Some.ensures.0) (c.run_between.ensures j (lt_of_lt_of_le l (omega (arith, c.min.ensures))))))

pub returns-in-Some : goal.returns-in-Some
returns-in-Some c = rw c.if-tone.false
    (one-gap _ _ _ _ _ c.in-Some.ensures.1 c.if-digit-gt75.false (omega (arith, c.min-in-Some.ensures))
    (λ j l. rw (← c.in-Some.ensures.0) (c.run_between-in-Some.ensures j (lt_of_lt_of_le l (omega (arith, c.min-in-Some.ensures))))))
