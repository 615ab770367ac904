-- `Set::process_out` meets its contract: by its cause, and by what the sender ensures where the line is up, else the session. Assumes nothing.
use mathlib.Core.Path.{sym, ◌∙◌}
use Rattle.set.specs.Refusals.{accepted}
use Rattle.set.specs.Set.{fill, buffer}
use Rattle.set.proofs.Up.{still, dark}
use Rattle.set.proofs.Set.process_out.Goals as goal

pub returns-then-is_up : goal.returns-then-is_up
unfolding fill buffer accepted
returns-then-is_up c = let up = sym c.is_up.ensures ∙ c.if-is_up.true in
    let s = c.args.self in
    let taken = c.in_ok-fill_cause.ensures in
    record { value = rw (← taken, still s.session _ s.rate up, dark s.session _ s.rate up, up, c.fill-played.ensures.value); out_after = rw (← taken, up) c.fill-played.ensures.out_after }

pub returns : goal.returns
unfolding fill buffer accepted
returns c = let down = sym c.is_up.ensures ∙ c.if-is_up.false in
    let taken = c.in_ok-fill_cause.ensures in
    record { value = rw (← taken, down, c.raised_if-raised.ensures, c.is_up-2.ensures, c.process_out-filled.ensures.session_value, c.process_out-filled.ensures.key_value); out_after = rw (← taken, down) c.process_out-filled.ensures.out_after }
