-- `AtProcessor::feed_data_byte` meets its contract: what is sent, by the escape's rule and the outbox's room. Assumes nothing.
use native.Mathlib.Omega.{arith}
use mathlib.Core.Path.{sym, ◌∙◌}
use Rattle.at.proofs.Few.{withheld-few}
use Rattle.at.proofs.Outbox.{outbox-withheld, outbox-sent, outbox-short}
use Rattle.at.proofs.AtProcessor.feed_data_byte.Goals as goal

pub overflow_add-waiting : goal.overflow_add-waiting
overflow_add-waiting c = omega (arith, withheld-few _ _ (sym c.continues_run.ensures ∙ c.if-continues_run.true))

pub returns-then-continues_run-clause-out_after : goal.returns-then-continues_run-clause-out_after
returns-then-continues_run-clause-out_after c = sym (outbox-withheld _ _ _ (sym c.continues_run.ensures ∙ c.if-continues_run.true))

pub returns-then-out-held-clause-out_after : goal.returns-then-out-held-clause-out_after
returns-then-out-held-clause-out_after c = sym (outbox-short _ _ _ (sym c.continues_run.ensures ∙ c.if-continues_run.false) (omega arith))

pub returns-clause-out_after : goal.returns-clause-out_after
returns-clause-out_after c = c.send.ensures ∙ rw c.from-held.ensures (sym (outbox-sent _ _ _ (sym c.continues_run.ensures ∙ c.if-continues_run.false) (omega arith)))
