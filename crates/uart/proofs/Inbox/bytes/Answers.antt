-- `Inbox::bytes` meets its contract. The invariant: what has come, with the rest still to come, is what comes in all. Assumes nothing.
use mathlib.Core.Path.{sym, ◌∙◌}
use Rattle.uart.proofs.Text.{next-byte, no_more}
use Rattle.uart.proofs.Inbox.bytes.Goals as goal

pub loop-byte-preserved : goal.loop-byte-preserved
loop-byte-preserved c = next-byte _ _ _ _ c.loop-byte-test.true c.byte.ensures ∙ c.loop-byte.invariant

pub returns : goal.returns
returns c = sym (no_more _ _ _ c.loop-byte-test.false) ∙ c.loop-byte.invariant
