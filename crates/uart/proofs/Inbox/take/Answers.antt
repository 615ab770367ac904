-- `Inbox::take` meets its contract: two lines are one and then the other. Assumes nothing.
use Rattle.uart.specs.Inbox.{text_of_reply}
use Rattle.uart.proofs.Text.{received-append}
use Rattle.uart.proofs.Inbox.take.Goals as goal

pub returns-in-Two : goal.returns-in-Two
unfolding text_of_reply
returns-in-Two c = rw (c.in-Two.is, received-append, ← c.line-in-Two.ensures) c.line-in-Two-2.ensures
