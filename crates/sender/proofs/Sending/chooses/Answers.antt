-- `Sending::chooses` meets its contract: where the queue gives no byte it is empty, and stays. Assumes nothing.
use mathlib.Core.Path.{◌≡◌}
use mathlib.Core.Bool.{true}
use Rattle.queue.specs.Queue.{is_empty}
use Rattle.queue.proofs.Waiting.{empty-if-none, still-if-none}
use Rattle.sender.specs.Sender.{chosen, choice_of}
use Rattle.sender.proofs.Sending.chooses.Goals as goal

pub returns-in_default : goal.returns-in_default
unfolding chosen choice_of
returns-in_default c =
    let q = c.args.self.queue in
    let empty : is_empty q ≡ true = empty-if-none q c.in_default.ensures.byte in
    rw (← c.is_unfinished.ensures, c.if-is_unfinished.false, empty, c.pop.ensures.value, ← still-if-none q c.in_default.ensures.byte, c.sends-in_default.ensures)
