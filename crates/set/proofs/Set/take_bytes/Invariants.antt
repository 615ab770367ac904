-- `Set::take_bytes` meets its contract: the invariant is `Typing`; the part of the outbox that a byte was lent comes back by `typing-again`. Assumes
-- nothing.
use Rattle.set.proofs.String.{Typing}
use Rattle.set.proofs.Set.take_bytes.Given as goal

abbrev pub invariant-loop-i : goal.invariant-loop-i
invariant-loop-i l = Typing l.initial.s l.bytes l.carrier l.initial.out l.initial.codes l.s l.out l.codes l.at l.i
