-- `Set::take_bytes` meets its contract: the invariant is `Typing`; the part of the outbox that a byte was lent comes back by `typing-again`. Assumes
-- nothing.
use native.Mathlib.Omega.{arith}
use Rattle.set.proofs.String.{typing-start, typing-again, typing-end}
use Rattle.set.proofs.Set.take_bytes.Goals as goal

pub loop-i-init : goal.loop-i-init
loop-i-init c = typing-start _ _ _ _ _ c.requires.is_sound

pub overflow_add-at : goal.overflow_add-at
overflow_add-at c = omega (arith, (typing-again _ _ _ _ _ _ _ _ _ _ c.loop-i.invariant c.loop-i-test.true c.requires.outbox_room c.requires.codes_room _ _ _ _ _ c.take_byte-t.ensures.value c.take_byte-t.ensures.out_after c.first.ensures c.second.ensures c.s12.ensures).few, c.loop-i-test.true, c.requires.few)

pub loop-i-preserved : goal.loop-i-preserved
loop-i-preserved c = typing-again _ _ _ _ _ _ _ _ _ _ c.loop-i.invariant c.loop-i-test.true c.requires.outbox_room c.requires.codes_room _ _ _ _ _ c.take_byte-t.ensures.value c.take_byte-t.ensures.out_after c.first.ensures c.second.ensures c.s12.ensures

pub returns : goal.returns
returns c = let e = typing-end _ _ _ _ _ _ _ _ _ _ c.loop-i.invariant c.loop-i-test.false in record { set_value = e.set; sent_value = e.count; out_after = e.wrote; codes_after = e.coded }
