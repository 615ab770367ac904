-- `Queue::oldest` meets its contract: the first byte, if one waits. Assumes nothing.
use mathlib.Core.Path.{sym, ap, ◌∙◌}
use native.Mathlib.Omega.{arith}
use borrow.Author.Tests.{eqb-false}
use Rattle.std.specs.Prelude.{Some}
use lib.Seq.{get_or-take}
use Rattle.queue.specs.Queue.{oldest}
use Rattle.queue.proofs.Queue.oldest.Goals as goal

pub returns : goal.returns
unfolding oldest
returns c =
    let q = c.args.self.now in
    let waits = eqb-false q.len 0 (sym c.is_empty.ensures ∙ c.if-is_empty.false) in
    rw (← c.is_empty.ensures, c.if-is_empty.false) (ap Some (sym (get_or-take q.len q.bytes 0 0 (omega (arith, waits)))))
