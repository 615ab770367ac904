-- `Queue::pop` meets its contract: the bytes turn by a place. Assumes nothing.
use Prim.Native.Nat.{◌-◌}
use mathlib.Core.Path.{◌≡◌, sym, subst}
use borrow.Author.Rules.{rules}
use lib.ListN.{length, drop, set}
use Rattle.queue.specs.declared.Queue.{Queue}
use Rattle.queue.specs.Queue.{waiting, popped}
use Rattle.queue.proofs.Waiting.{still-if-none, some-if-given, turned-popped, popped-waiting}
use Rattle.queue.proofs.Queue.pop.Goals as goal

pub returns-in_err-byte-clause-value : goal.returns-in_err-byte-clause-value
returns-in_err-byte-clause-value c = still-if-none _ c.in_err-byte.ensures

pub returns : goal.returns
returns c =
    let q = c.args.self.now in
    let places : length q.bytes ≡ 256 = search rules in
    let given = c.in_ok-byte.ensures in
    let next : Queue = record { bytes = set c.rotate_left.new.self 255 0; len = q.len - 1 } in
    let is : next ≡ popped q = rw c.rotate_left.ensures.after (turned-popped q places (some-if-given q _ given)) in
    record { value = is; byte = given; result_value = λ few. subst (λ (x : Queue). waiting x ≡ drop 1 (waiting q)) (sym is) (popped-waiting q (record { places = places; few = few })) }
