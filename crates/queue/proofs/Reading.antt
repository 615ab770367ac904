-- The queue's promises read off its functions, each at its full strength, so that one that says less is refused here. Assumes nothing.
use Prim.Native.Nat.{ℕ, ◌≤◌}
use mathlib.Core.Path.{◌≡◌}
use mathlib.Core.Bool.{Bool}
use mathlib.Core.List.{◌++◌}
use lib.ListN.{drop}
use Rattle.queue.specs.declared.Queue.{Queue}
use contract.Lifetimes.{Lfts}
use denote.Bor.{Bor}
use denote.Ref.{MutBor, at_last}
use Rattle.std.specs.Prelude.{Option, Result}
use Rattle.refusal.specs.declared.Refusal.{Refusal}
use Rattle.queue.specs.Queue.{waiting, empty_queue, is_full, is_empty, pushed, push_answer, taken_if, first_out, popped, queue_ok}
use Rattle.queue.proofs.Queue.new.Reads as new
use Rattle.queue.proofs.Queue.push.Reads as push
use Rattle.queue.proofs.Queue.is_full.Reads as is-full
use Rattle.queue.proofs.Queue.is_empty.Reads as is-empty
use Rattle.queue.proofs.Queue.oldest.Reads as oldest-byte
use Rattle.queue.proofs.Queue.pop.Reads as pop
use Rattle.queue.proofs.Queue.ok.Reads as ok

pub new-is-empty : (q : Queue) → new.Learnt tt tt q tt → q ≡ empty_queue
new-is-empty q d = d

-- a queue that is lent to change, what it is afterwards, and what the call answers
module _ (κs : Lfts 1) (q : MutBor Queue) (left : Queue) where
  module _ (byte : ℕ) (r : Result Unit Refusal) (d : push.Learnt κs (q, (byte, tt)) r (at_last q left, (byte, tt))) where
    pub pushes : left ≡ pushed q.now byte
    pushes = d.0

    pub says-if-full : r ≡ push_answer (is_full q.now)
    says-if-full = d.1.0

    pub adds-the-newest : waiting left ≡ waiting q.now ++ taken_if (is_full q.now) byte
    adds-the-newest = d.1.1

  module _ (byte : Option ℕ) (d : pop.Learnt κs (q, tt) byte (at_last q left, tt)) where
    pub pops : left ≡ popped q.now
    pops = d.0

    pub gives-the-oldest : byte ≡ first_out q.now
    gives-the-oldest = d.1.0

    pub leaves-the-others : q.now.len ≤ 256 → waiting left ≡ drop 1 (waiting q.now)
    leaves-the-others = d.1.1

module _ (κs : Lfts 1) (q : Bor Queue) where
  pub reads-full : (r : Bool) → is-full.Learnt κs (q, tt) r (q, tt) → r ≡ is_full q.now
  reads-full r d = d

  pub reads-empty : (r : Bool) → is-empty.Learnt κs (q, tt) r (q, tt) → r ≡ is_empty q.now
  reads-empty r d = d

  pub reads-oldest : (byte : Option ℕ) → oldest-byte.Learnt κs (q, tt) byte (q, tt) → byte ≡ first_out q.now
  reads-oldest byte d = d

  pub reads_ok : (r : Bool) → ok.Learnt κs (q, tt) r (q, tt) → r ≡ queue_ok q.now
  reads_ok r d = d
