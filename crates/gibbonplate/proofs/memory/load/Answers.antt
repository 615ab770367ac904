-- `memory::load` meets its contract: by whether memory holds a set. Assumes nothing.
use Rattle.gibbonplate.specs.Memory.{loaded}
use Rattle.gibbonplate.proofs.Bits.{too_many}
use Rattle.gibbonplate.proofs.Reload.{no-set}
use Rattle.gibbonplate.proofs.memory.load.Goals as goal

pub returns-then-holds_set : goal.returns-then-holds_set
unfolding loaded
returns-then-holds_set c = let t = c.if-holds_set.true in record { value = rw (← c.holds_set.ensures, t) c.set.ensures; unsound_with_no_set = λ h. cc; unsound_with_too_many_bits = λ h. rw c.set.ensures (too_many _ h) }

pub returns : goal.returns
unfolding loaded
returns c = let t = c.if-holds_set.false in record { value = rw (← c.holds_set.ensures, t) c.fresh.ensures; unsound_with_no_set = λ h. rw c.fresh.ensures no-set; unsound_with_too_many_bits = λ h. rw c.fresh.ensures no-set }
