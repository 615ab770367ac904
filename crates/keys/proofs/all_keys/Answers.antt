-- `all_keys` meets its contract: the bytes passed are all keys or not, as `all` says; `all_more` takes the step. Assumes nothing.
use mathlib.Core.Path.{refl}
use Rattle.keys.specs.Keys.{all_keys}
use Rattle.keys.proofs.Line.{all_more}
use Rattle.keys.proofs.all_keys.Goals as goal

pub loop-b-init : goal.loop-b-init
unfolding all_keys
loop-b-init c = refl

pub loop-b-preserved : goal.loop-b-preserved
loop-b-preserved c = rw (c.loop-b.invariant, c.is_key-all.ensures) (all_more _ _ c.loop-b-test.true)
