-- `all_keys` meets its contract: the bytes passed are all keys or not, as `all` says. Assumes nothing.
use mathlib.Core.Path.{◌≡◌}
use lib.ListN.{take}
use Rattle.keys.specs.Keys.{all_keys}
use Rattle.keys.proofs.all_keys.Given as goal

abbrev pub invariant-loop-b : goal.invariant-loop-b
invariant-loop-b l = l.all ≡ all_keys (take l.b-index l.digits)
