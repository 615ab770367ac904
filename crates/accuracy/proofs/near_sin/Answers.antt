-- `near_sin` meets its contract: it is S, and the law on S holds of every value that an `f64` can have. Assumes nothing.
use Rattle.std.proofs.lemmas.Float.{T_from_true}
use Rattle.accuracy.proofs.Accuracy.{sine-near}
use Rattle.accuracy.proofs.near_sin.Goals as goal

pub returns : goal.returns
returns c = record { value = c.sin.ensures; near_sine = λ p q. rw c.sin.ensures (sine-near c.args.y (T_from_true _ c.well_formed.0.1) p q) }
