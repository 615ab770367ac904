-- `shown::fill` meets its contract: the buffer is as long as it was, and its fill is shown. Assumes nothing.
use Prim.Native.Nat.{ℕ}
use mathlib.Core.Path.{ap, ◌∙◌}
use lib.ListN.{length}
use Rattle.std.specs.Prelude.{Result}
use Rattle.refusal.specs.declared.Refusal.{Refusal}
use Rattle.set.specs.declared.Filled.{Filled}
use Rattle.set.specs.Set.{fill}
use Rattle.panel.specs.Wall.{filled_shown}
use Rattle.panel.proofs.shown.fill.Goals as goal

pub returns-in-Ok : goal.returns-in-Ok
returns-in-Ok c = c.show.ensures
    ∙ ap (λ (a : Result Filled Refusal). filled_shown c.args.set (length c.fill.new.self) a) c.in-Ok.ensures.value
    ∙ ap (λ (k : ℕ). filled_shown c.args.set k (fill c.args.set k)) c.fill.auto.self

pub returns-in-Err : goal.returns-in-Err
returns-in-Err c = c.declined.ensures
    ∙ ap (λ (a : Result Filled Refusal). filled_shown c.args.set (length c.fill.new.self) a) c.in-Err.ensures.value
    ∙ ap (λ (k : ℕ). filled_shown c.args.set k (fill c.args.set k)) c.fill.auto.self
