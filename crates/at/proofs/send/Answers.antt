-- `at::send` meets its contract: the pluses at the front, and the byte after them. Assumes nothing.
use mathlib.Core.Path.{◌≡◌}
use lib.ListN.{replicate}
use borrow.Author.Rules.{rules}
use Rattle.at.proofs.Outbox.{closed}
use Rattle.at.proofs.send.Goals as goal

pub returns : goal.returns
returns c =
    let filled : c.fill.new.self ≡ replicate c.args.pluses 43 = rw (c.fill.ensures.after (λ y e. search rules)) (search rules) in
    rw filled (closed _ _ _ c.requires)
