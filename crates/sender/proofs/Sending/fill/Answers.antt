-- `Sending::fill` meets its contract: the invariant is `Filling`; what is left of the part lent for a bit comes back by `fill-again`. Assumes nothing.
use Rattle.sender.proofs.Playing.{fill_start, fill-again}
use Rattle.sender.proofs.Sending.fill.Goals as goal

pub loop-at-init : goal.loop-at-init
loop-at-init c = fill_start _ _

pub loop-at-preserved : goal.loop-at-preserved
loop-at-preserved c = fill-again _ _ _ _ _ c.loop-at.invariant _ _ _ _ c.loop-at-test.true c.readied-x.ensures c.play-at.ensures
