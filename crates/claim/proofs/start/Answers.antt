-- `claim::start` meets its contract: the set that creation hands out, of which the claim and the law of lists without an S12 line hold at every rate.
-- Assumes nothing.
use Rattle.claim.proofs.Strings.{claim}
use Rattle.claim.proofs.Before.{unset}
use Rattle.claim.proofs.start.Goals as goal

pub returns : goal.returns
returns c = let rate = c.args.rate in
    record { value = c.new.ensures; claim = rw c.new.ensures (claim rate); unset = rw c.new.ensures (unset rate) }
