-- `read_fresh` meets its contract: `read` gives the samples that follow the fresh state, and the law on an overture holds of so many. Assumes nothing.
use lib.ListN.{length}
use Rattle.accuracy.proofs.Overture.{overture-level}
use Rattle.accuracy.proofs.read_fresh.Goals as goal

pub returns : goal.returns
returns c = let start = c.args in
    let level = overture-level start.digits.now start.rate in
    record { out_after = rw (c.read.ensures.out_after, c.enter_state-state.ensures); state_value = rw (c.read.ensures.state_value, c.enter_state-state.ensures); shown_value = rw (c.read.ensures.shown_value, c.enter_state-state.ensures); all_in_level = rw (c.read.ensures.out_after, c.enter_state-state.ensures) (level (length start.out.now)); by_index = level }
