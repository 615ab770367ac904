-- `Session::dial` meets its contract: the digits are the line's, and the overture for them has the length T. Assumes nothing.
use Rattle.schedule.proofs.Total.{total-bounds}
use Rattle.session.proofs.Dialled.{few, lasts}
use Rattle.session.proofs.Session.dial.Goals as goal

pub returns-clause-has_length : goal.returns-clause-has_length
returns-clause-has_length c = λ lo hi. rw c.dialled-digits.ensures (lasts _ _ lo hi)

pub returns-clause-total_bounds : goal.returns-clause-total_bounds
returns-clause-total_bounds c = λ lo hi. rw c.dialled-digits.ensures (total-bounds _ lo hi _ (few c.args.line.now))
