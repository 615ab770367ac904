-- `enter_state` meets its contract: a literal frequency is the whole number, computed. Assumes nothing.
use Rattle.stage.specs.Enter.{enter_of}
use Rattle.stage.proofs.enter_state.Goals as goal

pub returns-in-DialTone : goal.returns-in-DialTone
unfolding enter_of lib.Ieee.of_bits lib.Ieee.of_int
returns-in-DialTone c = rw (c.in-DialTone.is, c.new-b.ensures, c.new-a.ensures, c.from-r.ensures)

pub returns-in-Ringback : goal.returns-in-Ringback
unfolding enter_of lib.Ieee.of_bits lib.Ieee.of_int
returns-in-Ringback c = rw (c.in-Ringback.is, c.new-b-in-Ringback.ensures, c.new-a-in-Ringback.ensures, c.from-r.ensures)

pub returns-in-Ansam : goal.returns-in-Ansam
unfolding enter_of lib.Ieee.of_bits lib.Ieee.of_int
returns-in-Ansam c = rw (c.in-Ansam.is, c.new-env.ensures, c.new-carrier.ensures, c.from-r.ensures)
