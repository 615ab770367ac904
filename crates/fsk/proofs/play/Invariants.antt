-- `play` meets its contract: the invariant is `Sounding`; a turn takes two of its steps. Assumes nothing.
use Prim.Native.Nat.{◌-◌, ◌≤◌}
use lib.ListN.{length}
use Rattle.fsk.specs.Played.{keying}
use Rattle.fsk.proofs.Played.{Sounding}
use Rattle.fsk.proofs.play.Given as goal

abbrev pub invariant-loop-out : goal.invariant-loop-out
invariant-loop-out g l = Sounding (keying g.K.Keyed.modulator_of g.K.Keyed.next_of) g.K.Keyed.ends l.initial.now l.initial.out l.out l.now l.written × (l.written ≤ length l.out)

abbrev pub decreases-loop-out : goal.decreases-loop-out
decreases-loop-out g l = length l.initial.out - l.written
