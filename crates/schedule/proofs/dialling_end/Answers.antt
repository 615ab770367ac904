-- `schedule::dialling_end` meets its contract: the digit at the place, as `dialling_phase` ensures it, decides between the place and the sample after it. Assumes nothing.
use Rattle.std.proofs.Common.{sym, arith}
use Rattle.schedule.proofs.Lengths.{dialling-none, dialling-there, dialling-after}
use Rattle.schedule.proofs.dialling_end.Goals as goal

pub returns-then-digits-eq0 : goal.returns-then-digits-eq0
returns-then-digits-eq0 c = rw c.if-digits-eq0.true (sym (dialling-none _))

pub returns-then-phase-digits : goal.returns-then-phase-digits
returns-then-phase-digits c =
    sym (dialling-after _ c.args.rate.slow c.args.rate.fast _ c.requires (omega (arith, c.if-digits-eq0.false)) _ (omega arith) (omega arith) (rw (c.dialling_phase-phase.ensures.0, c.seconds.ensures) at c.if-phase-digits.true))

pub returns-else-phase-digits : goal.returns-else-phase-digits
returns-else-phase-digits c =
    sym (dialling-there _ c.args.rate.slow c.args.rate.fast _ c.requires (omega (arith, c.if-digits-eq0.false)) _ (omega arith) (omega arith) (rw (c.dialling_phase-phase.ensures.0, c.seconds.ensures) at c.if-phase-digits.false))
