-- 01, "Stages", 5, 7, 8 and 9: the symbol clock n samples into a stage of bits, its phase and the bits done.
use Rattle.std.specs.Prelude.{ℕ}
use Rattle.schedule.specs.Symbols.{symbol_step, phase_after, done_after}
use Rattle.plan.specs.declared.Clock.{Clock}

abbrev pub clock_after : ℕ → ℕ → Clock
clock_after r n = record { n = n; phase = phase_after (symbol_step r) n; done = done_after (symbol_step r) n }
