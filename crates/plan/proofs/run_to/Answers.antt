-- `plan::run_to` meets its contract: up to the clock's sample fewer bits are done, and where it stops they all are. Assumes nothing.
use Rattle.std.proofs.Common.{ℕ, ◌+◌, ◌<◌, ◌≤◌, Bool, true, false, ap, subst, ◌∙◌, le_of_lt, le_antisymm, lt_of_lt_of_le, lt_of_le_of_lt, le_trans, le_of_eq, zero-le, lit≤, arith}
use Rattle.std.specs.Int.{from_bool}
use Rattle.schedule.specs.Symbols.{symbol_step, done_after}
use Rattle.plan.specs.declared.Clock.{Clock}
use Rattle.plan.specs.Clock.{clock_after}
use Rattle.plan.proofs.Bits.{clock-then, fewer-then, early, all_done}
use Rattle.plan.proofs.run_to.Goals as goal
use Rattle.plan.proofs.run_to.Goals.{In-loop-clock}

-- the bits done, in the loop
here : (c : In-loop-clock) → done_after (symbol_step c.args.rate.hertz) c.loop-clock.clock.n < c.args.bits
here c = subst (λ (k : ℕ). k < c.args.bits) (ap (λ (k : Clock). k.done) c.loop-clock.invariant.0) c.loop-clock-test.true

short : (c : In-loop-clock) → c.loop-clock.clock.n ≤ 192000
short c = early _ c.args.rate.slow c.args.rate.fast _ (lt_of_lt_of_le (here c) c.requires.0)

one_bit : (b : Bool) → from_bool b ≤ 1
one_bit true = lit≤ tt
one_bit false = lit≤ tt

not_past : (done bit bits : ℕ) → done < bits → bit ≤ 1 → done + bit ≤ bits
not_past done bit bits h k = omega arith

pub loop-clock-init : goal.loop-clock-init
loop-clock-init c = (c.requires.1, le_of_lt c.requires.2, c.requires.3)

pub overflow_add-clock : goal.overflow_add-clock
overflow_add-clock c = omega (arith, short (goal.at.overflow_add-clock c).In-loop-clock)

pub loop-clock-smaller : goal.loop-clock-smaller
loop-clock-smaller c = omega (arith, short (goal.at.loop-clock-smaller c).In-loop-clock)

pub loop-clock-preserved : goal.loop-clock-preserved
loop-clock-preserved c = let i = c.loop-clock.invariant in (
  clock-then _ _ i.0 _ _ (rw c.symbol_step-step.ensures at c.tick-next.ensures.0) (rw c.symbol_step-step.ensures at c.tick-next.ensures.1) _ c.from.ensures,
  not_past _ _ _ c.loop-clock-test.true (le_trans (le_of_eq c.from.ensures) (one_bit c.tick-next.result.done)),
  fewer-then _ _ _ (here (goal.at.loop-clock-preserved c).In-loop-clock) i.2,
)

pub returns : goal.returns
returns c = let i = c.loop-clock.invariant in
    let n = all_done _ c.args.rate.slow c.args.rate.fast _ (lt_of_le_of_lt zero-le c.requires.2) c.requires.0 _ i.2 (subst (λ (k : ℕ). c.args.bits ≤ k) (ap (λ (k : Clock). k.done) i.0) c.loop-clock-test.false) in
    (i.0 ∙ ap (clock_after c.args.rate.hertz) n, le_antisymm i.1 c.loop-clock-test.false)
