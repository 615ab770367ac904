-- `place::edges` meets its contract: each count is the call's, and the sums fit by the stages' ranges. Assumes nothing.
use Rattle.std.proofs.Common.{◌+◌, ◌≤◌, length, refl, arith}
use Rattle.math.specs.Float.{one}
use Rattle.schedule.specs.Time.{samples_in}
use Rattle.schedule.specs.Length.{click_time, ringback_time, dialling_length}
use Rattle.schedule.proofs.Lengths.{click-range, dial-tone-range, dialling-range, ringback-range}
use Rattle.plan.proofs.Dialled.{call-few}
use Rattle.plan.specs.declared.call.Call.{Call}
use Rattle.plan.specs.Call.{call_digits}
use Rattle.passage.specs.Lengths.{samples_before}
use Rattle.handset.proofs.place.edges.Goals as goal

small : (call : Call) → samples_in click_time call.rate.hertz + samples_in one call.rate.hertz + dialling_length call.rate.hertz (length (call_digits call)) + samples_in ringback_time call.rate.hertz ≤ 0xffff_ffff
small call = let few = call-few call _ refl in
    omega (arith, (click-range _ call.rate.slow call.rate.fast).1, (dial-tone-range _ call.rate.slow call.rate.fast).1, (dialling-range _ call.rate.slow call.rate.fast _ few).1, (ringback-range _ call.rate.slow call.rate.fast).1)

pub overflow_add-dial : goal.overflow_add-dial
overflow_add-dial c = rw c.before_bits.ensures (omega (arith, small c.args.call.now))

pub overflow_add-ring : goal.overflow_add-ring
overflow_add-ring c = rw c.before_bits.ensures (omega (arith, small c.args.call.now))

pub overflow_add-end : goal.overflow_add-end
overflow_add-end c = rw c.before_bits.ensures (omega (arith, small c.args.call.now))

pub returns : goal.returns
unfolding samples_before
returns c = rw c.before_bits.ensures
