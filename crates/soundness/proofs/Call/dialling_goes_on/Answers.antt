-- `Call::dialling_goes_on` meets its contract: the digit at n tells. Assumes nothing.
use native.Mathlib.Omega.{arith}
use Prim.Native.Nat.{◌^◌, ◌≤◌}
use Rattle.soundness.proofs.Dialling.{goes_on}
use Rattle.soundness.proofs.Call.dialling_goes_on.Goals as goal

pub returns : goal.returns
returns c = let call = c.args.self in let most : c.args.n ≤ 2 ^ 32 = omega arith in
    rw (c.dialling_phase-phase.ensures.0, c.seconds.ensures) (goes_on call.rate.hertz call.rate.slow call.rate.fast call.digits c.args.n call.few most)
