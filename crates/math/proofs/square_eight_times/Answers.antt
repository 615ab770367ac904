-- `square_eight_times` meets its contract: a squaring in front of k more is k + 1 of them. Assumes nothing.
use Rattle.std.proofs.Common.{◌≡◌, ◌-◌, ◌+◌, suc}
use mathlib.Core.Path.{◌∙◌, ap}
use native.Mathlib.Omega.{arith}
use Rattle.math.specs.Decay.{squared}
use Rattle.math.proofs.square_eight_times.Goals as goal

pub loop-preserved : goal.loop-preserved
unfolding squared
loop-preserved c = let left : suc (8 - (c.loop.counter + 1)) ≡ 8 - c.loop.counter = omega arith in ap (λ k. squared k c.loop.p) left ∙ c.loop.invariant

pub returns : goal.returns
unfolding squared
returns c = let none : 0 ≡ 8 - c.loop.counter = omega arith in ap (λ k. squared k c.loop.p) none ∙ c.loop.invariant
