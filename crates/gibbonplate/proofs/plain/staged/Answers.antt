-- `plain::staged` meets its contract: by the number. Assumes nothing.
use mathlib.Core.Path.{sym}
use native.Mathlib.Omega.{arith}
use Rattle.gibbonplate.specs.Memory.{staged}
use Rattle.gibbonplate.proofs.Numbers.{other-stage}
use Rattle.gibbonplate.proofs.plain.staged.Goals as goal

pub returns-in-1 : goal.returns-in-1
unfolding staged
returns-in-1 c = rw c.in-1.is

pub returns-in-2 : goal.returns-in-2
unfolding staged
returns-in-2 c = rw c.in-2.is

pub returns-in-3 : goal.returns-in-3
unfolding staged
returns-in-3 c = rw c.in-3.is

pub returns-in-4 : goal.returns-in-4
unfolding staged
returns-in-4 c = rw c.in-4.is

pub returns-in-5 : goal.returns-in-5
unfolding staged
returns-in-5 c = rw (c.in-5.is, c.bits-fsk.ensures)

pub returns-in-6 : goal.returns-in-6
unfolding staged
returns-in-6 c = rw c.in-6.is

pub returns-in-7 : goal.returns-in-7
unfolding staged
returns-in-7 c = rw (c.in-7.is, c.bits-fsk.ensures)

pub returns-in-8 : goal.returns-in-8
unfolding staged
returns-in-8 c = rw (c.in-8.is, c.bits-fsk.ensures)

pub returns-in-9 : goal.returns-in-9
unfolding staged
returns-in-9 c = rw (c.in-9.is, c.bits-fsk.ensures)

pub returns-in_default : goal.returns-in_default
unfolding staged
returns-in_default c = sym (other-stage c.args.p _ (λ e. omega arith) (λ e. omega arith) (λ e. omega arith) (λ e. omega arith) (λ e. omega arith) (λ e. omega arith) (λ e. omega arith) (λ e. omega arith) (λ e. omega arith))
