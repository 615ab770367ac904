-- `narrow_bits` meets its contract: in the normal range the one sum is the pattern. Assumes nothing.
use Rattle.math.proofs.Narrowing.{narrow_bits-normal}
use Rattle.math.proofs.narrow_bits.Goals as goal

pub returns-then-m-ge4039728865751334912 : goal.returns-then-m-ge4039728865751334912
returns-then-m-ge4039728865751334912 c = narrow_bits-normal c.args.m c.if-m-ge4039728865751334912.true
