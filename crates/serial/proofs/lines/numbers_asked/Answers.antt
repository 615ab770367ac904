-- `lines::numbers_asked` meets its contract: by how many numbers there are. Assumes nothing.
use native.Mathlib.Omega.{arith}
use Rattle.serial.proofs.Asked.{by-one, by-two, by-three, by-four, by-others}
use Rattle.serial.proofs.lines.numbers_asked.Goals as goal

pub returns-in-len1 : goal.returns-in-len1
returns-in-len1 c = by-one _ c.args.numbers.now _ c.in-len1.len_at_least c.in-len1.len_below c.one.ensures

pub returns-in-len2 : goal.returns-in-len2
returns-in-len2 c = by-two _ c.args.numbers.now _ _ c.in-len2.len_at_least c.in-len2.len_below c.two.ensures

pub returns-in-len3 : goal.returns-in-len3
returns-in-len3 c = by-three _ c.args.numbers.now _ _ _ c.in-len3.len_at_least c.in-len3.len_below c.write.ensures

pub returns-in-len4 : goal.returns-in-len4
returns-in-len4 c = by-four _ c.args.numbers.now _ _ _ _ c.in-len4.len_at_least c.in-len4.len_below c.write-in-len4.ensures

pub returns-in_default : goal.returns-in_default
returns-in_default c = by-others _ c.args.numbers.now (λ e. omega arith) (λ e. omega arith) (λ e. omega arith) (λ e. omega arith)

pub returns-in_default-2 : goal.returns-in_default-2
returns-in_default-2 c = by-others _ c.args.numbers.now (λ e. omega arith) (λ e. omega arith) (λ e. omega arith) (λ e. omega arith)
