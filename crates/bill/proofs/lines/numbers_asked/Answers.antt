-- `lines::numbers_asked` meets its contract: by how many numbers there are. Assumes nothing.
use native.Mathlib.Omega.{arith}
use Rattle.bill.proofs.Asked.{by-one, by-two, by-others}
use Rattle.bill.proofs.lines.numbers_asked.Goals as goal

pub returns-in-len1 : goal.returns-in-len1
returns-in-len1 c = by-one c.args.numbers.now _ c.in-len1.len_at_least c.in-len1.len_below c.held.ensures

pub returns-in-len2 : goal.returns-in-len2
returns-in-len2 c = by-two c.args.numbers.now _ _ c.in-len2.len_at_least c.in-len2.len_below c.held-in-len2.ensures c.held-in-len2-2.ensures

pub returns-in_default : goal.returns-in_default
returns-in_default c = by-others c.args.numbers.now (λ e. omega arith) (λ e. omega arith)

pub returns-in_default-2 : goal.returns-in_default-2
returns-in_default-2 c = by-others c.args.numbers.now (λ e. omega arith) (λ e. omega arith)
