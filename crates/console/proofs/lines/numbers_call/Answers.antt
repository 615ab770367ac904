-- `console::lines::numbers_call` meets its contract: by how many numbers there are. Assumes nothing.
use Rattle.console.proofs.Parsed.{by-none, by-one, by-two, by-three, by-more}
use Rattle.console.proofs.lines.numbers_call.Goals as goal

pub returns-in-empty : goal.returns-in-empty
returns-in-empty c = by-none _ _ c.args.numbers.now c.in-empty.len_below c.bare.ensures

pub returns-in-len1 : goal.returns-in-len1
returns-in-len1 c = by-one _ _ c.args.numbers.now _ c.in-len1.len_at_least c.in-len1.len_below c.one.ensures

pub returns-in-len2 : goal.returns-in-len2
returns-in-len2 c = by-two _ _ c.args.numbers.now _ _ c.in-len2.len_at_least c.in-len2.len_below c.two.ensures

pub returns-in-len3 : goal.returns-in-len3
returns-in-len3 c = by-three _ _ c.args.numbers.now _ _ _ c.in-len3.len_at_least c.in-len3.len_below c.three.ensures

pub returns-in_default : goal.returns-in_default
returns-in_default c = by-more _ _ c.args.numbers.now c.in_default.len_at_least
