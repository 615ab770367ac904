-- `unframe` meets its contract: by the start bit and the stop bit; both directions by `both_ways`. Assumes nothing.
use borrow.Author.Rules.{rules}
use mathlib.Core.Path.{◌≡◌}
use lib.ListN.{length}
use Rattle.deframe.specs.Unframe.{unframe_of}
use Rattle.deframe.proofs.Frames.{both_ways, data-shifted-in}
use Rattle.deframe.proofs.unframe.Goals as goal

pub returns-in-false-true : goal.returns-in-false-true
unfolding unframe_of
returns-in-false-true c =
    let ten : length c.args.bits ≡ 10 = search rules in
    let p = both_ways _ ten _ (rw (c.in-false-true.is-0, c.in-false-true.is-1, c.data_byte.ensures, data-shifted-in c.args.bits ten)) in
    record { value = p.0; reads_a_frame = p.1.0; reads_no_other = p.1.1 }

pub returns-in_default : goal.returns-in_default
unfolding unframe_of
returns-in_default c = let p = both_ways _ (search rules) _ (rw c.in_default.is-0) in record { value = p.0; reads_a_frame = p.1.0; reads_no_other = p.1.1 }

pub returns-in_default-2 : goal.returns-in_default-2
unfolding unframe_of
returns-in_default-2 c = let p = both_ways _ (search rules) _ (rw (c.in_default.is-0, c.in_default.is-1)) in record { value = p.0; reads_a_frame = p.1.0; reads_no_other = p.1.1 }
