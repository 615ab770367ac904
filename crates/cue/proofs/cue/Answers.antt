-- `cue::cue` meets its contract: by its cause. Assumes nothing.
use mathlib.Core.Path.{◌≡◌, sym, ap}
use lib.ListN.{length}
use Rattle.refusal.specs.Refusal.{answer_number}
use Rattle.cue.specs.Cue.{cue_cause, cued}
use Rattle.cue.proofs.Cueing.{in-limits, first-of-digit, first-of-digit-is}
use borrow.Author.Rules.{rules}
use Rattle.cue.proofs.cue.Goals as goal

pub cue_sample-sample-requires : goal.cue_sample-sample-requires
cue_sample-sample-requires c = (in-limits c.args.set c.args.position (sym (ap answer_number c.in_ok-cue_cause.ensures))).0

pub invariant_of-rate : goal.invariant_of-rate
invariant_of-rate c = let r = in-limits c.args.set c.args.position (sym (ap answer_number c.in_ok-cue_cause.ensures)) in record { slow = r.1; fast = r.2 }

pub returns : goal.returns
unfolding cued
returns c = let a = c.args in
    let taken = c.in_ok-cue_cause.ensures in
    let zero : answer_number (cue_cause a.set a.position) ≡ 0 = sym (ap answer_number taken) in
    let keys : length a.set.session.digits.keys ≡ 76 = search rules in record { value = rw (← taken, c.cue_sample-sample.ensures, c.cue_key-key.ensures, first-of-digit-is a.set a.position zero keys); first_in_tone = rw c.cue_sample-sample.ensures (first-of-digit a.set a.position zero keys) }
