-- `process_out` meets its contract: it is the set's own fill, and the law on a fill holds of every set that there is, since the click's generator is
-- a number of 64 bits in each. Assumes nothing.
use mathlib.Core.List.{List}
use mir.Val.{Val}
use denote.Shadow.{shadow}
use Rattle.stage.specs.declared.StageState.{StageState}
use Rattle.stage.specs.declared.StageState.TheVariants.{OffHook, DialTone, Dialling, Ringback, Ci, Ansam, CmJm, Cj, Training, Connected}
use Rattle.stage.specs.contracts.StageState as state
use Rattle.accuracy.proofs.Overture.{InWord}
use Rattle.accuracy.proofs.Fill.{fill-taken, fill-level, up-level}
use Rattle.accuracy.proofs.process_out.Goals as goal
use Rattle.accuracy.proofs.process_out.Goals.{Start}

-- what owning a stage's state tells
in-word : (s : StageState) (v : List Val) → shadow ((state.the_field).row.own_val ((state.the_type).to s) v) → InWord s
in-word (OffHook rng n) v h = h.1.1.1.1.0.1
in-word (DialTone a b n) v h = tt
in-word (Dialling i on a b n) v h = tt
in-word (Ringback a b n ring) v h = tt
in-word (Ci f) v h = tt
in-word (Ansam c e n) v h = tt
in-word (CmJm f) v h = tt
in-word (Cj f z) v h = tt
in-word (Training f) v h = tt
in-word Connected v h = tt

-- of the set's fields the third is its session, and of that one's the fifth its stage's state
held : (c : Start) → InWord c.args.set.session.stage
held c = in-word c.args.set.session.stage _ c.well_formed.0.1.1.1.1.0.1.1.1.1.1.1.0

pub returns : goal.returns
returns c = let answer = c.process_out.ensures.value in
    let left = c.process_out.ensures.out_after in
    let s = c.args.set in
    let was = c.args.out.now in
    record {
      value = answer;
      out_after = left;
      dialling_in_level = λ dialling taken. rw left (fill-level s was (fill-taken s _ (rw answer at taken)) (held (goal.at.returns c).Start) dialling);
      connected_in_level = λ up taken. rw left (up-level s was (fill-taken s _ (rw answer at taken)) up);
    }
