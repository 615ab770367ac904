-- `write_run` meets its contract, by what sounds. Assumes nothing.
use Rattle.std.proofs.Common.{◌≡◌, length, pos, replicate, sym, ◌∙◌, rules}
use Rattle.handset.proofs.Heard.{silence, zeros}
use Rattle.handset.proofs.write_run.Goals as goal

pub returns-in-None : goal.returns-in-None
returns-in-None c =
    let e : c.fill.new.self ≡ replicate (length c.args.out.now) (pos 0) = search rules in
    e ∙ sym (rw c.in-None.is (silence _ _ _ ∙ zeros _))
