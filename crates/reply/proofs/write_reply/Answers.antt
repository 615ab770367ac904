-- `reply::write_reply` meets its contract: another number has no text. Assumes nothing.
use Rattle.std.proofs.lemmas.Grind.{common_steps}
use Rattle.std.proofs.Common.{arith}
use Rattle.ascii.specs.Front.{put, put_length}
use Rattle.reply.proofs.Other.{other}
use Rattle.reply.proofs.write_reply.Goals as goal

pub returns-in-Err : goal.returns-in-Err
unfolding put put_length
returns-in-Err c = rw (other c.args.code c.args.s12 c.in-Err.ensures) (grind (arith, common_steps))
