-- `AtProcessor::feed` meets its contract: in command mode nothing is sent. Assumes nothing.
use mathlib.Core.Path.{sym}
use Rattle.ascii.proofs.Front.{put-none}
use Rattle.at.specs.At.{sent}
use Rattle.at.proofs.AtProcessor.feed.Goals as goal

pub returns-then-self-clause-out_after : goal.returns-then-self-clause-out_after
unfolding sent
returns-then-self-clause-out_after c = rw c.if-self.true (sym (put-none _))
