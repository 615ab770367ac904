-- `tone::phase` meets its contract: so many steps, wrapped once, are as many that wrap each by itself. Assumes nothing.
use Rattle.std.proofs.Common.{sym}
use Rattle.handset.proofs.Heard.{phase-is}
use Rattle.handset.proofs.tone.phase.Goals as goal

pub returns : goal.returns
returns c = sym (phase-is _ _)
