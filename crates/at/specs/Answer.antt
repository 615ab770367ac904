-- 01, "The AT processor": what a call answers.
use Rattle.std.specs.Prelude.{Option, None}
use Rattle.reply.specs.declared.Reply.{Reply}
use Rattle.reply.specs.declared.Reply.TheVariants as reply
use Rattle.command.specs.declared.Line.{Line}
use Rattle.command.specs.Line.{empty_line}
use Rattle.at.specs.declared.AtProcessor.{AtProcessor}
use Rattle.at.specs.declared.Control.{Control}
use Rattle.at.specs.declared.Outcome.{Outcome}
use Rattle.at.specs.declared.Fed.{Fed}

-- the new processor, the reply, and what the call control has to do
abbrev pub outcome : AtProcessor → Reply → Option Control → Outcome
outcome p told asked = record { processor = p; reply = told; control = asked }

-- a typed byte that has no reply, sends 0 bytes and ends no line
abbrev pub quiet : AtProcessor → Fed
quiet p = record { outcome = outcome p reply.None None; sent = 0; line = empty_line }

-- a typed byte that ended this line
abbrev pub answered : Line → Outcome → Fed
answered line o = record { outcome = o; sent = 0; line = line }
