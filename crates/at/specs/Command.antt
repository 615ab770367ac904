-- 01, "The AT processor", and 02, E6: what each command does, once its line has left the buffer.
use Rattle.std.specs.Prelude.{Bool, true, false, Option, Some, None}
use Rattle.reply.specs.declared.Code.TheVariants.{Ok, Connect, NoCarrier, Error, Identification, S12}
use Rattle.reply.specs.declared.Reply.TheVariants.{One, Two}
use Rattle.command.specs.declared.Command.{Command}
use Rattle.command.specs.declared.Command.TheVariants.{At, Atz, Ati, Ata, Ath, Ato, Atdt, AskS12, SetS12}
use Rattle.at.specs.declared.AtProcessor.{AtProcessor}
use Rattle.at.specs.declared.Control.TheVariants.{Dial, Answer, Hangup}
use Rattle.at.specs.declared.Outcome.{Outcome}
use Rattle.at.specs.Processor.{fresh_s12, with_escape, with_s12, online, unseen}
use Rattle.at.specs.Answer.{outcome}

-- by the command, if the line is one, and the carrier flag
unfoldable pub executed : Option Command → Bool → AtProcessor → Outcome
executed (Some At) carrier p = outcome p (One Ok) None
executed (Some Atz) carrier p = outcome (with_s12 fresh_s12 (with_escape 0 0 p)) (One Ok) None
executed (Some Ati) carrier p = outcome p (Two Identification Ok) None
executed (Some Ata) carrier p = outcome (online (unseen p)) (One Ok) (Some Answer)
executed (Some Ath) carrier p = outcome (unseen p) (Two Ok NoCarrier) (Some Hangup)
executed (Some Ato) true p = outcome (online p) (One Connect) None
executed (Some Ato) false p = outcome p (One Error) None
executed (Some Atdt) carrier p = outcome (online (unseen p)) (One Ok) (Some Dial)
executed (Some AskS12) carrier p = outcome p (Two S12 Ok) None
executed (Some (SetS12 n)) carrier p = outcome (with_s12 n p) (One Ok) None
executed None carrier p = outcome p (One Error) None
