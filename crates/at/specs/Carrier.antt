-- 01, "The AT processor": the carrier, looked at once in each lapse.
use Rattle.std.specs.Prelude.{ℕ, Bool, true, false, leb, Some, None}
use Rattle.reply.specs.declared.Reply.{Reply}
use Rattle.reply.specs.declared.Reply.TheVariants as reply
use Rattle.reply.specs.declared.Code.TheVariants.{Connect, NoCarrier}
use Rattle.at.specs.declared.AtProcessor.{AtProcessor}
use Rattle.at.specs.declared.Control.TheVariants.{Hangup}
use Rattle.at.specs.declared.Outcome.{Outcome}
use Rattle.at.specs.Processor.{command_mode, seen, down_time, with_mode, with_escape, with_carrier, hold_time, added}
use Rattle.at.specs.Answer.{outcome}

-- CONNECT 300 in data mode
abbrev pub connect_if : Bool → Reply
connect_if true = reply.None
connect_if false = reply.One Connect

-- at 700 ms hang up, command mode, pluses dropped, mark, down time and idle cleared, NO CARRIER
abbrev pub down_if : Bool → AtProcessor → ℕ → Outcome
down_if true p down = outcome (with_mode true (with_escape 0 0 (with_carrier false 0 p))) (reply.One NoCarrier) (Some Hangup)
down_if false p down = outcome (with_carrier true down p) reply.None None

unfoldable pub down_for : AtProcessor → ℕ → Outcome
down_for p down = down_if (leb hold_time down) p down

-- by the carrier, and by the mark: up zeroes the down time, and if not seen marks it; down and seen: add
abbrev pub polled_if : Bool → Bool → AtProcessor → ℕ → Outcome
polled_if true true p ns = outcome (with_carrier true 0 p) reply.None None
polled_if true false p ns = outcome (with_carrier true 0 p) (connect_if (command_mode p)) None
polled_if false true p ns = down_for p (added (down_time p) ns)
polled_if false false p ns = outcome p reply.None None

unfoldable pub polled : AtProcessor → ℕ → Bool → Outcome
polled p ns carrier = polled_if carrier (seen p) p ns
