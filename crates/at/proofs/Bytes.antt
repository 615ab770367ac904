-- A typed byte is one of six, by the mode, the byte, the line and the outbox. Laws on it go by these cases. Assumes nothing.
use Prim.Native.Nat.{ℕ, ◌+◌, ◌≤◌, ◌<◌}
use Prim.Native.Char.{code}
use mathlib.Core.Path.{◌≡◌, refl}
use mathlib.Core.List.{List, []}
use mathlib.Core.Bool.{Bool, true, false}
use lib.Dec.{ltb, eqb}
use borrow.Author.Tests.{ltb-true, ltb-false}
use Rattle.std.specs.Prelude.{None}
use Rattle.reply.specs.declared.Reply.TheVariants as reply
use Rattle.command.specs.Line.{empty_line, pushed, uppercased}
use Rattle.command.specs.Command.{command_of}
use Rattle.at.specs.declared.AtProcessor.{AtProcessor}
use Rattle.at.specs.declared.Fed.{Fed}
use Rattle.at.specs.Processor.{command_mode, line_of, pluses, with_line, with_escape}
use Rattle.at.specs.Answer.{outcome, quiet, answered}
use Rattle.at.specs.Command.{executed}
use Rattle.at.specs.Escape.{withheld, pluses_then, released, released_if, data_byte, data_byte_if}
use Rattle.at.specs.At.{ended, ended_if, command_byte, command_byte_if, typed_byte, typed_byte_if, sent, sent_if}

module _ (p : AtProcessor) (byte : ℕ) (carrier : Bool) (room : ℕ) where
  -- the answer, and the bytes sent
  pub data Typed : Fed → List ℕ → Type 0 where
    -- LF, or CR on an empty line
    dropped : Typed (quiet p) []
    -- another CR
    ends : Typed (answered (uppercased (line_of p)) (executed (command_of (uppercased (line_of p))) carrier (with_line empty_line p))) []
    -- any other byte in command mode
    grows : Typed (quiet (with_line (pushed (line_of p) byte) p)) []
    -- a plus that is withheld
    waits : withheld p byte ≡ true → Typed (quiet (with_escape (pluses p + 1) 0 p)) []
    -- any other byte in data mode, and one that finds no room
    sends : pluses p < room → Typed (record { outcome = outcome (with_escape 0 0 p) reply.None None; sent = pluses p + 1; line = empty_line }) (pluses_then (pluses p) byte)
    declined : room ≤ pluses p → Typed (quiet p) (pluses_then (pluses p) byte)

  ending : (empty : Bool) → Typed (ended_if empty p carrier) []
  ending true = dropped
  ending false = ends

  in-command : (lf cr : Bool) → Typed (command_byte_if lf cr p byte carrier) []
  unfolding ended
  in-command true cr = dropped
  in-command false true = ending (eqb (line_of p).len 0)
  in-command false false = grows

  in-data : (w r : Bool) → withheld p byte ≡ w → ltb (pluses p) room ≡ r → Typed (data_byte_if w r p) (released_if w p byte)
  in-data true r e f = waits e
  in-data false true e f = sends (ltb-true _ _ f)
  in-data false false e f = declined (ltb-false _ _ f)

  by_mode : (mode : Bool) → Typed (typed_byte_if mode p byte carrier room) (sent_if mode p byte)
  unfolding command_byte data_byte released
  by_mode true = in-command (eqb byte (code "\n")) (eqb byte (code "\r"))
  by_mode false = in-data (withheld p byte) (ltb (pluses p) room) refl refl

  pub typed_byte_lem : Typed (typed_byte p byte carrier room) (sent p byte)
  unfolding typed_byte sent
  typed_byte_lem = by_mode (command_mode p)
