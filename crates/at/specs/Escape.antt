-- 01, "The AT processor": data mode, the bytes that it sends and its escape. 02, E6: its guard time is that of S12.
use Rattle.std.specs.Prelude.{ℕ, ◌+◌, ◌*◌, List, [], ◌∷◌, ◌++◌, Bool, true, false, ◌&&◌, ◌||◌, replicate, leb, ltb, eqb, None}
use Prim.Native.Char.{code}
use Rattle.reply.specs.declared.Reply.TheVariants as reply
use Rattle.command.specs.Line.{empty_line}
use Rattle.at.specs.declared.AtProcessor.{AtProcessor}
use Rattle.at.specs.declared.Fed.{Fed}
use Rattle.at.specs.Processor.{command_mode, pluses, with_mode, with_escape, added}
use Rattle.at.specs.Answer.{outcome, quiet}

-- S12 × 20 ms
abbrev pub guard_time : AtProcessor → ℕ
guard_time p = p.s12 * 20_000_000

-- a plus is withheld if none is held and idle >= the guard time, or one or two are and idle <= it
unfoldable pub withheld : AtProcessor → ℕ → Bool
withheld p byte =
    eqb byte (code "+")
    && ((eqb (pluses p) 0 && leb (guard_time p) p.idle)
    || ((eqb (pluses p) 1 || eqb (pluses p) 2) && leb p.idle (guard_time p)))

-- any other byte sends the held pluses, then itself
abbrev pub pluses_then : ℕ → ℕ → List ℕ
pluses_then held byte = replicate held (code "+") ++ (byte ∷ [])

abbrev pub released_if : Bool → AtProcessor → ℕ → List ℕ
released_if true p byte = []
released_if false p byte = pluses_then (pluses p) byte

unfoldable pub released : AtProcessor → ℕ → List ℕ
released p byte = released_if (withheld p byte) p byte

-- both zero idle; an outbox with no room for the bytes, which 01 declines, leaves all as it was
abbrev pub data_byte_if : Bool → Bool → AtProcessor → Fed
data_byte_if true room p = quiet (with_escape (pluses p + 1) 0 p)
data_byte_if false true p = record { outcome = outcome (with_escape 0 0 p) reply.None None; sent = pluses p + 1; line = empty_line }
data_byte_if false false p = quiet p

unfoldable pub data_byte : AtProcessor → ℕ → ℕ → Fed
data_byte p byte room = data_byte_if (withheld p byte) (ltb (pluses p) room) p

-- with three held and idle >= the guard time they vanish, idle zero, command mode
abbrev pub escaped_if : Bool → AtProcessor → AtProcessor
escaped_if true p = with_mode true (with_escape 0 0 p)
escaped_if false p = p

unfoldable pub escaped : AtProcessor → AtProcessor
escaped p = escaped_if (eqb (pluses p) 3 && leb (guard_time p) p.idle) p

-- a lapse in this mode adds to idle
abbrev pub waited_if : Bool → AtProcessor → ℕ → AtProcessor
waited_if true p ns = p
waited_if false p ns = escaped (with_escape (pluses p) (added p.idle ns) p)

unfoldable pub waited : AtProcessor → ℕ → AtProcessor
waited p ns = waited_if (command_mode p) p ns
