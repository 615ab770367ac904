-- 02, E13: "Reply text, a lapse's too, each line closed by CR and LF, waits in 256 places for the receive register; where it would run over,
-- its last bytes are lost and overrun is set."
use Rattle.std.specs.Prelude.{ℕ, false, ◌||◌, List, [], ◌∷◌, ◌++◌}
use Rattle.queue.specs.Queue.{empty_queue, is_full, pushed, popped}
use Rattle.reply.specs.declared.Code.{Code}
use Rattle.reply.specs.declared.Reply.{Reply}
use Rattle.reply.specs.declared.Reply.TheVariants.{None, One, Two}
use Rattle.reply.specs.Codes.{number_of}
use Rattle.reply.specs.Texts.{text_of}
use Rattle.uart.specs.declared.Inbox.{Inbox}

-- each line, CR, LF; 02, E6: code 6 by the S12 of then
abbrev pub closed : Code → (s12 : ℕ) → List ℕ
closed code s12 = text_of (number_of code) s12 ++ (13 ∷ 10 ∷ [])

unfoldable pub text_of_reply : Reply → (s12 : ℕ) → List ℕ
text_of_reply None s12 = []
text_of_reply (One code) s12 = closed code s12
text_of_reply (Two first second) s12 = closed first s12 ++ closed second s12

abbrev pub empty_inbox : Inbox
empty_inbox = record { queue = empty_queue; overrun = false }

-- one byte more; where no place is left it is lost, and overrun is set
abbrev pub came : Inbox → ℕ → Inbox
came x byte = record { queue = pushed x.queue byte; overrun = x.overrun || is_full x.queue }

unfoldable pub received : Inbox → List ℕ → Inbox
received x [] = x
received x (byte ∷ bytes) = received (came x byte) bytes

-- the first byte waiting leaves
abbrev pub read_out : Inbox → Inbox
read_out x = record { queue = popped x.queue; overrun = x.overrun }

-- reading line status ends overrun
abbrev pub overrun_read : Inbox → Inbox
overrun_read x = record { queue = x.queue; overrun = false }
