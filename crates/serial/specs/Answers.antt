-- The program `serial`: the chip after a line's call, and what is printed for the line: `refusal,value,mode,state,stage,m,sent`, the value read (0 else), the
-- bytes sent in hexadecimal or `-`; nothing for another line.
use Rattle.std.specs.Prelude.{ℕ, min, List, [], ◌∷◌, length, take, replicate, Result, Option, None, Some}
use Rattle.ascii.specs.Ascii.{ascii}
use Rattle.text.specs.Page.{Page, add_of}
use Rattle.text.specs.Fields.{numbered, hex_on}
use Rattle.report.specs.Report.{mode_text}
use Rattle.at.specs.Processor.{command_mode}
use Rattle.session.specs.Session.{state_number}
use Rattle.refusal.specs.declared.Refusal.{Refusal}
use Rattle.refusal.specs.Refusal.{answer_number}
use Rattle.uart.specs.declared.Chip.{Chip}
use Rattle.uart.specs.declared.Start.{Start}
use Rattle.uart.specs.declared.Read.{Read}
use Rattle.uart.specs.declared.Written.{Written}
use Rattle.uart.specs.declared.Fill.{Fill}
use Rattle.uart.specs.Chip as uart
use Rattle.serial.specs.declared.lines.Asked.{Asked}
use Rattle.serial.specs.declared.lines.Asked.TheVariants as asked

-- ---- a line on the page
-- of the chip after the call, the number, the value and the bytes sent
unfoldable pub told : Page → Chip → (number value : ℕ) → List ℕ → Page
told p c number value sent =
    let first = numbered (numbered p number) value in
    let mode = add_of (add_of first (mode_text (command_mode c.set.processor))) (ascii ",") in
    let state = numbered mode (state_number c.set.session.state) in
    let stage = numbered state c.set.session.shown in
    let m = numbered stage c.set.session.m in
    add_of (hex_on m sent) (ascii "\n")

-- ---- the calls; what is lent to them is the front of an outbox of 16 bytes, all 0, or of the buffer of `room` samples
abbrev pub lent_of : (outbox : ℕ) → List ℕ
lent_of n = take n (replicate 16 0)

abbrev pub chip_by : (room : ℕ) → Chip → Option Asked → Chip
chip_by room c (Some (asked.Rate r)) = (uart.started r).chip
chip_by room c (Some (asked.Read address)) = uart.chip_read c (uart.read c address)
chip_by room c (Some (asked.Write address value carrier n)) = uart.chip_written c (uart.write c address value carrier (length (lent_of n)))
chip_by room c (Some (asked.Lapse ns carrier)) = uart.chip_left c (uart.lapsed c ns carrier)
chip_by room c (Some (asked.Fill n)) = uart.chip_filled c (uart.filled c (min n room))
chip_by room c None = c

abbrev pub start_told : Page → Start → Page
start_told p a = told p a.chip (answer_number a.checked) 0 []

abbrev pub read_told : Page → Chip → Result Read Refusal → Page
read_told p c a = told p (uart.chip_read c a) (answer_number a) (uart.value_read a) []

abbrev pub write_told : Page → Chip → Result Written Refusal → (left : List ℕ) → Page
write_told p c a left = told p (uart.chip_written c a) (answer_number a) 0 (take (uart.sent_written a) left)

abbrev pub lapse_told : Page → Chip → Result Chip Refusal → Page
lapse_told p c a = told p (uart.chip_left c a) (answer_number a) 0 []

abbrev pub fill_told : Page → Chip → Result Fill Refusal → Page
fill_told p c a = told p (uart.chip_filled c a) (answer_number a) 0 []

abbrev pub page_by : (room : ℕ) → Page → Chip → Option Asked → Page
page_by room p c (Some (asked.Rate r)) = start_told p (uart.started r)
page_by room p c (Some (asked.Read address)) = read_told p c (uart.read c address)
page_by room p c (Some (asked.Write address value carrier n)) =
    write_told p c (uart.write c address value carrier (length (lent_of n))) (uart.outbox c address value (lent_of n))
page_by room p c (Some (asked.Lapse ns carrier)) = lapse_told p c (uart.lapsed c ns carrier)
page_by room p c (Some (asked.Fill n)) = fill_told p c (uart.filled c (min n room))
page_by room p c None = p
