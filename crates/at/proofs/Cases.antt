-- 01, "Proving cases": those of the AT processor, computed by its definitions. Assumes nothing.
use Prim.Native.Nat.{ℕ}
use Prim.Native.Char.{code}
use Prim.Native.String.{String}
use mathlib.Core.Path.{◌≡◌, refl}
use mathlib.Core.List.{List, [], ◌∷◌}
use mathlib.Core.Bool.{Bool, true, false}
use lib.ListN.{get_or}
use Rattle.ascii.specs.Ascii.{ascii}
use Rattle.ascii.specs.Upper.{upper}
use Rattle.reply.specs.declared.Code.TheVariants.{Ok, NoCarrier, Error, S12}
use Rattle.reply.specs.declared.Reply.{Reply}
use Rattle.reply.specs.declared.Reply.TheVariants.{None, One, Two}
use Rattle.command.specs.Line.{empty_line, sound_line, pushed, uppercased}
use Rattle.command.proofs.Cases.{ones, marked}
use Rattle.command.specs.Command.{begins, is, all_digits, value_from, is_setting, setting_of, command_of}
use Rattle.at.specs.declared.AtProcessor.{AtProcessor}
use Rattle.std.specs.Prelude.{Some}
use Rattle.at.specs.declared.Control.TheVariants.{Dial}
use Rattle.at.specs.declared.Fed.{Fed}
use Rattle.at.specs.Processor.{fresh, command_mode, line_of, pluses, sound, online, with_line, with_escape, with_carrier, with_s12, added}
use Rattle.at.specs.Command.{executed}
use Rattle.at.specs.Escape.{withheld, released, data_byte, escaped, waited}
use Rattle.at.specs.Carrier.{polled, down_for}
use Rattle.at.specs.At.{ended, command_byte, typed_byte, after_atdt, sent, lapse}
use Rattle.at.specs.Before.{ends_s12_line}

-- a line typed into a fresh processor
pub typing : List ℕ → AtProcessor → AtProcessor
typing [] p = p
typing (byte ∷ bytes) p = typing bytes (typed_byte p byte false 4).outcome.processor

-- the answer to the CR after it
pub answer_to : String → Fed
unfolding typing typed_byte command_byte ended pushed upper uppercased begins is all_digits value_from is_setting setting_of command_of executed
answer_to line = typed_byte (typing (ascii line) fresh) (code "\r") false 4

-- ATDT12
pub atdt12 : ((answer_to "ATDT12").outcome.control ≡ Some Dial) × (after_atdt (answer_to "ATDT12") ≡ ascii "12")
unfolding answer_to
atdt12 = (refl, refl)

-- atdtabcdef: after ATDT stands ABCDEF, of which ABCD are keys
pub atdtabcdef : ((answer_to "atdtabcdef").outcome.control ≡ Some Dial) × (after_atdt (answer_to "atdtabcdef") ≡ ascii "ABCDEF")
unfolding answer_to
atdtabcdef = (refl, refl)

-- ATDP1
pub atdp1 : (answer_to "ATDP1").outcome.reply ≡ One Error
unfolding answer_to
atdp1 = refl

-- AT DT1
pub at-dt1 : (answer_to "AT DT1").outcome.reply ≡ One Error
unfolding answer_to
at-dt1 = refl

-- 02, E1: ATDT and 76 digits are dialled, and with one more CR gives ERROR and empties the line
pub atdt-76 : ((answer_to "ATDT1111111111111111111111111111111111111111111111111111111111111111111111111111").outcome.control ≡ Some Dial)
unfolding answer_to
atdt-76 = refl

pub atdt-77 : ((answer_to "ATDT11111111111111111111111111111111111111111111111111111111111111111111111111111").outcome.reply ≡ One Error) × (line_of (answer_to "ATDT11111111111111111111111111111111111111111111111111111111111111111111111111111").outcome.processor ≡ empty_line)
unfolding answer_to
atdt-77 = (refl, refl)

-- 02, E6: S12 is 50 when fresh; up to three digits up to 255 set it, small letters too, and ATS12? gives codes 6 and 1
pub s12-set : (fresh.s12 ≡ 50)
    × ((answer_to "ATS12=0").outcome.processor.s12 ≡ 0)
    × ((answer_to "ats12=007").outcome.processor.s12 ≡ 7)
    × ((answer_to "ATS12=255").outcome.processor.s12 ≡ 255)
    × ((answer_to "ATS12=255").outcome.reply ≡ One Ok)
    × ((answer_to "ats12?").outcome.reply ≡ Two S12 Ok)
unfolding answer_to
s12-set = (refl, refl, refl, refl, refl, refl)

-- other forms are ERROR: past 255, four digits, none, no digit, and the bare register
pub s12-wrong : ((answer_to "ATS12=256").outcome.reply ≡ One Error)
    × ((answer_to "ATS12=0050").outcome.reply ≡ One Error)
    × ((answer_to "ATS12=").outcome.reply ≡ One Error)
    × ((answer_to "ATS12=5X").outcome.reply ≡ One Error)
    × ((answer_to "ATS12").outcome.reply ≡ One Error)
    × ((answer_to "ATS12??").outcome.reply ≡ One Error)
    × ((answer_to "ATS12=256").outcome.processor.s12 ≡ 50)
unfolding answer_to
s12-wrong = (refl, refl, refl, refl, refl, refl, refl)

-- what ends an S12 line: CR after one that sets it or asks for it, and after no other
pub ends_after : String → String → Bool
unfolding typing typed_byte command_byte ended pushed upper uppercased begins is all_digits value_from is_setting setting_of command_of executed ends_s12_line
ends_after line last = ends_s12_line (typing (ascii line) fresh) (get_or (ascii last) 0 0)

pub s12-lines : (ends_after "ATS12=9" "\r" ≡ true)
    × (ends_after "ats12?" "\r" ≡ true)
    × (ends_after "ATS12?" "\n" ≡ false)
    × (ends_after "ATS12=256" "\r" ≡ false)
    × (ends_after "ATZ" "\r" ≡ false)
unfolding ends_after
s12-lines = (refl, refl, refl, refl, refl)

-- a lapse without a carrier, and the same followed by a plus
pub after : ℕ → AtProcessor → AtProcessor
unfolding lapse waited escaped polled down_for added
after ns p = (lapse p ns false).processor

pub plus_after : ℕ → AtProcessor → AtProcessor
unfolding after typing typed_byte data_byte withheld
plus_after ns p = typing (ascii "+") (after ns p)

-- the bytes that such a plus sends
pub sent_after : ℕ → AtProcessor → List ℕ
unfolding after sent released withheld
sent_after ns p = sent (after ns p) (code "+")

-- a plus at idle 1 s is withheld, at 999,999,999 ns sent
pub first-plus : (sent_after 1_000_000_000 (online fresh) ≡ []) × (sent_after 999_999_999 (online fresh) ≡ ascii "+")
unfolding sent_after
first-plus = (refl, refl)

-- the second plus 1,000,000,001 ns later: two sent, and neither opens an escape
pub second-plus : (sent_after 1_000_000_001 (plus_after 1_000_000_000 (online fresh)) ≡ ascii "++") × (pluses (plus_after 1_000_000_001 (plus_after 1_000_000_000 (online fresh))) ≡ 0)
unfolding sent_after plus_after
second-plus = (refl, refl)

-- 02, E6: with 51 the same two edges are 20 ms later; with 0 a first plus is always withheld, a second only in the same instant, and a lapse of
-- 0 ns completes the escape
pub s12-51 : (sent_after 1_020_000_000 (with_s12 51 (online fresh)) ≡ []) × (sent_after 1_019_999_999 (with_s12 51 (online fresh)) ≡ ascii "+")
    × (sent_after 1_020_000_000 (plus_after 1_020_000_000 (with_s12 51 (online fresh))) ≡ [])
    × (sent_after 1_020_000_001 (plus_after 1_020_000_000 (with_s12 51 (online fresh))) ≡ ascii "++")
unfolding sent_after plus_after
s12-51 = (refl, refl, refl, refl)

pub s12-0 : (sent_after 0 (with_s12 0 (online fresh)) ≡ []) × (sent_after 0 (plus_after 0 (with_s12 0 (online fresh))) ≡ [])
    × (sent_after 1 (plus_after 0 (with_s12 0 (online fresh))) ≡ ascii "++")
    × (command_mode (after 0 (with_s12 0 (with_escape 3 0 (online fresh)))) ≡ true)
unfolding sent_after plus_after
s12-0 = (refl, refl, refl, refl)

-- a fourth plus: four sent
pub fourth-plus : sent_after 0 (plus_after 0 (plus_after 0 (plus_after 1_000_000_000 (online fresh)))) ≡ ascii "++++"
unfolding sent_after plus_after
fourth-plus = refl

-- a seen carrier that is down for so long
pub down_reply : ℕ → Reply
unfolding lapse waited escaped polled down_for added
down_reply ns = (lapse (with_carrier true 0 (online fresh)) ns false).reply

-- 699,999,999 ns: none; 700,000,000: NO CARRIER
pub down : (down_reply 699_999_999 ≡ None) × (down_reply 700_000_000 ≡ One NoCarrier)
unfolding down_reply
down = (refl, refl)

-- sound: line <= 80; pluses <= 3; down time < 700 ms
pub sound-line : (sound (with_line (ones 80) fresh) ≡ true) × (sound (with_line (ones 81) fresh) ≡ false)
unfolding sound sound_line
sound-line = (refl, refl)

-- 02, E1: a mark on a line shorter than 80 is unsound
pub sound-mark : (sound (with_line (marked 80) fresh) ≡ true) × (sound (with_line (marked 79) fresh) ≡ false)
unfolding sound sound_line
sound-mark = (refl, refl)

pub sound-pluses : (sound (with_escape 3 0 fresh) ≡ true) × (sound (with_escape 4 0 fresh) ≡ false)
unfolding sound sound_line
sound-pluses = (refl, refl)

pub sound-down : (sound (with_carrier true 699_999_999 fresh) ≡ true) × (sound (with_carrier true 700_000_000 fresh) ≡ false)
unfolding sound sound_line
sound-down = (refl, refl)
