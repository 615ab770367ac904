-- 01, "Proving cases", the program `wall`: the set after a line's call, and what is printed for the line.
use Rattle.std.specs.Prelude.{ℕ, ◌*◌, Bool, true, false, ◌&&◌, List, [], ◌∷◌, ◌++◌, leb, ltb, eqb, length, Result, Option, None, Some}
use Rattle.console.specs.declared.lines.Call.{Call}
use Rattle.console.specs.declared.lines.Call.TheVariants as call
use Rattle.keys.specs.declared.Key.{Key}
use Rattle.reply.specs.declared.Reply.{Reply}
use Rattle.reply.specs.declared.Reply.TheVariants as reply
use Rattle.reply.specs.Codes.{first_of, second_of}
use Rattle.at.specs.Processor.{command_mode}
use Rattle.session.specs.Session.{state_number}
use Rattle.set.specs.declared.Set.{Set}
use Rattle.set.specs.declared.Made.{Made}
use Rattle.set.specs.declared.Typed.{Typed}
use Rattle.set.specs.declared.TypedAll.{TypedAll}
use Rattle.set.specs.declared.Lapsed.{Lapsed}
use Rattle.set.specs.declared.Filled.{Filled}
use Rattle.refusal.specs.declared.Refusal.{Refusal}
use Rattle.refusal.specs.Refusal.{answer_number}
use Rattle.set.specs.Refusals.{either, told}
use Rattle.set.specs.Set.{made, typed, lapsed, forced, fill, byte_queued, set_typed, reply_typed, sent_typed, set_lapsed, reply_lapsed, set_filled, key_filled, set_left}
use Rattle.set.specs.String.{typed_all}
use Rattle.cue.specs.declared.Cued.{Cued}
use Rattle.cue.specs.Cue.{cued, sample_cued, key_cued}
use Rattle.deframe.specs.declared.Deframer.{Deframer}
use Rattle.deframe.specs.declared.Deframer.TheVariants.{Idle}
use Rattle.deframe.specs.declared.Reading.{Reading}
use Rattle.deframe.specs.Read.{Read, marks_of, read_of, stopped}
use Rattle.deframe.specs.Unframe.{unframe_of}
use Rattle.report.specs.declared.Report.{Report}
use Rattle.report.specs.Report.{report_line}
use Rattle.panel.specs.declared.Form.{Form}
use Rattle.panel.specs.declared.Form.TheVariants as form
use Rattle.panel.specs.declared.shown.Second.{Second}
use Rattle.panel.specs.declared.shown.Second.TheVariants as second
use Rattle.panel.specs.declared.shown.Shown.{Shown}
use Rattle.panel.specs.declared.shown.Told.{Told}

-- whether each answer has a second line
abbrev pub has_bits : Form → Bool
has_bits form.Wall = false
has_bits form.WallExtended = false
has_bits form.Tap = true
has_bits form.Extended = true

-- refusal (0 none), mode C or D, state, stage, m, two codes (0 none)
abbrev pub report_of : Set → ℕ → Reply → Report
report_of set refusal reply =
    record {
      refusal = refusal;
      in_command_mode = command_mode set.processor;
      state = state_number set.session.state;
      stage = set.session.shown;
      m = set.session.m;
      first = first_of reply;
      second = second_of reply;
    }

abbrev pub shown_of : Set → ℕ → Reply → Second → Shown
shown_of set refusal reply second = record { set = set; told = Some (record { report = report_of set refusal reply; second = second }) }

-- other lines leave the set and print nothing
abbrev pub nothing_shown : Set → Shown
nothing_shown s = record { set = s; told = None }

-- the set's answers: creation, forced data and a fill have no reply, and a typed byte alone sends
abbrev pub made_shown : Made → Shown
made_shown a = shown_of a.set (answer_number a.checked) reply.None second.Made

-- a call on the set s: a declined one leaves it, and has no reply, no key and zeros
abbrev pub typed_shown : Set → Result Typed Refusal → Shown
typed_shown s a = shown_of (set_typed s a) (answer_number a) (reply_typed a) (second.Sent (sent_typed a))

abbrev pub lapsed_shown : Set → Result Lapsed Refusal → Shown
lapsed_shown s a = shown_of (set_lapsed s a) (answer_number a) (reply_lapsed a) (second.Sent 0)

abbrev pub forced_shown : Set → Result Set Refusal → Shown
forced_shown s a = shown_of (set_left s a) (answer_number a) reply.None (second.Sent 0)

abbrev pub filled_shown : Set → ℕ → Result Filled Refusal → Shown
filled_shown s length a = shown_of (set_filled s a) (answer_number a) reply.None (second.Filled length (key_filled a))

-- a cue leaves the set
abbrev pub cued_shown : Set → Result Cued Refusal → Shown
cued_shown s a = shown_of s (answer_number a) reply.None (second.Cued (sample_cued a) (key_cued a))

-- a string has no codes of its own: those of its n bytes, and S12, fill three places each, where it is not declined
abbrev pub string_shown : Set → ℕ → Result TypedAll Refusal → Shown
string_shown s n a =
    shown_of (told (λ (t : TypedAll). t.set) s a) (answer_number a) reply.None
    (second.String (told (λ (t : TypedAll). t.sent) 0 a) (told (λ (t : TypedAll). 3 * n) 0 a))

-- the reader leaves the set, and is not declined
abbrev pub bits_shown : Set → Reading → Shown
bits_shown s a = shown_of s 0 reply.None (second.Bits a.taken a.given)

-- a frame leaves the set; a string of another length than ten prints nothing
abbrev pub frame_shown : Bool → Set → Result ℕ Refusal → Shown
frame_shown true s a = shown_of s (answer_number a) reply.None (second.Frame a)
frame_shown false s a = nothing_shown s

-- 02, E8: the key that the last fill answered leaves the set
abbrev pub lit_shown : Set → Shown
lit_shown s = shown_of s 0 reply.None second.Lit

-- 02, E10: a byte that is queued has no reply, and sends nothing into the outbox
abbrev pub queued_shown : Set → Result Set Refusal → Shown
queued_shown s a = shown_of (set_left s a) (answer_number a) reply.None (second.Sent 0)

-- a call that asks for more room than there is counts as another line: no line that is read does
abbrev pub if_room : Bool → Set → Shown → Shown
if_room true s shown = shown
if_room false s shown = nothing_shown s

-- R,rate / T,byte,carrier / W,ns,carrier / F,length / D, and of `tap --ext` C,position / M,byte / S,carrier,outbox,codes / B,room / U / K / Q,byte; with room for an
-- outbox of so many bytes, so many codes and so many samples, with the string that is kept, and with what the reader made of it
abbrev pub shown_after : (bytes places samples : ℕ) (kept : List ℕ) (read : Reading) → Set → Call → Shown
shown_after bytes places samples kept read s (call.Rate rate) = made_shown (made rate)
shown_after bytes places samples kept read s (call.Typed byte carrier outbox) = if_room (leb outbox bytes) s (typed_shown s (typed s byte carrier outbox))
shown_after bytes places samples kept read s (call.Lapse ns carrier) = lapsed_shown s (lapsed s ns carrier)
shown_after bytes places samples kept read s (call.Fill n) = if_room (leb n samples) s (filled_shown s n (fill s n))
shown_after bytes places samples kept read s call.ForcedData = forced_shown s (forced s)
shown_after bytes places samples kept read s (call.Cue position) = cued_shown s (cued s position)
shown_after bytes places samples kept read s (call.Kept byte) = nothing_shown s
shown_after bytes places samples kept read s (call.String carrier outbox codes) =
    if_room (leb outbox bytes && leb codes places) s (string_shown s (length kept) (typed_all s kept carrier outbox codes))
shown_after bytes places samples kept read s (call.Bits room) = bits_shown s read
shown_after bytes places samples kept read s call.Frame = frame_shown (eqb (length kept) 10) s (unframe_of (marks_of kept))
shown_after bytes places samples kept read s call.Key = lit_shown s
shown_after bytes places samples kept read s (call.Queued byte) = queued_shown s (byte_queued s byte)

-- of a line that may be a call: other lines leave the set and print nothing
abbrev pub shown_line : (bytes places samples : ℕ) (kept : List ℕ) (read : Reading) → Set → Option Call → Shown
shown_line bytes places samples kept read s (Some call) = shown_after bytes places samples kept read s call
shown_line bytes places samples kept read s None = nothing_shown s

-- the reader that is kept: B has it read the string that is kept, with room for so many bytes; R sets it back; no other line changes it
abbrev pub read_after : (bytes : ℕ) (kept : List ℕ) → Deframer → Call → Read
read_after bytes kept p (call.Bits room) = either (leb room bytes) (read_of room p (marks_of kept)) (stopped p)
read_after bytes kept p (call.Rate rate) = stopped Idle
read_after bytes kept p (call.Typed byte carrier outbox) = stopped p
read_after bytes kept p (call.Lapse ns carrier) = stopped p
read_after bytes kept p (call.Fill n) = stopped p
read_after bytes kept p call.ForcedData = stopped p
read_after bytes kept p (call.Cue position) = stopped p
read_after bytes kept p (call.Kept byte) = stopped p
read_after bytes kept p (call.String carrier outbox codes) = stopped p
read_after bytes kept p call.Frame = stopped p
read_after bytes kept p call.Key = stopped p
read_after bytes kept p (call.Queued byte) = stopped p

abbrev pub read_line : (bytes : ℕ) (kept : List ℕ) → Deframer → Option Call → Read
read_line bytes kept p (Some call) = read_after bytes kept p call
read_line bytes kept p None = stopped p

-- the string that is kept, with room for so many bytes: M adds a byte, or passes it over; S, B and U forget it, declined or not; no other line
-- changes it
abbrev pub kept_with : ℕ → List ℕ → ℕ → List ℕ
kept_with room kept byte = either (ltb (length kept) room) (kept ++ (byte ∷ [])) kept

abbrev pub kept_after : ℕ → List ℕ → Call → List ℕ
kept_after room kept (call.Kept byte) = kept_with room kept byte
kept_after room kept (call.String carrier outbox codes) = []
kept_after room kept (call.Rate rate) = kept
kept_after room kept (call.Typed byte carrier outbox) = kept
kept_after room kept (call.Lapse ns carrier) = kept
kept_after room kept (call.Fill n) = kept
kept_after room kept call.ForcedData = kept
kept_after room kept (call.Cue position) = kept
kept_after room kept (call.Bits n) = []
kept_after room kept call.Frame = []
kept_after room kept call.Key = kept
kept_after room kept (call.Queued byte) = kept

abbrev pub kept_line : ℕ → List ℕ → Option Call → List ℕ
kept_line room kept (Some call) = kept_after room kept call
kept_line room kept None = kept

-- the key that is kept: that which the last fill answered; none after R
abbrev pub lit_after : Option Key → Second → Option Key
lit_after was (second.Filled n key) = key
lit_after was second.Made = None
lit_after was (second.Sent sent) = was
lit_after was (second.Cued sample key) = was
lit_after was (second.String sent places) = was
lit_after was (second.Bits taken given) = was
lit_after was (second.Frame answer) = was
lit_after was second.Lit = was

-- other lines leave it
abbrev pub lit_left : Option Key → Option Told → Option Key
lit_left was (Some told) = lit_after was told.second
lit_left was None = was

-- the line printed
abbrev pub line_if : Option Told → List ℕ
line_if (Some told) = report_line told.report
line_if None = []

abbrev pub line_of : Shown → List ℕ
line_of shown = line_if shown.told
