-- 02, E7: the streaming reader, by steps of one bit, and its fold over a list of bits with room for so many bytes.
use Rattle.std.specs.Prelude.{ℕ, zero, suc, ◌+◌, ◌/◌, Bool, true, false, not, List, [], ◌∷◌, ◌++◌, map, eqb, ltb, length, drop, Option, None, Some}
use Rattle.deframe.specs.declared.Deframer.{Deframer}
use Rattle.deframe.specs.declared.Deframer.TheVariants.{Idle, Frame, Skipping}
use Rattle.deframe.specs.declared.Reading.{Reading}

-- "a bit is a byte, 0 or anything else for one"
abbrev pub is_mark : ℕ → Bool
is_mark bit = not (eqb bit 0)

abbrev pub marks_of : List ℕ → List Bool
marks_of bits = map is_mark bits

-- what a bit comes to: the place after it, and a byte or none
pub record Step : Type 0 where
  pub place : Deframer
  pub byte : Option ℕ

abbrev pub only_to : Deframer → Step
only_to q = record { place = q; byte = None }

-- "ones are idle, a zero opens ten bits"
abbrev pub idle_step : Bool → Step
idle_step true = only_to Idle
idle_step false = only_to (Frame 1 0)

-- "skips to the next one bit"
abbrev pub skipping_step : Bool → Step
skipping_step true = only_to Idle
skipping_step false = only_to Skipping

-- a data bit comes in from above, so that after eight the first is the lowest
abbrev pub shifted : ℕ → Bool → ℕ
shifted acc true = acc / 2 + 128
shifted acc false = acc / 2

-- "a final zero drops them"
abbrev pub stop_step : ℕ → Bool → Step
stop_step acc true = record { place = Idle; byte = Some acc }
stop_step acc false = only_to Skipping

-- with some, 1 to 8, bits read a data bit, with 9 the stop bit; "a state with more than nine bits read is taken as idle", and so is one with none
abbrev pub frame_by : (none some last : Bool) (count acc : ℕ) → Bool → Step
frame_by true some last count acc mark = idle_step mark
frame_by false true last count acc mark = only_to (Frame (count + 1) (shifted acc mark))
frame_by false false true count acc mark = stop_step acc mark
frame_by false false false count acc mark = idle_step mark

unfoldable pub frame_step : (count acc : ℕ) → Bool → Step
frame_step count acc mark = frame_by (eqb count 0) (ltb count 9) (eqb count 9) count acc mark

-- one bit: from a place to a place, and perhaps a byte
abbrev pub step_of : Deframer → Bool → Step
step_of Idle mark = idle_step mark
step_of (Frame count acc) mark = frame_step count acc mark
step_of Skipping mark = skipping_step mark

-- what is read of a list: the place after it, how many bits are taken, and the bytes
pub record Read : Type 0 where
  pub place : Deframer
  pub taken : ℕ
  pub bytes : List ℕ

abbrev pub stopped : Deframer → Read
stopped p = record { place = p; taken = 0; bytes = [] }

-- a bit that gives these bytes, and then the rest
abbrev pub one_bit : List ℕ → Read → Read
one_bit xs r = record { place = r.place; taken = suc r.taken; bytes = xs ++ r.bytes }

-- "when that is full the reader stops before the bit that would give another byte, else it takes all"
abbrev pub onward : ℕ → (before after : Deframer) → Option ℕ → (ℕ → Deframer → Read) → Read
onward room p q None rest = one_bit [] (rest room q)
onward zero p q (Some b) rest = stopped p
onward (suc room) p q (Some b) rest = one_bit (b ∷ []) (rest room q)

unfoldable pub read_of : (room : ℕ) → Deframer → List Bool → Read
read_of room p [] = stopped p
read_of room p (mark ∷ marks) = onward room p (step_of p mark).place (step_of p mark).byte (λ r q. read_of r q marks)

-- "its answer counts bits taken and bytes given; later buffer bytes keep their contents"
abbrev pub answer_of : Read → Reading
answer_of r = record { place = r.place; taken = r.taken; given = length r.bytes }

abbrev pub wrote_of : Read → List ℕ → List ℕ
wrote_of r out = r.bytes ++ drop (length r.bytes) out
