-- 02, E3: a whole string typed in a call. "Set, bytes sent in order, count, and codes equal typing them singly", with one carrier flag and, for
-- each byte, an outbox of four. 02, E6: its code buffer has three places a byte.
use Rattle.std.specs.Prelude.{ℕ, ◌*◌, Bool, ◌||◌, List, [], ◌∷◌, ◌++◌, ltb, length, take, drop, Result}
use Rattle.reply.specs.Codes.{first_of, second_of}
use Rattle.refusal.specs.declared.Refusal.{Refusal}
use Rattle.set.specs.declared.Set.{Set}
use Rattle.set.specs.declared.TypedAll.{TypedAll}
use Rattle.set.specs.Sound.{sound}
use Rattle.set.specs.Refusals.{cause_of_string, Checked, if_accepted, answered}
use Rattle.set.specs.Set.{s12_of, typed, outbox, set_typed, reply_typed, sent_typed}

abbrev pub four : List ℕ
four = 0 ∷ 0 ∷ 0 ∷ 0 ∷ []

-- ---- the bytes typed singly, each on the set that the one before left
unfoldable pub set_by : Set → List ℕ → Bool → Set
set_by s [] carrier = s
set_by s (byte ∷ bytes) carrier = set_by (set_typed s (typed s byte carrier 4)) bytes carrier

-- the bytes that a byte puts into its outbox, and those of all of them, in order
abbrev pub put_by : Set → ℕ → Bool → List ℕ
put_by s byte carrier = take (sent_typed (typed s byte carrier 4)) (outbox s byte four)

unfoldable pub sent_by : Set → List ℕ → Bool → List ℕ
sent_by s [] carrier = []
sent_by s (byte ∷ bytes) carrier = put_by s byte carrier ++ sent_by (set_typed s (typed s byte carrier 4)) bytes carrier

-- 02, E6: "three places a byte, from 3i: the two codes", 0 for none, "and the S12 after that byte"
unfoldable pub codes_by : Set → List ℕ → Bool → List ℕ
codes_by s [] carrier = []
codes_by s (byte ∷ bytes) carrier =
    first_of (reply_typed (typed s byte carrier 4))
    ∷ second_of (reply_typed (typed s byte carrier 4))
    ∷ s12_of (set_typed s (typed s byte carrier 4))
    ∷ codes_by (set_typed s (typed s byte carrier 4)) bytes carrier

-- ---- the call: of the set, the string, the carrier flag, the outbox and the code buffer
-- more than 256 bytes give 8, then an outbox under four bytes for each byte or a code buffer under three places gives 9
abbrev pub cause_by_lengths : (ok : Bool) (n room places : ℕ) → Checked
cause_by_lengths ok n room places = cause_of_string ok (ltb 256 n) (ltb room (4 * n) || ltb places (3 * n))

unfoldable pub string_cause : Set → (n room places : ℕ) → Checked
string_cause s n room places = cause_by_lengths (sound s) n room places

abbrev pub bytes_typed : Set → List ℕ → Bool → TypedAll
bytes_typed s bytes carrier = record { set = set_by s bytes carrier; sent = length (sent_by s bytes carrier) }

unfoldable pub typed_all : Set → List ℕ → Bool → (room places : ℕ) → Result TypedAll Refusal
typed_all s bytes carrier room places = answered (string_cause s (length bytes) room places) (bytes_typed s bytes carrier)

-- lent bytes past those used keep their contents
abbrev pub at_front : List ℕ → List ℕ → List ℕ
at_front used was = used ++ drop (length used) was

unfoldable pub outbox_all : Set → List ℕ → Bool → List ℕ → (places : ℕ) → List ℕ
outbox_all s bytes carrier was places =
    if_accepted (string_cause s (length bytes) (length was) places) (at_front (sent_by s bytes carrier) was) was

unfoldable pub codes_all : Set → List ℕ → Bool → (room : ℕ) → List ℕ → List ℕ
codes_all s bytes carrier room was =
    if_accepted (string_cause s (length bytes) room (length was)) (at_front (codes_by s bytes carrier) was) was
