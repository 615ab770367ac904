-- 02, E7 read off the public functions, each promise at its full strength, so that one that says less is refused here; and the reader at its
-- edges, computed: a bad frame, a full buffer, a place of ten bits. Assumes nothing.
use Prim.Native.Nat.{ℕ, ◌≤◌, ◌<◌}
use native.Mathlib.Omega.{arith}
use mathlib.Core.Bool.{Bool, true, false, not}
use mathlib.Core.List.{List, [], ◌∷◌, ◌++◌, map}
use mathlib.Core.Path.{◌≡◌, refl, ◌∙◌}
use contract.Lifetimes.{Lfts}
use denote.Bor.{Bor}
use denote.Ref.{MutBor, at_last}
use lib.Dec.{eqb}
use lib.ListN.{length, take, drop, replicate, length-map}
use Rattle.frame.specs.Frame.{frame_of, framed}
use Rattle.std.specs.Prelude.{Option, Some, Result, Ok}
use Rattle.refusal.specs.declared.Refusal.{Refusal}
use Rattle.refusal.specs.Refusal.{answer_number}
use Rattle.deframe.specs.declared.Deframer.{Deframer}
use Rattle.deframe.specs.declared.Deframer.TheVariants.{Idle, Frame, Skipping}
use Rattle.deframe.specs.declared.Reading.{Reading}
use Rattle.deframe.specs.Unframe.{unframe_of}
use Rattle.deframe.specs.Read.{Read, only_to, frame_step, step_of, read_of}
use Rattle.deframe.specs.Calls.{AllBytes, none, more, Lent, run_of}
use Rattle.deframe.proofs.Parts.{taken-all}
use Rattle.deframe.proofs.unframe.Reads as unframe
use Rattle.deframe.proofs.is_mark.Reads as is-mark
use Rattle.deframe.proofs.Deframer.new.Reads as new
use Rattle.deframe.proofs.Deframer.push_bit.Reads as push-bit
use Rattle.deframe.proofs.Deframer.read.Reads as read

-- ---- a single frame
module _ (bits : List Bool) (r : Result ℕ Refusal) (d : unframe.Learnt tt (bits, tt) r (bits, tt)) where
  pub is-the-inverse : r ≡ unframe_of bits
  is-the-inverse = d.0

  pub frame-gives-byte : (b : ℕ) → b < 256 → bits ≡ frame_of b → r ≡ Ok b
  frame-gives-byte = d.1.0

  pub byte-gives-frame : (b : ℕ) → r ≡ Ok b → frame_of b ≡ bits
  byte-gives-frame = d.1.1

pub bad-start : (bits : List Bool) → answer_number (unframe_of (true ∷ bits)) ≡ 11
unfolding unframe_of
bad-start bits = refl

pub bad-stop : (a b c d e f g h : Bool) → answer_number (unframe_of (false ∷ a ∷ b ∷ c ∷ d ∷ e ∷ f ∷ g ∷ h ∷ false ∷ [])) ≡ 11
unfolding unframe_of
bad-stop a b c d e f g h = refl

-- ---- the reader
pub mark-is : (bit : ℕ) (m : Bool) → is-mark.Learnt tt (bit, tt) m (bit, tt) → m ≡ not (eqb bit 0)
mark-is bit m d = d

pub begins-idle : (p : Deframer) → new.Learnt tt tt p tt → p ≡ Idle
begins-idle p d = d

module _ (κs : Lfts 1) (p : MutBor Deframer) (after : Deframer) (m : Bool) (r : Option ℕ)
    (d : push-bit.Learnt κs (p, (m, tt)) r (at_last p after, (m, tt))) where
  pub one_bit_place : after ≡ (step_of p.now m).place
  one_bit_place = d.0

  pub one_bit_byte : r ≡ (step_of p.now m).byte
  one_bit_byte = d.1

abbrev marks : List ℕ → List Bool
marks bits = map (λ bit. not (eqb bit 0)) bits

abbrev Bytes : List ℕ → Type 0
Bytes [] = Unit
Bytes (b ∷ bs) = (b < 256) × Bytes bs

all-bytes : (bs : List ℕ) → Bytes bs → AllBytes bs
all-bytes [] h = none
all-bytes (b ∷ bs) (h, hs) = more h (all-bytes bs hs)

module _ (κs : Lfts 2) (p : Deframer) (bits : Bor (List ℕ)) (out : MutBor (List ℕ)) (left : List ℕ) (r : Reading)
    (d : read.Learnt κs (p, (bits, (out, tt))) r (p, (bits, (at_last out left, tt)))) where
  pub place_is : r.place ≡ (read_of (length out.now) p (marks bits.now)).place
  place_is = rw d.0

  pub taken_is : r.taken ≡ (read_of (length out.now) p (marks bits.now)).taken
  taken_is = rw d.0

  pub given_is : r.given ≡ length (read_of (length out.now) p (marks bits.now)).bytes
  given_is = rw d.0

  pub buffer-is : left ≡ (read_of (length out.now) p (marks bits.now)).bytes ++ drop (length (read_of (length out.now) p (marks bits.now)).bytes) out.now
  buffer-is = d.1.0

  -- with a place for each bit all are taken
  pub takes_all : length bits.now ≤ length out.now → r.taken ≡ length bits.now
  takes_all h =
      taken_is ∙ taken-all (length out.now) p (marks bits.now) (omega (arith, h, length-map bits.now (λ bit. not (eqb bit 0)))) ∙ length-map bits.now (λ bit. not (eqb bit 0))

  -- from any place, after ten ones
  abbrev ones : List Bool
  ones = replicate 10 true

  abbrev opened : List ℕ
  opened = (read_of 1 p ones).bytes

  module _ (room : ℕ) (some : 1 ≤ room) where
    pub ones-leave-idle : read_of room p ones ≡ record { place = Idle; taken = 10; bytes = opened }
    ones-leave-idle = (d.1.1.0 room some).idle

    pub ones-give-few : length opened ≤ 1
    ones-give-few = (d.1.1.0 room some).few

    pub frames-give : (bytes : List ℕ) → Bytes bytes → (read_of room p (ones ++ framed bytes)).bytes ≡ take room (opened ++ bytes)
    frames-give bytes h = (d.1.1.0 room some).gives bytes (all-bytes bytes h)

    pub frames-whole : (bytes : List ℕ) → Bytes bytes → length (opened ++ bytes) ≤ room
        → read_of room p (ones ++ framed bytes) ≡ record { place = Idle; taken = length (ones ++ framed bytes); bytes = opened ++ bytes }
    frames-whole bytes h l = (d.1.1.0 room some).whole bytes (all-bytes bytes h) l

  -- any number of calls, and two of them
  pub calls-joined : (calls : List Lent) (room : ℕ) → length (run_of p calls).bytes ≤ room
      → read_of room p (marks (run_of p calls).took) ≡ record { place = (run_of p calls).place; taken = length (run_of p calls).took; bytes = (run_of p calls).bytes }
  calls-joined = d.1.1.1

  module _ (xs ys : List ℕ) (m n : ℕ) where
    abbrev first : Read
    first = read_of m p (marks xs)

    abbrev second : Read
    second = read_of n first.place (marks ys)

    abbrev took : List ℕ
    took = take first.taken xs ++ (take second.taken ys ++ [])

    abbrev bytes : List ℕ
    bytes = first.bytes ++ (second.bytes ++ [])

    pub two-joined : (room : ℕ) → length bytes ≤ room → read_of room p (marks took) ≡ record { place = second.place; taken = length took; bytes = bytes }
    unfolding run_of
    two-joined room l = d.1.1.1 (record { bits = xs; room = m } ∷ record { bits = ys; room = n } ∷ []) room l

-- ---- at its edges
pub nine-read : (acc : ℕ) → (step_of (Frame 9 acc) true ≡ record { place = Idle; byte = Some acc }) × (step_of (Frame 9 acc) false ≡ only_to Skipping)
unfolding frame_step
nine-read acc = (refl, refl)

pub ten-read : (acc : ℕ) → (step_of (Frame 10 acc) true ≡ only_to Idle) × (step_of (Frame 10 acc) false ≡ only_to (Frame 1 0))
unfolding frame_step
ten-read acc = (refl, refl)

-- after a bad stop bit zeros are passed over up to a one, and the frame after it is read
pub dropped : read_of 1 Idle (false ∷ replicate 8 true ++ false ∷ false ∷ true ∷ frame_of 67) ≡ record { place = Idle; taken = 22; bytes = 67 ∷ [] }
unfolding read_of frame_step frame_of
dropped = refl

-- with no room the reader stops before the stop bit
pub stops : read_of 0 Idle (frame_of 67) ≡ record { place = Frame 9 67; taken = 9; bytes = [] }
unfolding read_of frame_step frame_of
stops = refl
