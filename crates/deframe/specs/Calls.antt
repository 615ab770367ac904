-- 02, E7: what holds of the reader from any place. "From any reader state, after ten ones, frames that follow give exactly their bytes while there is
-- room", and "the bits that several calls took, joined, give the same bytes and place in one call with room for them".
use Rattle.std.specs.Prelude.{ℕ, ◌≤◌, ◌<◌, Bool, true, List, [], ◌∷◌, ◌++◌, ◌≡◌, length, take, replicate}
use Rattle.frame.specs.Frame.{framed}
use Rattle.deframe.specs.declared.Deframer.{Deframer}
use Rattle.deframe.specs.declared.Deframer.TheVariants.{Idle}
use Rattle.deframe.specs.Read.{Read, marks_of, read_of}

-- ---- frames after ten ones
abbrev pub ten_ones : List Bool
ten_ones = replicate 10 true

-- what the ones themselves give: the byte of a frame that was open, or none
abbrev pub by_ones : Deframer → List ℕ
by_ones p = (read_of 1 p ten_ones).bytes

pub data AllBytes : List ℕ → Type 0 where
  none : AllBytes []
  more : {b : ℕ} {bs : List ℕ} → b < 256 → AllBytes bs → AllBytes (b ∷ bs)

pub record Resumed (p : Deframer) (room : ℕ) : Type 0 where
  pub idle : read_of room p ten_ones ≡ record { place = Idle; taken = 10; bytes = by_ones p }
  pub few : length (by_ones p) ≤ 1
  -- while there is room
  pub gives : (bytes : List ℕ) → AllBytes bytes → (read_of room p (ten_ones ++ framed bytes)).bytes ≡ take room (by_ones p ++ bytes)
  -- with room for all
  pub whole : (bytes : List ℕ) → AllBytes bytes → length (by_ones p ++ bytes) ≤ room
      → read_of room p (ten_ones ++ framed bytes) ≡ record { place = Idle; taken = length (ten_ones ++ framed bytes); bytes = by_ones p ++ bytes }

abbrev pub AfterTenOnes : Deframer → Type 0
AfterTenOnes p = (room : ℕ) → 1 ≤ room → Resumed p room

-- ---- several calls, each with bits and a buffer's length, each from the place that the one before left
pub record Lent : Type 0 where
  pub bits : List ℕ
  pub room : ℕ

-- the place after them, the bits that they took, joined, and the bytes
pub record Run : Type 0 where
  pub place : Deframer
  pub took : List ℕ
  pub bytes : List ℕ

abbrev pub call : Deframer → Lent → Read
call p c = read_of c.room p (marks_of c.bits)

abbrev pub after : Lent → Read → Run → Run
after c r run = record { place = run.place; took = take r.taken c.bits ++ run.took; bytes = r.bytes ++ run.bytes }

unfoldable pub run_of : Deframer → List Lent → Run
run_of p [] = record { place = p; took = []; bytes = [] }
run_of p (c ∷ cs) = after c (call p c) (run_of (call p c).place cs)

abbrev pub at_once : Run → Read
at_once run = record { place = run.place; taken = length run.took; bytes = run.bytes }

abbrev pub OneCall : Deframer → Type 0
OneCall p = (calls : List Lent) (room : ℕ) → length (run_of p calls).bytes ≤ room → read_of room p (marks_of (run_of p calls).took) ≡ at_once (run_of p calls)
