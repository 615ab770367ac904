-- After ten ones the reader is idle, from any place, and an idle reader gives just the bytes of the frames that follow, while there is room.
-- The ones are walked bit by bit from each place; then frame by frame, by `read-on`. Assumes nothing.
use Prim.Native.Nat.{ℕ, zero, suc, ◌+◌, ◌-◌, ◌≤◌, ◌<◌}
use native.Mathlib.Nat.{not-suc-le-zero, le_of_suc-le-suc}
use native.Mathlib.Omega.{arith}
use mathlib.Core.Bool.{Bool, true}
use mathlib.Core.List.{List, [], ◌∷◌, ◌++◌}
use mathlib.Core.Path.{◌≡◌, refl, sym, ap, ◌∙◌}
use borrow.Author.Tests.{le-ltb, ne_eqb}
use lib.ListN.{length, take, length-append}
use lib.Seq.{take-append-add, take-nil}
use Rattle.frame.specs.Frame.{frame_of, framed}
use Rattle.deframe.specs.declared.Deframer.{Deframer}
use Rattle.deframe.specs.declared.Deframer.TheVariants.{Idle, Frame, Skipping}
use Rattle.deframe.specs.Read.{Read, frame_step, step_of, read_of}
use Rattle.deframe.specs.Calls.{ten_ones, by_ones, AllBytes, none, more, Resumed}
use Rattle.frame.proofs.Bits.{frame-length}
use Rattle.deframe.proofs.Frames.{shifted-data}
use Rattle.deframe.proofs.Parts.{ahead, read-on}

-- ---- ten ones
pub record Quiet (p : Deframer) (room : ℕ) : Type 0 where
  pub idle : read_of room p ten_ones ≡ record { place = Idle; taken = 10; bytes = by_ones p }
  pub few : length (by_ones p) ≤ 1

-- with more than nine bits read, however many, the next bit finds the reader idle
pub past-nine : (n acc : ℕ) → 9 < n → (mark : Bool) → step_of (Frame n acc) mark ≡ step_of Idle mark
unfolding frame_step
past-nine n acc h mark = rw (ne_eqb n 0 (λ e. absurd (omega (arith, e, h))), le-ltb n 9 (omega (arith, h)), ne_eqb n 9 (λ e. absurd (omega (arith, e, h))))

-- and with none
pub none_read : (acc : ℕ) (mark : Bool) → step_of (Frame 0 acc) mark ≡ step_of Idle mark
unfolding frame_step
none_read acc mark = refl

made_up : (n acc room : ℕ) → 9 < n → read_of room (Frame n acc) ten_ones ≡ read_of room Idle ten_ones
unfolding read_of
made_up n acc room h = rw (past-nine n acc h true)

quiet : (p : Deframer) (room : ℕ) → Quiet p (suc room)
unfolding read_of frame_step
quiet Idle room = record { idle = refl; few = omega arith }
quiet Skipping room = record { idle = refl; few = omega arith }
quiet (Frame zero acc) room = record { idle = refl; few = omega arith }
quiet (Frame (suc zero) acc) room = record { idle = refl; few = omega arith }
quiet (Frame (suc (suc zero)) acc) room = record { idle = refl; few = omega arith }
quiet (Frame (suc (suc (suc zero))) acc) room = record { idle = refl; few = omega arith }
quiet (Frame (suc (suc (suc (suc zero)))) acc) room = record { idle = refl; few = omega arith }
quiet (Frame (suc (suc (suc (suc (suc zero))))) acc) room = record { idle = refl; few = omega arith }
quiet (Frame (suc (suc (suc (suc (suc (suc zero)))))) acc) room = record { idle = refl; few = omega arith }
quiet (Frame (suc (suc (suc (suc (suc (suc (suc zero))))))) acc) room = record { idle = refl; few = omega arith }
quiet (Frame (suc (suc (suc (suc (suc (suc (suc (suc zero)))))))) acc) room = record { idle = refl; few = omega arith }
quiet (Frame (suc (suc (suc (suc (suc (suc (suc (suc (suc zero))))))))) acc) room = record { idle = refl; few = omega arith }
quiet (Frame (suc (suc (suc (suc (suc (suc (suc (suc (suc (suc n)))))))))) acc) room =
    record { idle = same (suc room) ∙ sym (ap (λ (r : Read). record { place = Idle; taken = 10; bytes = r.bytes }) (same 1)); few = omega (arith, ap (λ (r : Read). length r.bytes) (same 1)) }
  where
    same : (r : ℕ) → read_of r (Frame (suc (suc (suc (suc (suc (suc (suc (suc (suc (suc n)))))))))) acc) ten_ones ≡ read_of r Idle ten_ones
    same r = made_up (suc (suc (suc (suc (suc (suc (suc (suc (suc (suc n)))))))))) acc r (omega arith)

-- ---- frames, from idle
frame-read : (room b : ℕ) (rest : List Bool) → b < 256 → read_of (suc room) Idle (frame_of b ++ rest) ≡ ahead 10 (b ∷ []) (read_of room Idle rest)
unfolding read_of frame_step frame_of
frame-read room b rest h = rw (shifted-data b h) (ap (λ (n : ℕ). record { place = (read_of room Idle rest).place; taken = n; bytes = b ∷ (read_of room Idle rest).bytes }) (omega arith))

frame-stopped : (b : ℕ) (rest : List Bool) → (read_of zero Idle (frame_of b ++ rest)).bytes ≡ []
unfolding read_of frame_step frame_of
frame-stopped b rest = refl

pub frames-give : (bytes : List ℕ) → AllBytes bytes → (room : ℕ) → (read_of room Idle (framed bytes)).bytes ≡ take room bytes
unfolding framed read_of
frames-give [] none room = sym (take-nil room)
frames-give (b ∷ bytes) (more h all) zero = frame-stopped b (framed bytes)
frames-give (b ∷ bytes) (more h all) (suc room) =
    ap (λ (r : Read). r.bytes) (frame-read room b (framed bytes) h) ∙ ap (λ (l : List ℕ). b ∷ l) (frames-give bytes all room)

pub frames-whole : (bytes : List ℕ) → AllBytes bytes → (room : ℕ) → length bytes ≤ room
    → read_of room Idle (framed bytes) ≡ record { place = Idle; taken = length (framed bytes); bytes = bytes }
unfolding framed read_of
frames-whole [] none room l = refl
frames-whole (b ∷ bytes) (more h all) zero l = absurd (not-suc-le-zero l)
frames-whole (b ∷ bytes) (more h all) (suc room) l =
    frame-read room b (framed bytes) h
    ∙ ap (ahead 10 (b ∷ [])) (frames-whole bytes all room (le_of_suc-le-suc l))
    ∙ ap (λ (n : ℕ). record { place = Idle; taken = n; bytes = b ∷ bytes }) (sym (length-append (frame_of b) (framed bytes) ∙ ap (λ (n : ℕ). n + length (framed bytes)) (frame-length b)))

-- ---- frames after ten ones
few-taken : (room : ℕ) (xs bytes : List ℕ) → length xs ≤ 1 → 1 ≤ room → xs ++ take (room - length xs) bytes ≡ take room (xs ++ bytes)
few-taken room xs bytes few some =
    sym (ap (λ (n : ℕ). take n (xs ++ bytes)) (omega arith) ∙ take-append-add xs bytes (room - length xs))

module _ (p : Deframer) (room : ℕ) (some : 1 ≤ room) where
  at_rest : Quiet p room
  at_rest = go room some
    where
      go : (room : ℕ) → 1 ≤ room → Quiet p room
      go zero h = absurd (not-suc-le-zero h)
      go (suc room) h = quiet p room

  then-frames : (bytes : List ℕ) → read_of room p (ten_ones ++ framed bytes) ≡ ahead 10 (by_ones p) (read_of (room - length (by_ones p)) Idle (framed bytes))
  then-frames bytes =
      read-on room p ten_ones (framed bytes) (ap (λ (r : Read). r.taken) at_rest.idle)
      ∙ ap (λ (r : Read). ahead 10 r.bytes (read_of (room - length r.bytes) r.place (framed bytes))) at_rest.idle

  pub after-ten-ones : Resumed p room
  after-ten-ones =
      record {
        idle = at_rest.idle;
        few = at_rest.few;
        gives = λ bytes all.
            ap (λ (r : Read). r.bytes) (then-frames bytes)
            ∙ ap (λ (l : List ℕ). by_ones p ++ l) (frames-give bytes all (room - length (by_ones p)))
            ∙ few-taken room (by_ones p) bytes at_rest.few some;
        whole = λ bytes all h.
            then-frames bytes
            ∙ ap (ahead 10 (by_ones p)) (frames-whole bytes all (room - length (by_ones p)) (omega (arith, h, length-append (by_ones p) bytes)))
            ∙ ap (λ (n : ℕ). record { place = Idle; taken = n; bytes = by_ones p ++ bytes }) (sym (length-append ten_ones (framed bytes)));
      }
