-- The bytes sent: the held pluses and then the byte, at the outbox's front; at most four, and counted by the answer.
-- Assumes nothing.
use Prim.Native.Char.{code}
use Prim.Native.Nat.{ℕ, ◌+◌, ◌≤◌, ◌<◌, zero-le}
use native.Mathlib.Numerals.{add-one}
use native.Mathlib.Omega.{arith}
use mathlib.Core.Path.{◌≡◌, refl}
use mathlib.Core.List.{List, ◌++◌, append_assoc}
use mathlib.Core.Bool.{Bool, true, false}
use lib.ListN.{length, drop, set, replicate, length-append, length-replicate}
use lib.Seq.{drop-cons, set_at}
use borrow.Author.Tests.{lt-ltb}
use Rattle.ascii.specs.Front.{put}
use Rattle.ascii.proofs.Front.{put-fits, put-none, put-short}
use Rattle.at.specs.declared.AtProcessor.{AtProcessor}
use Rattle.at.specs.declared.Fed.{Fed}
use Rattle.at.specs.Processor.{command_mode, pluses, sound}
use Rattle.at.specs.Escape.{withheld, pluses_then, released, data_byte}
use Rattle.at.specs.At.{typed_byte_if, typed_byte, sent}
use Rattle.at.proofs.Bytes.{Typed, dropped, ends, grows, waits, sends, declined, typed_byte_lem}
use Rattle.at.proofs.Sound.{parts}

-- the byte stored after the pluses
pub closed : (n byte : ℕ) (was : List ℕ) → n < length was → set (replicate n (code "+") ++ drop n was) n byte ≡ pluses_then n byte ++ drop (n + 1) was
closed n byte was l =
    rw (add-one, drop-cons was n 0, append_assoc) (set_at (replicate n (code "+")) _ _ byte n (length-replicate n (code "+")))

pub length-closed : (n byte : ℕ) → length (pluses_then n byte) ≡ n + 1
length-closed n byte = simp (length-append, length-replicate)

-- the outbox after a byte in data mode: withheld, sent, or with no room for it
module _ (p : AtProcessor) (byte : ℕ) (was : List ℕ) where
  pub outbox-withheld : withheld p byte ≡ true → put (released p byte) was ≡ was
  unfolding released
  outbox-withheld w = rw w (put-none was)

  pub outbox-sent : withheld p byte ≡ false → pluses p < length was → put (released p byte) was ≡ pluses_then (pluses p) byte ++ drop (pluses p + 1) was
  unfolding released
  outbox-sent w l =
      rw (w, put-fits (pluses_then (pluses p) byte) was (rw length-closed (omega arith)), length-closed)

  pub outbox-short : withheld p byte ≡ false → length was ≤ pluses p → put (released p byte) was ≡ was
  unfolding released
  outbox-short w l = rw w (put-short (pluses_then (pluses p) byte) was (rw length-closed (omega arith)))

module _ {p : AtProcessor} {byte : ℕ} {carrier : Bool} {room : ℕ} (held : pluses p ≤ 3) where
  few : {f : Fed} {bytes : List ℕ} → Typed p byte carrier room f bytes → length bytes ≤ 4
  few dropped = zero-le
  few ends = zero-le
  few grows = zero-le
  few (waits w) = zero-le
  few (sends r) = rw length-closed (omega arith)
  few (declined r) = rw length-closed (omega arith)

  counted : {f : Fed} {bytes : List ℕ} → 4 ≤ room → Typed p byte carrier room f bytes → f.sent ≡ length bytes
  counted l dropped = refl
  counted l ends = refl
  counted l grows = refl
  counted l (waits w) = refl
  counted l (sends r) = rw length-closed
  counted l (declined r) = absurd (omega arith)

-- a typed byte sends at most four
pub at-most-four : (p : AtProcessor) (byte : ℕ) → sound p ≡ true → length (sent p byte) ≤ 4
at-most-four p byte e = few (parts p e).ranges.held (typed_byte_lem p byte false 0)

-- with an outbox that 01 does not decline, the answer counts them
pub sent-count : (p : AtProcessor) (byte : ℕ) (carrier : Bool) (room : ℕ) → sound p ≡ true → 4 ≤ room → (typed_byte p byte carrier room).sent ≡ length (sent p byte)
sent-count p byte carrier room e l = counted (parts p e).ranges.held l (typed_byte_lem p byte carrier room)

-- and they stand at its front, the later bytes as they were
pub sent-first : (p : AtProcessor) (byte : ℕ) (was : List ℕ) → sound p ≡ true → 4 ≤ length was → put (sent p byte) was ≡ sent p byte ++ drop (length (sent p byte)) was
sent-first p byte was e l = put-fits (sent p byte) was (omega (arith, at-most-four p byte e))

-- and longer than that its length changes nothing
module _ (p : AtProcessor) (good : sound p ≡ true) (byte : ℕ) (carrier : Bool) (room : ℕ) (l : 4 ≤ room) where
  room_by : (mode : Bool) → typed_byte_if mode p byte carrier room ≡ typed_byte_if mode p byte carrier 4
  unfolding data_byte
  room_by true = refl
  room_by false =
      let held = (parts p good).ranges.held in
      rw (lt-ltb (pluses p) room (omega (arith, held)), lt-ltb (pluses p) 4 (omega (arith, held)))

  pub room-alike : typed_byte p byte carrier room ≡ typed_byte p byte carrier 4
  unfolding typed_byte
  room-alike = room_by (command_mode p)
