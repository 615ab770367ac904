-- The chip that a table stands for, around a set that follows the table's book: what it reads, what a read leaves, and what it is when the set moved on.
-- The text's part is by the laws of `uart`. Assumes nothing.
use Prim.Native.Nat.{ℕ, zero, suc, ◌≤◌, ◌<◌}
use native.Mathlib.Omega.{arith}
use mathlib.Core.Path.{◌≡◌, refl}
use mathlib.Core.Bool.{Bool, true}
use lib.ListN.{length}
use borrow.Author.Tests.{le-leb}
use Rattle.queue.specs.Queue.{queue_ok}
use Rattle.reply.specs.declared.Reply.{Reply}
use Rattle.set.specs.declared.Set.{Set}
use Rattle.set.specs.Sound as soundness
use Rattle.set.specs.Book.{Book}
use Rattle.set.proofs.Follows.{Follows}
use Rattle.uart.specs.declared.Chip.{Chip}
use Rattle.uart.specs.Inbox.{text_of_reply}
use Rattle.uart.specs.Registers.{value_at}
use Rattle.uart.specs.Chip.{sound, moved, value_of, chip_after}
use Rattle.uart.proofs.Waiting.{inbox_of, received-of, popped-text, fewer, oldest-text}
use Rattle.wired.specs.Table.{Table, value_in, after_read, moved_on}

abbrev pub stands : Set → Table → Chip
stands s t = record { set = s; registers = t.registers; inbox = inbox_of t.text t.overrun }

-- above 7 nothing is read, and nothing changes
pub beyond : (t : Table) (address : ℕ) → 7 < address → (value_in t address ≡ 0) × (after_read t address ≡ t)
unfolding value_at after_read
beyond t zero l = absurd (let z : ⊥ = omega arith in z)
beyond t (suc zero) l = absurd (let z : ⊥ = omega arith in z)
beyond t (suc (suc zero)) l = absurd (let z : ⊥ = omega arith in z)
beyond t (suc (suc (suc zero))) l = absurd (let z : ⊥ = omega arith in z)
beyond t (suc (suc (suc (suc zero)))) l = absurd (let z : ⊥ = omega arith in z)
beyond t (suc (suc (suc (suc (suc zero))))) l = absurd (let z : ⊥ = omega arith in z)
beyond t (suc (suc (suc (suc (suc (suc zero)))))) l = absurd (let z : ⊥ = omega arith in z)
beyond t (suc (suc (suc (suc (suc (suc (suc zero))))))) l = absurd (let z : ⊥ = omega arith in z)
beyond t (suc (suc (suc (suc (suc (suc (suc (suc n)))))))) l = (refl, refl)

module _ (r : ℕ) (s : Set) (t : Table) (follows : Follows r t.book s) (few : length t.text ≤ 256) where
  pub sound-stands : soundness.sound s ≡ true → sound (stands s t) ≡ true
  unfolding sound queue_ok
  sound-stands ok = rw (ok, le-leb (length t.text) 256 few)

  -- ---- a read
  pub value-stands : (address : ℕ) → value_of (stands s t) address ≡ value_in t address
  value-stands address = rw (follows.state, oldest-text t.text)

  pub read-stands : (address : ℕ) → chip_after (stands s t) address ≡ stands s (after_read t address)
  unfolding chip_after after_read
  read-stands zero = rw (popped-text t.text few)
  read-stands (suc zero) = refl
  read-stands (suc (suc zero)) = refl
  read-stands (suc (suc (suc zero))) = refl
  read-stands (suc (suc (suc (suc zero)))) = refl
  read-stands (suc (suc (suc (suc (suc zero))))) = refl
  read-stands (suc (suc (suc (suc (suc (suc zero)))))) = refl
  read-stands (suc (suc (suc (suc (suc (suc (suc zero))))))) = refl
  read-stands (suc (suc (suc (suc (suc (suc (suc (suc n)))))))) = refl

  -- a read never reaches the set, and no more text waits after it
  pub read_keeps : (address : ℕ) → ((after_read t address).book ≡ t.book) × (length (after_read t address).text ≤ 256)
  unfolding after_read
  read_keeps zero = (refl, fewer t.text few)
  read_keeps (suc zero) = (refl, few)
  read_keeps (suc (suc zero)) = (refl, few)
  read_keeps (suc (suc (suc zero))) = (refl, few)
  read_keeps (suc (suc (suc (suc zero)))) = (refl, few)
  read_keeps (suc (suc (suc (suc (suc zero))))) = (refl, few)
  read_keeps (suc (suc (suc (suc (suc (suc zero)))))) = (refl, few)
  read_keeps (suc (suc (suc (suc (suc (suc (suc zero))))))) = (refl, few)
  read_keeps (suc (suc (suc (suc (suc (suc (suc (suc n)))))))) = (refl, few)

  -- ---- the set moved on
  pub moved-stands : (next : Set) (k : Book) (reply : Reply) (flag : Bool) → Follows r k next
      → moved (stands s t) next reply flag ≡ stands next (moved_on t k reply flag)
  moved-stands next k reply flag on =
      rw (follows.state, on.state, on.processor, received-of (text_of_reply reply k.processor.s12) t.text t.overrun few)
