-- The bytes that wait are those whose frames are begun with the next samples, and then those that still wait. Assumes nothing.
use Prim.Native.Nat.{ℕ, zero, suc}
use mathlib.Core.Path.{◌≡◌, refl, ◌∙◌}
use mathlib.Core.Bool.{Bool, true, false}
use mathlib.Core.List.{List, ◌++◌, append_assoc}
use Rattle.queue.specs.declared.Queue.{Queue}
use Rattle.queue.specs.Queue.{waiting}
use Rattle.queue.proofs.Waiting.{Whole, some-wait}
use Rattle.sender.specs.declared.Sending.{Sending}
use Rattle.sender.specs.Sender.{Choice, onward, anew, idle, choice_of, chosen, chosen_by, ready_if, next}
use Rattle.sender.specs.Wave.{after}
use Rattle.sender.specs.Symbols.{byte_chosen, byte_at, bytes}
use Rattle.sender.proofs.Edges.{next-is, Found, found}

-- of the bytes that wait, `begun` are begun, and then the queue is q
pub record Left (x : Sending) (begun : List ℕ) (q : Queue) : Type 0 where
  pub bytes : waiting x.queue ≡ begun ++ waiting q
  pub whole : Whole q

chosen-left : (c : Choice) (x : Sending) → Whole x.queue → Found c x → Left x (byte_chosen c x) (chosen_by c x).queue
chosen-left onward x w f = record { bytes = refl; whole = w }
chosen-left anew x w f = let s = some-wait x.queue w f.1 in record { bytes = s.first; whole = s.whole }
chosen-left idle x w f = record { bytes = refl; whole = w }

pub next-left : (x : Sending) → Whole x.queue → Left x (byte_at x.sender.edge x) (next x).queue
unfolding chosen
next-left x w = rw (next-is x) (go x.sender.edge)
  where
    go : (t : Bool) → Left x (byte_at t x) (ready_if t x).queue
    go true = chosen-left (choice_of x) x w (found x)
    go false = record { bytes = refl; whole = w }

pub after-left : (k : ℕ) (x : Sending) → Whole x.queue → Left x (bytes k x) (after k x).queue
unfolding bytes after
after-left zero x w = record { bytes = refl; whole = w }
after-left (suc k) x w =
    let n = next-left x w in
    let rest = after-left k (next x) n.whole in
    record { bytes = n.bytes ∙ rw (rest.bytes, append_assoc); whole = rest.whole }
