-- What is next, by whether the sample is an edge and by what the edge chooses, and what was the case where it chose so. Assumes nothing.
use mathlib.Core.Path.{◌≡◌, refl}
use mathlib.Core.Bool.{Bool, true, false}
use Rattle.queue.specs.Queue.{is_empty}
use Rattle.sender.specs.declared.Sending.{Sending}
use Rattle.sender.specs.Sender.{unfinished, Choice, onward, anew, idle, choice_by, choice_of, ready, ready_if, ticked, next}

-- after the sample that y is ready for
abbrev pub moved : Sending → Sending
moved y = record { sender = ticked y.sender; queue = y.queue }

pub next-is : (x : Sending) → next x ≡ moved (ready_if x.sender.edge x)
unfolding next ready
next-is x = refl

abbrev pub Found : Choice → Sending → Type 0
Found onward x = unfinished x.sender.begun ≡ true
Found anew x = (unfinished x.sender.begun ≡ false) × (is_empty x.queue ≡ false)
Found idle x = (unfinished x.sender.begun ≡ false) × (is_empty x.queue ≡ true)

pub found : (x : Sending) → Found (choice_of x) x
unfolding choice_of
found x = go (unfinished x.sender.begun) (is_empty x.queue) refl refl
  where
    go : (u e : Bool) → unfinished x.sender.begun ≡ u → is_empty x.queue ≡ e → Found (choice_by u e) x
    go true e p q = p
    go false false p q = (p, q)
    go false true p q = (p, q)
