-- A list after a list: traces join, and set, book and what is noted over a list are those over its parts. Assumes nothing.
use Prim.Native.Nat.{ℕ}
use mathlib.Core.Path.{◌≡◌, refl}
use mathlib.Core.List.{List, [], ◌∷◌, ◌++◌, map}
use Rattle.set.specs.declared.Set.{Set}
use Rattle.set.specs.Book.{Call, Book, entered}
use Rattle.set.specs.Event.{Event}
use Rattle.claim.specs.Trace.{Trace, set_after}
use Rattle.claim.specs.Claim.{SinceDial, since_next, call_of, book_after, since_after}

pub trace-joined : (s : Set) (es fs : List Event) → Trace s es → Trace (set_after s es) fs → Trace s (es ++ fs)
trace-joined s [] fs t u = u
trace-joined s (e ∷ es) fs (did, t) u = (did, trace-joined e.set es fs t u)

pub set-joined : (s : Set) (es fs : List Event) → set_after s (es ++ fs) ≡ set_after (set_after s es) fs
set-joined s [] fs = refl
set-joined s (e ∷ es) fs = set-joined e.set es fs

pub book-joined : (r : ℕ) (k : Book) (before later : List Call) → book_after r k (before ++ later) ≡ book_after r (book_after r k before) later
book-joined r k [] later = refl
book-joined r k (call ∷ before) later = book-joined r (entered r k call) before later

pub since-joined : (r : ℕ) (k : Book) (h : SinceDial) (es fs : List Event)
    → since_after r k h (es ++ fs) ≡ since_after r (book_after r k (map call_of es)) (since_after r k h es) fs
since-joined r k h [] fs = refl
since-joined r k h (e ∷ es) fs = since-joined r (entered r k e.call) (since_next r k h e) es fs
