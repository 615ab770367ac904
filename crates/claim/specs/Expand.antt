-- Lists of steps of something that holds a set, where each step comes to a list of single calls on that set: a string to its bytes.
use Rattle.std.specs.Prelude.{ℕ, List, [], ◌∷◌, ◌++◌}
use Rattle.set.specs.Book.{Call, Book}
use Rattle.set.specs.Event.{Event}
use Rattle.claim.specs.Claim.{book_after}

module _ {Outer Step : Type 0} (next : Step → Outer) where
  -- each step is made on what the one before returned
  abbrev pub History : (Outer → Step → Type 0) → Outer → List Step → Type 0
  History Happened o [] = Unit {0}
  History Happened o (x ∷ xs) = Happened o x × History Happened (next x) xs

  abbrev pub after : Outer → List Step → Outer
  after o [] = o
  after o (x ∷ xs) = after (next x) xs

  -- the single calls that the list comes to
  abbrev pub all_singles : (Outer → Step → List Event) → Outer → List Step → List Event
  all_singles singles o [] = []
  all_singles singles o (x ∷ xs) = singles o x ++ all_singles singles (next x) xs

  -- what the book is told of them, by the steps' arguments alone
  abbrev pub all_calls : (Step → List Call) → List Step → List Call
  all_calls calls_of [] = []
  all_calls calls_of (x ∷ xs) = calls_of x ++ all_calls calls_of xs

  -- what is told of each step, with the book before it
  abbrev pub Each : ℕ → (Step → List Call) → (Outer → Book → Step → Type 0) → Outer → Book → List Step → Type 0
  Each r calls_of P o k [] = Unit {0}
  Each r calls_of P o k (x ∷ xs) = P o k x × Each r calls_of P (next x) (book_after r k (calls_of x)) xs
