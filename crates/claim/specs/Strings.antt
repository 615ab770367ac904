-- Demand 3 with 02, E3 and E10: the claim about every list of calls, strings among them. "A macro in the middle of a list of calls counts as its single
-- bytes for the overture's wave, a declined one as none."
use Rattle.std.specs.Prelude.{ℕ, ◌≡◌, Bool, true, List, [], ◌∷◌, ◌++◌, map, length, take, Result}
use Rattle.reply.specs.Codes.{first_of, second_of}
use Rattle.queue.specs.Queue.{waiting}
use Rattle.set.specs.declared.Set.{Set}
use Rattle.refusal.specs.declared.Refusal.{Refusal}
use Rattle.set.specs.declared.TypedAll.{TypedAll}
use Rattle.refusal.specs.Refusal.{answer_number}
use Rattle.set.specs.Refusals.{Checked, Declined, if_accepted}
use Rattle.set.specs.Set as set
use Rattle.set.specs.String.{four, cause_by_lengths, at_front}
use Rattle.set.specs.Book.{Call, typing, Book, blank, length_of}
use Rattle.set.specs.Event.{Event, typed_event, StringEvent, string_event, StringUnchanged}
use Rattle.set.specs.Promises.{IsTypedAll}
use Rattle.claim.specs.Trace.{Did, Trace, set_after}
use Rattle.claim.specs.Expand as expand
use Rattle.claim.specs.Sent.{Sends}
use Rattle.claim.specs.Claim.{not_called, Reports, Answered, AllAnswered, book_after, since_after, Played}

pub data Step : Type 0 where
  single : (e : Event) → Step
  string : (e : StringEvent) → Step

abbrev pub set_of : Step → Set
set_of (single e) = e.set
set_of (string e) = e.set

-- the step is a call on the set s, which did what its contract promises
pub data Happened (s : Set) : Step → Type 0 where
  called : (e : Event) → Did s e → Happened s (single e)
  typed_all : (bytes : List ℕ) (carrier : Bool) (was left codes codes_left : List ℕ) (answer : Result TypedAll Refusal)
      → IsTypedAll s bytes carrier was left codes codes_left answer
      → Happened s (string (string_event s bytes carrier was left codes codes_left answer))

-- each is made on the set that the one before returned
abbrev pub History : Set → List Step → Type 0
History s xs = expand.History set_of Happened s xs

abbrev pub last_set : Set → List Step → Set
last_set s xs = expand.after set_of s xs

-- ---- what it counts as: its single bytes, each with an outbox of four; a declined string as none
-- by the arguments alone; 6 cannot come
abbrev pub cause_of : StringEvent → Checked
cause_of e = cause_by_lengths true (length e.bytes) (length e.outbox) (length e.codes)

abbrev pub typed_singly : Set → List ℕ → Bool → List Event
typed_singly s [] carrier = []
typed_singly s (byte ∷ bytes) carrier =
    typed_event s byte carrier four (set.outbox s byte four) (set.typed s byte carrier 4)
    ∷ typed_singly (set.set_typed s (set.typed s byte carrier 4)) bytes carrier

abbrev pub singles : Set → Step → List Event
singles s (single e) = e ∷ []
singles s (string e) = if_accepted (cause_of e) (typed_singly s e.bytes e.carrier) []

-- the bytes that single calls sent, in order; and three places a call: its codes and, 02, E6, the S12 after it
abbrev pub sent_in : List Event → List ℕ
sent_in [] = []
sent_in (e ∷ es) = take e.sent e.left.bytes ++ sent_in es

abbrev pub codes_in : List Event → List ℕ
codes_in [] = []
codes_in (e ∷ es) = first_of e.reply ∷ second_of e.reply ∷ set.s12_of e.set ∷ codes_in es

abbrev pub all_singles : Set → List Step → List Event
all_singles s xs = expand.all_singles set_of singles s xs

-- what the book is told of it, by the arguments alone
abbrev pub typings : List ℕ → Bool → List Call
typings bytes carrier = map (λ (byte : ℕ). typing byte carrier 4) bytes

abbrev pub calls_of : Step → List Call
calls_of (single e) = e.call ∷ []
calls_of (string e) = if_accepted (cause_of e) (typings e.bytes e.carrier) []

abbrev pub all_calls : List Step → List Call
all_calls xs = expand.all_calls set_of calls_of xs

-- ---- each step of the list
-- a string is declined with its arguments' number, 8 or 9, never with 6; a declined one changes nothing; each byte of another is answered as a
-- call; then the set reports what the book says after all of them
pub record StringAnswered (r : ℕ) (s : Set) (k : Book) (e : StringEvent) : Type 0 where
  pub number : answer_number e.refusal ≡ answer_number (cause_of e)
  pub sound : answer_number e.refusal ≡ 6 → ⊥
  pub unchanged : Declined e.refusal → StringUnchanged s e
  pub bytes : AllAnswered r s k (singles s (string e))
  -- bytes sent in order, count, and codes are those of the single calls; what was lent past them keeps its contents
  pub outbox : e.outbox_left ≡ at_front (sent_in (singles s (string e))) e.outbox
  pub sent : e.sent ≡ length (sent_in (singles s (string e)))
  pub codes : e.codes_left ≡ at_front (codes_in (singles s (string e))) e.codes
  pub reports : Reports e.set (book_after r k (calls_of (string e)))

abbrev pub StepAnswered : ℕ → Set → Book → Step → Type 0
StepAnswered r s k (single e) = Answered r s k e
StepAnswered r s k (string e) = StringAnswered r s k e

abbrev pub AllStepsAnswered : ℕ → Set → Book → List Step → Type 0
AllStepsAnswered r s k xs = expand.Each set_of r calls_of (StepAnswered r) s k xs

-- ---- the claim about a set s that is fresh: whatever the list of calls from it
pub record Holds (s : Set) (xs : List Step) : Type 0 where
  pub answered : AllStepsAnswered s.rate s (blank s.rate) xs
  -- the single calls are a list of calls too, and lead to the same set
  pub singly : Trace s (all_singles s xs)
  pub same : set_after s (all_singles s xs) ≡ last_set s xs
  pub played :
      (since_after s.rate (blank s.rate) not_called (all_singles s xs)).called ≡ true
      → Played s.rate (last_set s xs) (book_after s.rate (blank s.rate) (all_calls xs)).digits
      (length_of (book_after s.rate (blank s.rate) (all_calls xs)).digits s.rate)
      (since_after s.rate (blank s.rate) not_called (all_singles s xs))
  -- 02, E10: whether the line is up or not
  pub sent :
      Sends s.rate (waiting (last_set s xs).sending.queue) (since_after s.rate (blank s.rate) not_called (all_singles s xs)).sent

abbrev pub Claim : Set → Type 0
Claim s = (xs : List Step) → History s xs → Holds s xs
