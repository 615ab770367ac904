-- 02, E6: "The Rust is compared on lists that hold no S12 line". On such a list every call is answered as before S12, strings by their single bytes, and
-- S12 is 50 after each of them.
use Rattle.std.specs.Prelude.{◌≡◌, Bool, false, List, [], ◌∷◌}
use Rattle.at.specs.Processor.{fresh_s12}
use Rattle.at.specs.Before.{ends_s12_line}
use Rattle.set.specs.declared.Set.{Set}
use Rattle.set.specs.Set.{s12_of, forced, fill, buffer, byte_queued}
use Rattle.set.specs.Before.{typed_before, outbox_before, lapsed_before}
use Rattle.set.specs.Book.{Call, typing, time, forcing, filling, queuing}
use Rattle.set.specs.Event.{Event, typed_event, lapsed_event, forced_event, filled_event, queued_event}
use Rattle.claim.specs.Strings.{Step, History, all_singles}

-- a call that ends an S12 line: its CR
abbrev pub ends_s12 : Set → Call → Bool
ends_s12 s (typing byte carrier room) = ends_s12_line s.processor byte
ends_s12 s (time ns carrier) = false
ends_s12 s forcing = false
ends_s12 s (filling b) = false
ends_s12 s (queuing byte) = false

-- calls that hold none
abbrev pub NoS12Line : Set → List Event → Type 0
NoS12Line s [] = Unit {0}
NoS12Line s (e ∷ es) = (ends_s12 s e.call ≡ false) × NoS12Line e.set es

-- the call as it was before: its set, refusal, reply and count, and what it left of what it was lent
abbrev pub before : Set → Call → Event → Event
before s (typing byte carrier room) e = typed_event s byte carrier e.lent.bytes (outbox_before s byte e.lent.bytes) (typed_before s byte carrier room)
before s (time ns carrier) e = lapsed_event s ns carrier (lapsed_before s ns carrier)
before s forcing e = forced_event s (forced s)
before s (filling b) e = filled_event s e.lent.samples (buffer s e.lent.samples) (fill s b)
before s (queuing byte) e = queued_event s byte (byte_queued s byte)

pub record AsBefore (s : Set) (e : Event) : Type 0 where
  pub answer : e ≡ before s e.call e
  pub s12 : s12_of e.set ≡ fresh_s12

abbrev pub AllAsBefore : Set → List Event → Type 0
AllAsBefore s [] = Unit {0}
AllAsBefore s (e ∷ es) = AsBefore s e × AllAsBefore e.set es

abbrev pub Unset : Set → Type 0
Unset s = (xs : List Step) → History s xs → NoS12Line s (all_singles s xs) → AllAsBefore s (all_singles s xs)
