-- Demand 3 and 01, "The list of demand 3": what is claimed of a list of single calls from a set fresh at the rate r. Strings.antt has the claim.
use Rattle.std.specs.Prelude.{ℕ, ◌+◌, ◌≤◌, ◌<◌, ◌≡◌, Bool, true, false, ◌&&◌, ◌||◌, List, [], ◌∷◌, ◌++◌, map, ◌⊎◌, ◌↔◌, eqb, Float, length, replicate, Option, Some, None}
use Rattle.std.specs.Float.{binary32}
use Rattle.std.specs.Float.Ieee.{to_bits, of_bits}
use Rattle.at.specs.declared.Control.{Control}
use Rattle.at.specs.declared.Control.TheVariants.{Dial, Answer, Hangup}
use Rattle.session.specs.declared.SessionState.{SessionState}
use Rattle.session.specs.declared.SessionState.TheVariants.{Idle, Dialling, Answering, Connected}
use Rattle.schedule.specs.Bounds.{TotalBounds}
use Rattle.passage.specs.Overture.{HasLength}
use Rattle.set.specs.declared.Set.{Set}
use Rattle.refusal.specs.Refusal.{answer_number}
use Rattle.set.specs.Refusals.{Declined}
use Rattle.set.specs.Book.{Call, Book, overture, length_of, Entry, declined, asks, fills, queues, entry_of, declined_with, key_answered, entered}
use Rattle.set.specs.Event.{Event, Unchanged}
use Rattle.claim.specs.Sent.{Sent, nothing_sent, sent_queued, sent_filled}

-- ---- since the last dial line
pub record SinceDial : Type 0 where
  -- a dial line came, and no hang-up, answer or lost carrier since the last one
  pub called : Bool
  -- the buffers filled since that dial line, each as its fill left it, joined; and the sum of their lengths
  pub joined : List Float
  pub lengths : ℕ
  -- the stages that the set showed since, until the line was up; the newest first
  pub stages : List ℕ
  -- an empty fill has come since, at count = T
  pub emptied : Bool
  -- 02, E10: what was queued, and what the sender sent
  pub sent : Sent

abbrev pub not_called : SinceDial
not_called = record { called = false; joined = []; lengths = 0; stages = []; emptied = false; sent = nothing_sent }

abbrev pub with_sent : Sent → SinceDial → SinceDial
with_sent sent h = record { called = h.called; joined = h.joined; lengths = h.lengths; stages = h.stages; emptied = h.emptied; sent = sent }

-- a stage is shown while the line is not up
abbrev pub seen : SessionState → ℕ → List ℕ → List ℕ
seen Idle stage stages = stage ∷ stages
seen Dialling stage stages = stage ∷ stages
seen Answering stage stages = stage ∷ stages
seen Connected stage stages = stages

abbrev pub passed : SessionState → ℕ → SinceDial → SinceDial
passed state stage h =
    record { called = h.called; joined = h.joined; lengths = h.lengths; stages = seen state stage h.stages; emptied = h.emptied; sent = h.sent }

abbrev pub noted_control : Option Control → SessionState → ℕ → SinceDial → SinceDial
noted_control None state stage h = passed state stage h
noted_control (Some Dial) state stage h = record { called = true; joined = []; lengths = 0; stages = seen state stage []; emptied = false; sent = nothing_sent }
noted_control (Some Answer) state stage h = not_called
noted_control (Some Hangup) state stage h = not_called

-- a fill's buffer belongs to the overture while the book is Dialling; 02, E10: in Connected it is the sender's
abbrev pub noted_fill : SessionState → ℕ → ℕ → Book → List Float → SessionState → ℕ → SinceDial → SinceDial
noted_fill Dialling b r k left state stage h =
    record {
      called = h.called;
      joined = h.joined ++ left;
      lengths = h.lengths + b;
      stages = seen state stage h.stages;
      emptied = h.emptied || (eqb b 0 && eqb k.count (length_of k.digits r));
      sent = h.sent;
    }
noted_fill Idle b r k left state stage h = passed state stage h
noted_fill Answering b r k left state stage h = passed state stage h
noted_fill Connected b r k left state stage h = with_sent (sent_filled b k.sending left h.sent) (passed state stage h)

-- by what the call comes to in the book, the book before it, the buffer that it left, and the state and the stage that the set shows after it
abbrev pub noted : Entry → ℕ → Book → List Float → SessionState → ℕ → SinceDial → SinceDial
noted (declined cause) r k left state stage h = passed state stage h
noted (asks control line p) r k left state stage h = noted_control control state stage h
noted (fills b) r k left state stage h = noted_fill k.state b r k left state stage h
noted (queues byte) r k left state stage h = with_sent (sent_queued byte h.sent) (passed state stage h)

abbrev pub since_next : ℕ → Book → SinceDial → Event → SinceDial
since_next r k h e = noted (entry_of k e.call) r k e.left.samples e.set.session.state e.set.session.shown h

-- ---- to go back is a shown stage lower than one shown earlier since the dial line
abbrev pub AllAtMost : ℕ → List ℕ → Type 0
AllAtMost n [] = Unit {0}
AllAtMost n (x ∷ older) = (x ≤ n) × AllAtMost n older

abbrev pub NeverBack : List ℕ → Type 0
NeverBack [] = Unit {0}
NeverBack (x ∷ older) = AllAtMost x older × NeverBack older

-- ---- each call of the list
-- the set reports the book's count as m, and its state and shown stage
pub record Reports (s : Set) (k : Book) : Type 0 where
  pub count : s.session.m ≡ k.count
  pub state : s.session.state ≡ k.state
  pub stage : s.session.shown ≡ k.shown

-- the call is declined with the book's number, never with 6; a declined call changes nothing; then the set reports what the book says. 02, E8: the
-- key answered is the book's: after a fill that is not declined that of the overture's sample m
pub record Answered (r : ℕ) (s : Set) (k : Book) (e : Event) : Type 0 where
  pub number : answer_number e.refusal ≡ declined_with k e.call
  pub sound : answer_number e.refusal ≡ 6 → ⊥
  pub unchanged : Declined e.refusal → Unchanged s e
  pub reports : Reports e.set (entered r k e.call)
  pub key : e.key ≡ key_answered r k e.call

abbrev pub AllAnswered : ℕ → Set → Book → List Event → Type 0
AllAnswered r s k [] = Unit {0}
AllAnswered r s k (e ∷ es) = Answered r s k e × AllAnswered r e.set (entered r k e.call) es

-- ---- after the list
abbrev pub call_of : Event → Call
call_of e = e.call

abbrev pub book_after : ℕ → Book → List Call → Book
book_after r k [] = k
book_after r k (call ∷ calls) = book_after r (entered r k call) calls

abbrev pub since_after : ℕ → Book → SinceDial → List Event → SinceDial
since_after r k h [] = h
since_after r k h (e ∷ es) = since_after r (entered r k e.call) (since_next r k h e) es

abbrev pub bits_of : List Float → List ℕ
bits_of samples = map (to_bits binary32) samples

-- the set s, with m samples of the overture for the digits at the rate r written, T its length
pub record Played (r : ℕ) (s : Set) (digits : List ℕ) (T : ℕ) (h : SinceDial) : Type 0 where
  -- T is the overture's length, and has its bounds
  pub ends : HasLength digits r T
  pub bounds : TotalBounds r (length digits)
  -- the buffers, joined, are the first m samples of the overture, bit for bit, zeros past T; m is the sum of their lengths
  pub samples : bits_of h.joined ≡ bits_of (overture digits r s.session.m)
  pub past : (j : ℕ) → s.session.m ≡ T + j → bits_of h.joined ≡ bits_of (overture digits r T ++ replicate j (of_bits binary32 0))
  pub count : s.session.m ≡ h.lengths
  -- until the line is up, the stage shown never went back
  pub stages : NeverBack h.stages
  -- the line is up exactly when m exceeds T or an empty fill has come since that dial line at m = T
  pub up : (s.session.state ≡ Connected) ↔ ((T < s.session.m) ⊎ (h.emptied ≡ true))
