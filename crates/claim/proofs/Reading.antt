-- Demand 3 read off the contract of `start`, each part at its full strength, so that a contract or a claim that says less is refused here: of
-- every call of a list what it answers, of a string what it counts as, and at the list's end what came of the dial line. Assumes nothing.
use Prim.Native.Nat.{ℕ, ◌+◌, ◌≤◌, ◌<◌}
use mathlib.Core.Path.{◌≡◌, refl, sym, subst}
use mathlib.Core.Bool.{Bool, true, false}
use mathlib.Core.List.{List, [], ◌∷◌, ◌++◌, map}
use mathlib.Core.Logic.{◌⊎◌, ◌↔◌}
use lib.Ieee.{Float, binary32, to_bits, of_bits}
use lib.ListN.{length, replicate, take}
use borrow.Author.Tests.{le-ltb}
use Rattle.std.specs.Prelude.{Some, None}
use Rattle.reply.specs.declared.Reply.TheVariants as reply
use Rattle.at.specs.declared.AtProcessor.{AtProcessor}
use Rattle.at.specs.declared.Control.TheVariants.{Dial}
use Rattle.at.specs.Before.{ends_s12_line}
use Rattle.session.specs.declared.SessionState.{SessionState}
use Rattle.session.specs.declared.SessionState.TheVariants.{Idle, Dialling, Answering, Connected}
use Rattle.schedule.specs.Bounds.{TotalBounds}
use Rattle.passage.specs.Overture.{HasLength}
use Rattle.sender.specs.Symbols.{bits_of, symbols}
use Rattle.sender.specs.Carries.{Carries}
use Rattle.sender.specs.Sounds.{Sounds, fresh_keying}
use Rattle.set.specs.declared.Set.{Set}
use Rattle.set.specs.declared.Made.{Made}
use Rattle.set.specs.declared.Typed.{Typed}
use Rattle.set.specs.declared.Lapsed.{Lapsed}
use Rattle.set.specs.declared.Filled.{Filled}
use Rattle.std.specs.Prelude.{Result}
use Rattle.refusal.specs.declared.Refusal.{Refusal}
use Rattle.refusal.specs.Refusal.{answer_number}
use Rattle.set.specs.Set.{s12_of, made}
use Rattle.set.specs.Before.{typed_before, outbox_before, lapsed_before}
use Rattle.set.specs.String.{at_front}
use Rattle.set.specs.Book.{Book, declined, asks, queues, entry_of, blank, overture, length_of, declined_with, key_answered, entered}
use Rattle.set.specs.Event.{Event, typed_event, lapsed_event, forced_event, filled_event, queued_event, Unchanged, StringEvent, StringUnchanged}
use Rattle.claim.specs.Trace.{Trace, set_after}
use Rattle.claim.specs.Sent.{Sent}
use Rattle.claim.specs.Claim.{SinceDial, not_called, noted_fill, noted, AllAtMost, NeverBack, Reports, Answered, AllAnswered, book_after, since_next, since_after, Played}
use Rattle.claim.specs.Strings.{Step, single, string, set_of, History, last_set, cause_of, singles, sent_in, codes_in, all_singles, calls_of, all_calls, StringAnswered, StepAnswered, AllStepsAnswered, Claim}
use Rattle.claim.specs.Before.{NoS12Line, AsBefore, AllAsBefore}
use Rattle.claim.proofs.Joined.{book-joined}
use Rattle.claim.proofs.start.Reads as start

-- a step in the middle of a list
at-step : (r : ℕ) (s : Set) (k : Book) (xs : List Step) (x : Step) (later : List Step) → AllStepsAnswered r s k (xs ++ x ∷ later)
    → StepAnswered r (last_set s xs) (book_after r k (all_calls xs)) x
at-step r s k [] x later (answered, rest) = answered
at-step r s k (y ∷ xs) x later (answered, rest) =
    subst (λ (k : Book). StepAnswered r (last_set (set_of y) xs) k x) (sym (book-joined r k (calls_of y) (all_calls xs)))
    (at-step r (set_of y) (book_after r k (calls_of y)) xs x later rest)

-- 02, E6: and a single call
at_call : (s : Set) (es : List Event) (e : Event) (later : List Event) → AllAsBefore s (es ++ e ∷ later) → AsBefore (set_after s es) e
at_call s [] e later (as_before, rest) = as_before
at_call s (x ∷ es) e later (as_before, rest) = at_call x.set es e later rest

-- a list holds no S12 line unless a typed byte ends one
pub typing-holds-none : (s t : Set) (byte : ℕ) (carrier : Bool) (was left : List ℕ) (a : Result Typed Refusal) → ends_s12_line s.processor byte ≡ false
    → NoS12Line s (typed_event t byte carrier was left a ∷ [])
typing-holds-none s t byte carrier was left a none = (none, tt)

pub others-hold-none : (s t u v w : Set) (ns : ℕ) (carrier : Bool) (a : Result Lapsed Refusal) (f : Result Set Refusal) (was left : List Float) (b : Result Filled Refusal) (byte : ℕ) (q : Result Set Refusal)
    → NoS12Line s (lapsed_event t ns carrier a ∷ forced_event u f ∷ filled_event v was left b ∷ queued_event w byte q ∷ [])
others-hold-none s t u v w ns carrier a f was left b byte q = (refl, (refl, (refl, (refl, tt))))

-- of two stages shown the newer is not the lower one
not_lower : (newer : List ℕ) (y : ℕ) (between : List ℕ) (x : ℕ) (older : List ℕ) → NeverBack (newer ++ y ∷ between ++ x ∷ older) → x ≤ y
not_lower [] y between x older (most, rest) = at_most between most
  where
    at_most : (between : List ℕ) → AllAtMost y (between ++ x ∷ older) → x ≤ y
    at_most [] (le, rest) = le
    at_most (z ∷ between) (le, rest) = at_most between rest
not_lower (z ∷ newer) y between x older (most, rest) = not_lower newer y between x older rest

-- from the set that `start` hands out
module _ (rate : ℕ) (answer : Made) (d : start.Learnt tt (rate, tt) answer (rate, tt)) where
  abbrev s : Set
  s = answer.set

  pub starts : answer ≡ made rate
  starts = d.0

  claim : Claim s
  claim = d.1.0

  -- 02, E6: the first call of a list that holds no S12 line is answered as before S12, and leaves 50; and so on, call by call
  pub without-s12 : (xs : List Step) → History s xs → NoS12Line s (all_singles s xs) → AllAsBefore s (all_singles s xs)
  without-s12 = d.1.1

  -- each of its calls, a typed byte and a lapse in full
  module _ (xs : List Step) (t : History s xs) (none : NoS12Line s (all_singles s xs)) (es later : List Event) where
    as_before : (e : Event) → all_singles s xs ≡ es ++ e ∷ later → AsBefore (set_after s es) e
    as_before e cut = at_call s es e later (subst (AllAsBefore s) cut (without-s12 xs t none))

    pub typed-before-s12 : (byte : ℕ) (carrier : Bool) (was left : List ℕ) (a : Result Typed Refusal)
        → all_singles s xs ≡ es ++ typed_event (set_after s es) byte carrier was left a ∷ later
        → typed_event (set_after s es) byte carrier was left a
        ≡ typed_event (set_after s es) byte carrier was (outbox_before (set_after s es) byte was) (typed_before (set_after s es) byte carrier (length was))
    typed-before-s12 byte carrier was left a cut = (as_before _ cut).answer

    pub lapsed-before-s12 : (ns : ℕ) (carrier : Bool) (a : Result Lapsed Refusal) → all_singles s xs ≡ es ++ lapsed_event (set_after s es) ns carrier a ∷ later
        → lapsed_event (set_after s es) ns carrier a ≡ lapsed_event (set_after s es) ns carrier (lapsed_before (set_after s es) ns carrier)
    lapsed-before-s12 ns carrier a cut = (as_before _ cut).answer

    pub leaves-50 : (e : Event) → all_singles s xs ≡ es ++ e ∷ later → s12_of e.set ≡ 50
    leaves-50 e cut = (as_before e cut).s12

  module _ (xs : List Step) (e : Event) (later : List Step) (t : History s (xs ++ single e ∷ later)) where
    abbrev before : Book
    before = book_after s.rate (blank s.rate) (all_calls xs)

    answered : Answered s.rate (last_set s xs) before e
    answered = at-step s.rate s (blank s.rate) xs (single e) later (claim (xs ++ single e ∷ later) t).answered

    pub number_is : answer_number e.refusal ≡ declined_with before e.call
    number_is = answered.number

    pub never-unsound : answer_number e.refusal ≡ 6 → ⊥
    never-unsound = answered.sound

    module _ (declined : answer_number e.refusal ≡ 0 → ⊥) where
      unchanged : Unchanged (last_set s xs) e
      unchanged = answered.unchanged declined

      pub declined-set : e.set ≡ last_set s xs
      declined-set = unchanged.set

      pub declined-lent : e.left ≡ e.lent
      declined-lent = unchanged.lent

      pub declined-reply : e.reply ≡ reply.None
      declined-reply = unchanged.reply

      pub declined-sent : e.sent ≡ 0
      declined-sent = unchanged.sent

      pub declined-key : e.key ≡ None
      declined-key = unchanged.key

    abbrev after : Book
    after = entered s.rate before e.call

    reports : Reports e.set after
    reports = answered.reports

    pub reports-count : e.set.session.m ≡ after.count
    reports-count = reports.count

    pub reports-state : e.set.session.state ≡ after.state
    reports-state = reports.state

    pub reports-stage : e.set.session.shown ≡ after.shown
    reports-stage = reports.stage

    pub key-is : e.key ≡ key_answered s.rate before e.call
    key-is = answered.key

  -- a string: in limits it counts as its bytes
  module _ (xs : List Step) (e : StringEvent) (later : List Step) (t : History s (xs ++ string e ∷ later)) where
    abbrev string-before : Book
    string-before = book_after s.rate (blank s.rate) (all_calls xs)

    string-answered : StringAnswered s.rate (last_set s xs) string-before e
    string-answered = at-step s.rate s (blank s.rate) xs (string e) later (claim (xs ++ string e ∷ later) t).answered

    pub string-number-is : answer_number e.refusal ≡ answer_number (cause_of e)
    string-number-is = string-answered.number

    pub string-never-unsound : answer_number e.refusal ≡ 6 → ⊥
    string-never-unsound = string-answered.sound

    pub bytes-answered : AllAnswered s.rate (last_set s xs) string-before (singles (last_set s xs) (string e))
    bytes-answered = string-answered.bytes

    pub string-outbox : e.outbox_left ≡ at_front (sent_in (singles (last_set s xs) (string e))) e.outbox
    string-outbox = string-answered.outbox

    pub string-sent : e.sent ≡ length (sent_in (singles (last_set s xs) (string e)))
    string-sent = string-answered.sent

    pub string-codes : e.codes_left ≡ at_front (codes_in (singles (last_set s xs) (string e))) e.codes
    string-codes = string-answered.codes

    module _ (declined : answer_number e.refusal ≡ 0 → ⊥) where
      string-unchanged : StringUnchanged (last_set s xs) e
      string-unchanged = string-answered.unchanged declined

      pub declined-string-set : e.set ≡ last_set s xs
      declined-string-set = string-unchanged.set

      pub declined-string-outbox : e.outbox_left ≡ e.outbox
      declined-string-outbox = string-unchanged.outbox

      pub declined-string-codes : e.codes_left ≡ e.codes
      declined-string-codes = string-unchanged.codes

      pub declined-string-sent : e.sent ≡ 0
      declined-string-sent = string-unchanged.sent

    string-reports : Reports e.set (book_after s.rate string-before (calls_of (string e)))
    string-reports = string-answered.reports

    pub string-reports-count : e.set.session.m ≡ (book_after s.rate string-before (calls_of (string e))).count
    string-reports-count = string-reports.count

    pub string-reports-state : e.set.session.state ≡ (book_after s.rate string-before (calls_of (string e))).state
    string-reports-state = string-reports.state

    pub string-reports-stage : e.set.session.shown ≡ (book_after s.rate string-before (calls_of (string e))).shown
    string-reports-stage = string-reports.stage

  -- a list with strings is one without, that leads to the same set
  module _ (xs : List Step) (t : History s xs) where
    pub counts-singly : Trace s (all_singles s xs)
    counts-singly = (claim xs t).singly

    pub same_set : set_after s (all_singles s xs) ≡ last_set s xs
    same_set = (claim xs t).same

    -- 02, E10: what was queued and what was sent
    abbrev sent : Sent
    sent = (since_after s.rate (blank s.rate) not_called (all_singles s xs)).sent

    pub bytes-sent : sent.queued ≡ sent.begun ++ take (last_set s xs).sending.queue.len (last_set s xs).sending.queue.bytes
    bytes-sent = (claim xs t).sent.bytes

    pub bits-carry : Carries sent.symbols sent.begun
    bits-carry = (claim xs t).sent.bits

    pub buffers-sound : Sounds (fresh_keying s.rate) (bits_of sent.symbols) sent.filled
    buffers-sound = (claim xs t).sent.samples

  module _ (xs : List Step) (t : History s xs) (called : (since_after s.rate (blank s.rate) not_called (all_singles s xs)).called ≡ true) where
    abbrev digits : List ℕ
    digits = (book_after s.rate (blank s.rate) (all_calls xs)).digits

    abbrev T : ℕ
    T = length_of digits s.rate

    abbrev last : Set
    last = last_set s xs

    abbrev since : SinceDial
    since = since_after s.rate (blank s.rate) not_called (all_singles s xs)

    played : Played s.rate last digits T since
    played = (claim xs t).played called

    pub has-length : HasLength digits s.rate T
    has-length = played.ends

    pub in_bounds : TotalBounds s.rate (length digits)
    in_bounds = played.bounds

    pub first-samples : map (to_bits binary32) since.joined ≡ map (to_bits binary32) (overture digits s.rate last.session.m)
    first-samples = played.samples

    pub zeros-past-T : (j : ℕ) → last.session.m ≡ T + j
        → map (to_bits binary32) since.joined ≡ map (to_bits binary32) (overture digits s.rate T ++ replicate j (of_bits binary32 0))
    zeros-past-T = played.past

    pub sum-of-lengths : last.session.m ≡ since.lengths
    sum-of-lengths = played.count

    pub never_back : (newer : List ℕ) (y : ℕ) (between : List ℕ) (x : ℕ) (older : List ℕ) → since.stages ≡ newer ++ y ∷ between ++ x ∷ older → x ≤ y
    never_back newer y between x older e = not_lower newer y between x older (subst NeverBack e played.stages)

    pub up-exactly : (last.session.state ≡ Connected) ↔ ((T < last.session.m) ⊎ (since.emptied ≡ true))
    up-exactly = played.up

-- while the book is Dialling and the line is not up, each call's stage is noted: after a dial line alone, after any other call before the older ones
module _ (r : ℕ) (k : Book) (left : List Float) (stage : ℕ) (h : SinceDial) where
  pub fill-noted : (state : SessionState) (b : ℕ) → (noted_fill state b r k left Dialling stage h).stages ≡ stage ∷ h.stages
  fill-noted Idle b = refl
  fill-noted Dialling b = refl
  fill-noted Answering b = refl
  fill-noted Connected b = refl

  pub call-noted : (line : List ℕ) (p : AtProcessor) → (noted (asks None line p) r k left Dialling stage h).stages ≡ stage ∷ h.stages
  call-noted line p = refl

  pub declined-noted : (cause : Refusal) → (noted (declined cause) r k left Dialling stage h).stages ≡ stage ∷ h.stages
  declined-noted cause = refl

  pub queued-noted : (byte : ℕ) → (noted (queues byte) r k left Dialling stage h).stages ≡ stage ∷ h.stages
  queued-noted byte = refl

  pub dial-noted : (line : List ℕ) (p : AtProcessor) → (noted (asks (Some Dial) line p) r k left Dialling stage h).stages ≡ stage ∷ []
  dial-noted line p = refl

  -- of a fill the buffer is noted as it was left: with the overture's in Dialling, and, 02, E10, with the sender's in Connected, beside the symbols begun
  pub fill-joined : (state : SessionState) (b : ℕ) → (noted_fill Dialling b r k left state stage h).joined ≡ h.joined ++ left
  fill-joined state b = refl

  pub fill-sent : (state : SessionState) (b : ℕ) → (noted_fill Connected b r k left state stage h).sent.filled ≡ h.sent.filled ++ left
  fill-sent state b = refl

  pub fill_begins : (state : SessionState) (b : ℕ) → (noted_fill Connected b r k left state stage h).sent.symbols ≡ h.sent.symbols ++ symbols b k.sending
  fill_begins state b = refl

  -- and a byte where it is queued
  pub byte-queued : (state : SessionState) (byte : ℕ) → (noted (queues byte) r k left state stage h).sent.queued ≡ h.sent.queued ++ (byte ∷ [])
  byte-queued state byte = refl

-- and of a fill's event it is what the lent buffer holds at the call's exit, whatever that is: it joins the overture's in Dialling, and, 02, E10, the
-- sender's in Connected
module _ (r : ℕ) (s : Set) (k : Book) (h : SinceDial) (was left : List Float) (few : length was ≤ 65536) (a : Result Filled Refusal) where
  pub exit-joined : k.state ≡ Dialling → (since_next r k h (filled_event s was left a)).joined ≡ h.joined ++ left
  unfolding entry_of
  exit-joined dialling = rw (le-ltb 65536 (length was) few, dialling)

  pub exit-length : k.state ≡ Dialling → (since_next r k h (filled_event s was left a)).lengths ≡ h.lengths + length was
  unfolding entry_of
  exit-length dialling = rw (le-ltb 65536 (length was) few, dialling)

  pub exit-sent : k.state ≡ Connected → (since_next r k h (filled_event s was left a)).sent.filled ≡ h.sent.filled ++ left
  unfolding entry_of
  exit-sent connected = rw (le-ltb 65536 (length was) few, connected)
