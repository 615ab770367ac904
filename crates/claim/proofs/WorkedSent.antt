-- 02, E10: the worked list goes on: with the line up A and B are queued, and one sample is filled. Both were queued and B waits, so that by the claim
-- A's frame is begun; m stays T. What was queued is told by the calls alone, and the book's sender is computed. Assumes nothing.
use Prim.Native.Nat.{ℕ, suc, ◌-◌}
use mathlib.Core.Path.{◌≡◌, refl, sym, ap, subst, ◌∙◌}
use mathlib.Core.Bool.{Bool, true, false}
use mathlib.Core.List.{List, [], ◌∷◌, ◌++◌, map, map-append}
use lib.Dec.{ltb}
use lib.Ieee.{Float}
use Rattle.ascii.specs.Upper.{upper}
use Rattle.frame.specs.Frame.{frame_of}
use Rattle.keys.specs.Keys.{digits_of, keys_of, is_key, key_row}
use Rattle.command.specs.Line as line
use Rattle.command.specs.Line.{uppercased}
use Rattle.command.specs.Command.{begins, is, command_of}
use Rattle.at.specs.declared.AtProcessor.{AtProcessor}
use Rattle.std.specs.Prelude.{Option, Some, None}
use Rattle.at.specs.declared.Control.{Control}
use Rattle.at.specs.declared.Control.TheVariants.{Dial, Answer, Hangup}
use Rattle.at.specs.Processor.{added}
use Rattle.at.specs.Command.{executed}
use Rattle.at.specs.Escape.{withheld, data_byte, escaped, waited}
use Rattle.at.specs.Carrier.{polled, down_for}
use Rattle.at.specs.At.{ended, command_byte, typed_byte, lapse}
use Rattle.session.specs.declared.SessionState.{SessionState}
use Rattle.session.specs.declared.SessionState.TheVariants.{Idle, Dialling, Answering, Connected}
use Rattle.soundness.specs.Sound.{rate_ok}
use Rattle.queue.specs.Queue.{waiting, pushed, oldest, popped}
use Rattle.sender.specs.declared.Sending.{Sending}
use Rattle.sender.specs.Sender.{fresh_sender, fresh_sending, choice_of, chosen, ready, next, queued}
use Rattle.sender.specs.Wave.{after}
use Rattle.set.specs.declared.Set.{Set}
use Rattle.set.specs.Refusals.{cause_of_fill, accepted, either}
use Rattle.set.specs.Set.{fresh_set}
use Rattle.set.specs.Book.{Call, filling, queuing, Book, blank, Entry, declined, asks, fills, queues, unless_declined, entry_of, entered}
use Rattle.set.specs.Event.{Event}
use Rattle.claim.specs.Claim.{SinceDial, not_called, noted_control, noted_fill, noted, call_of, book_after, since_after}
use Rattle.claim.specs.Strings.{Step, single, string, set_of, History, last_set, cause_of, typed_singly, singles, all_singles, typings, calls_of, all_calls}
use Rattle.claim.proofs.Sent.{sends}
use Rattle.claim.proofs.Joined.{book-joined}
use Rattle.claim.proofs.Strings.{singly-calls, fresh-runs}
use Rattle.claim.proofs.Lists.{all_asked, every-list}
use Rattle.claim.proofs.Worked as worked
use Rattle.claim.proofs.Worked.{T, At, calls, acts, lending_zeros, worked-book}

-- ---- what was queued since the last dial line, answer or hang-up, by the calls alone
abbrev queued_for : Option Control → List ℕ → List ℕ
queued_for None bytes = bytes
queued_for (Some Dial) bytes = []
queued_for (Some Answer) bytes = []
queued_for (Some Hangup) bytes = []

abbrev queued_by : Entry → List ℕ → List ℕ
queued_by (declined cause) bytes = bytes
queued_by (asks control line p) bytes = queued_for control bytes
queued_by (fills b) bytes = bytes
queued_by (queues byte) bytes = bytes ++ (byte ∷ [])

abbrev queued_in : Book → List ℕ → List Call → List ℕ
queued_in k bytes [] = bytes
queued_in k bytes (call ∷ calls) = queued_in (entered 8000 k call) (queued_by (entry_of k call) bytes) calls

queued-joined : (k : Book) (bytes : List ℕ) (before later : List Call)
    → queued_in k bytes (before ++ later) ≡ queued_in (book_after 8000 k before) (queued_in k bytes before) later
queued-joined k bytes [] later = refl
queued-joined k bytes (call ∷ before) later = queued-joined (entered 8000 k call) (queued_by (entry_of k call) bytes) before later

module _ (k : Book) (left : List Float) (state : SessionState) (stage : ℕ) (h : SinceDial) where
  control-queues : (c : Option Control) → (noted_control c state stage h).sent.queued ≡ queued_for c h.sent.queued
  control-queues None = refl
  control-queues (Some Dial) = refl
  control-queues (Some Answer) = refl
  control-queues (Some Hangup) = refl

  fill-queues : (was : SessionState) (b : ℕ) → (noted_fill was b 8000 k left state stage h).sent.queued ≡ h.sent.queued
  fill-queues Idle b = refl
  fill-queues Dialling b = refl
  fill-queues Answering b = refl
  fill-queues Connected b = refl

  entry-queues : (entry : Entry) → (noted entry 8000 k left state stage h).sent.queued ≡ queued_by entry h.sent.queued
  entry-queues (declined cause) = refl
  entry-queues (asks control line p) = control-queues control
  entry-queues (fills b) = fill-queues k.state b
  entry-queues (queues byte) = refl

since-queued : (k : Book) (h : SinceDial) (es : List Event) → (since_after 8000 k h es).sent.queued ≡ queued_in k h.sent.queued (map call_of es)
since-queued k h [] = refl
since-queued k h (e ∷ es) =
    since-queued (entered 8000 k e.call) _ es
    ∙ ap (λ (bytes : List ℕ). queued_in (entered 8000 k e.call) bytes (map call_of es)) (entry-queues k e.left.samples e.set.session.state e.set.session.shown h (entry_of k e.call))

-- a fill queues nothing, declined or not
fills-queue : (k : Book) (bytes : List ℕ) (bs : List ℕ) → queued_in k bytes (map filling bs) ≡ bytes
unfolding entry_of
fills-queue k bytes [] = refl
fills-queue k bytes (b ∷ bs) =
    ap (λ (more : List ℕ). queued_in (entered 8000 k (filling b)) more (map filling bs)) (go (ltb 65536 b))
    ∙ fills-queue (entered 8000 k (filling b)) bytes bs
  where
    go : (long : Bool) → queued_by (unless_declined (cause_of_fill true long) (fills b)) bytes ≡ bytes
    go true = refl
    go false = refl

-- the calls of a list's steps, one by one
asked-singly : (s : Set) (x : Step) → map call_of (singles s x) ≡ calls_of x
asked-singly s (single e) = refl
asked-singly s (string e) = go (accepted (cause_of e))
  where
    go : (t : Bool) → map call_of (either t (typed_singly s e.bytes e.carrier) []) ≡ either t (typings e.bytes e.carrier) []
    go true = singly-calls s e.bytes e.carrier
    go false = refl

all_asked_lem : (s : Set) (xs : List Step) → map call_of (all_singles s xs) ≡ all_calls xs
all_asked_lem s [] = refl
all_asked_lem s (x ∷ xs) = map-append call_of (singles s x) (all_singles (set_of x) xs) ∙ rw (asked-singly s x, all_asked_lem (set_of x) xs)

-- ---- the list goes on
abbrev pub more : List Call
more = queuing 65 ∷ queuing 66 ∷ filling 1 ∷ []

-- ---- the book, from one whose line has just gone up
abbrev up_book : AtProcessor → List ℕ → ℕ → ℕ → Book
up_book p digits count shown = record { processor = p; state = Connected; digits = digits; count = count; shown = shown; sending = fresh_sending 8000 }

record MoreIs (k : Book) : Type 0 where
  state-is : (book_after 8000 k more).state ≡ Connected
  count-is : (book_after 8000 k more).count ≡ k.count
  both-queued : queued_in k [] more ≡ 65 ∷ 66 ∷ []
  b-waits : waiting (book_after 8000 k more).sending.queue ≡ 66 ∷ []

more-is : (p : AtProcessor) (digits : List ℕ) (count shown : ℕ) → MoreIs (up_book p digits count shown)
unfolding entered entry_of accepted after frame_of fresh_sender queued pushed choice_of next ready chosen oldest popped
more-is p digits count shown = record { state-is = refl; count-is = refl; both-queued = refl; b-waits = refl }

up_is : (k : Book) → At Connected T k → k ≡ up_book k.processor k.digits k.count k.shown
up_is k a =
    ap (λ (st : SessionState). record { processor = k.processor; state = st; digits = k.digits; count = k.count; shown = k.shown; sending = k.sending }) a.state-is
    ∙ ap (λ (x : Sending). record { processor = k.processor; state = Connected; digits = k.digits; count = k.count; shown = k.shown; sending = x }) a.none-waits

more-at : (k : Book) → At Connected T k → MoreIs k
more-at k a = subst MoreIs (sym (up_is k a)) (more-is k.processor k.digits k.count k.shown)

-- what was queued before the line went up: nothing since the string that dialled again
none-again : (x : Sending) (shown : ℕ) (bytes : List ℕ) → queued_in (worked.playing worked.online x 401 shown) bytes worked.again ≡ []
unfolding entered entry_of typed_byte command_byte ended line.pushed upper uppercased begins is command_of executed digits_of keys_of is_key key_row accepted data_byte withheld lapse waited escaped polled down_for added
none-again x shown bytes = refl

none-queued : queued_in (blank 8000) [] calls ≡ []
none-queued =
    let k = book_after 8000 (blank 8000) worked.dial12 in
    rw (queued-joined (blank 8000) [] worked.dial12 (filling 401 ∷ worked.again ++ worked.fills), queued-joined (entered 8000 k (filling 401)) _ worked.again worked.fills, worked.first-fill)
    (fills-queue _ _ (401 ∷ 8000 ∷ 0 ∷ 3199 ∷ 65536 ∷ suc (T - 77137) ∷ 0 ∷ []) ∙ none-again _ _ _)

-- ---- what comes of these calls on a set fresh at 8,000
abbrev pub steps : List Step
steps = (every-list (fresh_set 8000) (acts ++ map lending_zeros more)).steps

pub record Worked : Type 0 where
  pub history : History (fresh_set 8000) steps
  pub up : (last_set (fresh_set 8000) steps).session.state ≡ Connected
  pub count : (last_set (fresh_set 8000) steps).session.m ≡ T
  pub queued : (since_after 8000 (blank 8000) not_called (all_singles (fresh_set 8000) steps)).sent.queued ≡ 65 ∷ 66 ∷ []
  pub b-waits : waiting (last_set (fresh_set 8000) steps).sending.queue ≡ 66 ∷ []
  -- by the claim
  pub begun : (since_after 8000 (blank 8000) not_called (all_singles (fresh_set 8000) steps)).sent.begun ++ (66 ∷ []) ≡ 65 ∷ 66 ∷ []

goes_on : all_asked (acts ++ map lending_zeros more) ≡ calls ++ more
unfolding accepted
goes_on = refl

pub worked-sent : Worked
unfolding rate_ok
worked-sent =
    let q = every-list (fresh_set 8000) (acts ++ map lending_zeros more) in
    let same : all_calls steps ≡ calls ++ more = q.asked ∙ goes_on in
    let runs = fresh-runs 8000 refl steps q.history in
    let on = more-at _ worked-book in
    let book : book_after 8000 (blank 8000) (all_calls steps) ≡ book_after 8000 (book_after 8000 (blank 8000) calls) more =
    ap (book_after 8000 (blank 8000)) same ∙ book-joined 8000 (blank 8000) calls more in
    let queued : (since_after 8000 (blank 8000) not_called (all_singles (fresh_set 8000) steps)).sent.queued ≡ 65 ∷ 66 ∷ [] =
    since-queued (blank 8000) not_called (all_singles (fresh_set 8000) steps)
    ∙ ap (queued_in (blank 8000) []) (all_asked_lem (fresh_set 8000) steps ∙ same)
    ∙ queued-joined (blank 8000) [] calls more
    ∙ ap (λ (bytes : List ℕ). queued_in (book_after 8000 (blank 8000) calls) bytes more) none-queued
    ∙ on.both-queued in
    let waits : waiting (last_set (fresh_set 8000) steps).sending.queue ≡ 66 ∷ [] =
    ap (λ (x : Sending). waiting x.queue) (runs.last.follows.sending ∙ ap (λ (k : Book). k.sending) book) ∙ on.b-waits in
    let sent = (since_after 8000 (blank 8000) not_called (all_singles (fresh_set 8000) steps)).sent in
    let bytes = (sends 8000 (book_after 8000 (blank 8000) (all_calls steps)) sent runs.last.sent).bytes in
    record {
      history = q.history;
      up = runs.last.follows.state ∙ ap (λ (k : Book). k.state) book ∙ on.state-is;
      count = runs.last.follows.count ∙ ap (λ (k : Book). k.count) book ∙ on.count-is ∙ worked-book.count-is;
      queued = queued;
      b-waits = waits;
      begun = sym (sym queued ∙ bytes ∙ ap (λ (l : List ℕ). sent.begun ++ l) (ap (λ (x : Sending). waiting x.queue) (sym runs.last.follows.sending) ∙ waits));
    }
