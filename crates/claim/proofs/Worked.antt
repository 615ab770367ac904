-- A worked list: dial 12 at 8,000 and play a little; escape, and in one string hang up and dial 12 again; then fills of uneven lengths across stage
-- edges, one of them empty, up to T, and an empty fill there. It meets the claim's premises, what was played before the hang-up is not joined,
-- and the line is up by the empty fill. The book is followed call by call; T's bounds place each fill. Assumes nothing.
use Prim.Native.String.{String}
use Prim.Native.Nat.{ℕ, suc, ◌+◌, ◌-◌, ◌*◌, ◌≤◌, ◌<◌}
use native.Mathlib.Omega.{arith}
use native.Mathlib.Nat.{add-zero, add-suc}
use mathlib.Core.Path.{◌≡◌, refl, sym, ap, subst, ◌∙◌}
use mathlib.Core.Bool.{Bool, true, false}
use mathlib.Core.List.{List, [], ◌∷◌, ◌++◌, map}
use mathlib.Core.Logic.{⊎_elim}
use lib.Dec.{eqb, lit≤}
use lib.ListN.{length, replicate}
use borrow.Author.Tests.{le-ltb, eq-eqb, ne_eqb}
use Rattle.stage.specs.Stage.{stage_number}
use Rattle.schedule.proofs.Total.{total-bounds}
use Rattle.passage.specs.Overture.{HasLength}
use Rattle.passage.proofs.Overture.{overture-length}
use Rattle.passage.proofs.Connected.{connected-exactly}
use Rattle.ascii.specs.Ascii.{ascii}
use Rattle.ascii.specs.Upper.{upper}
use Rattle.keys.specs.Keys.{digits_of, keys_of, is_key, key_row}
use Rattle.command.specs.Line.{pushed, uppercased}
use Rattle.command.specs.Command.{begins, is, command_of}
use Rattle.at.specs.declared.AtProcessor.{AtProcessor}
use Rattle.at.specs.Processor.{added}
use Rattle.at.specs.Command.{executed}
use Rattle.at.specs.Escape.{withheld, data_byte, escaped, waited}
use Rattle.at.specs.Carrier.{polled, down_for}
use Rattle.at.specs.At.{ended, command_byte, typed_byte, lapse}
use Rattle.session.specs.declared.SessionState.{SessionState}
use Rattle.session.specs.declared.SessionState.TheVariants.{Idle, Dialling, Answering, Connected}
use Rattle.session.specs.Session.{state_number}
use Rattle.soundness.specs.Sound.{rate_ok}
use Rattle.set.specs.Refusals.{accepted}
use Rattle.set.specs.Set.{fresh_set, raised_if}
use Rattle.queue.specs.declared.Queue.{Queue}
use Rattle.queue.specs.Queue.{empty_queue}
use Rattle.sender.specs.declared.Sending.{Sending}
use Rattle.sender.specs.Sender.{fresh_sending, raised}
use Rattle.set.specs.Book.{Call, time, filling, Book, blank, length_of, stage_of_sample, shown_by, state_if, after_fill, entry_of, entered}
use Rattle.claim.specs.Claim.{SinceDial, not_called, book_after, since_after}
use Rattle.claim.specs.Strings.{Step, History, last_set, all_singles, typings, all_calls}
use Rattle.claim.proofs.Consistent.{Up, Consistent}
use Rattle.claim.proofs.Joined.{book-joined}
use Rattle.claim.proofs.Strings.{fresh-runs}
use Rattle.claim.proofs.Lists.{zeros, Act, single, string, all_asked, every-list}

-- ATDT12 and CR, as a string and as what it counts as
abbrev string_of : String → Act
string_of text = string (ascii text) false (replicate (4 * length (ascii text)) 0) (replicate (3 * length (ascii text)) 0)

abbrev typings_of : String → List Call
typings_of text = typings (ascii text) false

abbrev pub dial12 : List Call
dial12 = typings_of "ATDT12\r"

pub dialled : ((book_after 8000 (blank 8000) dial12).state ≡ Dialling) × ((book_after 8000 (blank 8000) dial12).digits ≡ ascii "12") × ((book_after 8000 (blank 8000) dial12).count ≡ 0)
unfolding entered entry_of typed_byte command_byte ended pushed upper uppercased begins is command_of executed digits_of keys_of is_key key_row accepted
dialled = (refl, refl, refl)

none-dialled : (book_after 8000 (blank 8000) dial12).sending.queue ≡ empty_queue
unfolding entered entry_of typed_byte command_byte ended pushed upper uppercased begins is command_of executed digits_of keys_of is_key key_row accepted
none-dialled = refl

-- T, for 12 at 8,000
abbrev pub T : ℕ
T = length_of (ascii "12") 8000

pub T-near : (81533 ≤ T) × (T ≤ 81539)
T-near = let b = total-bounds 8000 (lit≤ tt) (lit≤ tt) 2 (lit≤ tt) in go T b.least b.most
  where
    go : (T : ℕ) → 1175 * 8000 + 24 * 2 * 8000 ≤ 120 * T + 120 → 120 * T ≤ 1175 * 8000 + 24 * 2 * 8000 + 720 → (81533 ≤ T) × (T ≤ 81539)
    go T l m = (omega arith, omega arith)

long : HasLength (ascii "12") 8000 T
long = overture-length (ascii "12") 8000 (lit≤ tt) (lit≤ tt) (lit≤ tt)

not-ten : (i : ℕ) → i < T → eqb (stage_of_sample (ascii "12") 8000 (suc i)) 10 ≡ false
unfolding stage_of_sample
not-ten i l = ne_eqb _ 10 (ten _ (long.playing i l))
  where
    ten : (n : ℕ) → n ≤ 9 → n ≡ 10 → ⊥
    ten n h e = omega arith

ends : eqb (stage_of_sample (ascii "12") 8000 (suc T)) 10 ≡ true
unfolding stage_of_sample
ends = eq-eqb _ 10 (ap stage_number ((connected-exactly (ascii "12") 8000 T long T).1 (omega arith)))

-- until the line is up no byte waits, and then for a fresh sender
abbrev pub NoneWaits : SessionState → Sending → Type 0
NoneWaits Idle x = x.queue ≡ empty_queue
NoneWaits Dialling x = x.queue ≡ empty_queue
NoneWaits Answering x = x.queue ≡ empty_queue
NoneWaits Connected x = x ≡ fresh_sending 8000

none-waits : (up : Bool) (x : Sending) → x.queue ≡ empty_queue → NoneWaits (state_if up) (raised_if up x 8000)
none-waits true x e = ap (λ (q : Queue). raised (record { sender = x.sender; queue = q }) 8000) e
none-waits false x e = e

-- a book in the state, with 12 noted, and `count` samples written
pub record At (state : SessionState) (count : ℕ) (k : Book) : Type 0 where
  pub state-is : k.state ≡ state
  pub digits_are : k.digits ≡ ascii "12"
  pub count-is : k.count ≡ count
  pub none-waits : NoneWaits state k.sending

same_count : {state : SessionState} {a b : ℕ} {k : Book} → a ≡ b → At state a k → At state b k
same_count e p = record { state-is = p.state-is; digits_are = p.digits_are; count-is = p.count-is ∙ e; none-waits = p.none-waits }

after-fill-at : (up : Bool) (shown count : ℕ) (k : Book) → k.digits ≡ ascii "12" → k.sending.queue ≡ empty_queue → At (state_if up) count (after_fill up 8000 shown count k)
after-fill-at up shown count k e none = record { state-is = refl; digits_are = e; count-is = refl; none-waits = none-waits up k.sending none }

fill-at : (up : Bool) (count b : ℕ) (k : Book) → At Dialling count k → b ≤ 65536
    → eqb (shown_by (ascii "12") 8000 count b) 10 ≡ up → At (state_if up) (count + b) (entered 8000 k (filling b))
unfolding entered entry_of accepted state_number
fill-at up count b k a short e =
    let now : Book = record { processor = k.processor; state = Dialling; digits = ascii "12"; count = count; shown = k.shown; sending = k.sending } in
    rw (a.state-is, le-ltb 65536 b short, a.digits_are, a.count-is, e) (after-fill-at up _ (count + b) now refl a.none-waits)

-- ---- a fill, the escape, and the string that hangs up and dials again
abbrev pub playing : AtProcessor → Sending → ℕ → ℕ → Book
playing p x count shown = record { processor = p; state = Dialling; digits = ascii "12"; count = count; shown = shown; sending = x }

fill_is : (count b : ℕ) (k : Book) → At Dialling count k → b ≤ 65536 → eqb (shown_by (ascii "12") 8000 count b) 10 ≡ false
    → entered 8000 k (filling b) ≡ playing k.processor k.sending (count + b) (shown_by (ascii "12") 8000 count b)
unfolding entered entry_of accepted state_number
fill_is count b k a short e = rw (a.state-is, le-ltb 65536 b short, a.digits_are, a.count-is, e)

abbrev escape : List Call
escape = time 1_000_000_000 false ∷ typings_of "+++" ++ (time 1_000_000_000 false ∷ [])

abbrev pub again : List Call
again = escape ++ typings_of "ATH\rATDT12\r"

-- the processor after the first dial line
abbrev pub online : AtProcessor
online = (book_after 8000 (blank 8000) dial12).processor

hangs-up : (x : Sending) (shown : ℕ) → (book_after 8000 (playing online x 401 shown) (escape ++ typings_of "ATH\r")).state ≡ Idle
unfolding entered entry_of typed_byte command_byte ended pushed upper uppercased begins is command_of executed digits_of keys_of is_key key_row accepted data_byte withheld lapse waited escaped polled down_for added
hangs-up x shown = refl

dials-again : (x : Sending) (shown : ℕ) → At Dialling 0 (book_after 8000 (playing online x 401 shown) again)
unfolding entered entry_of typed_byte command_byte ended pushed upper uppercased begins is command_of executed digits_of keys_of is_key key_row accepted data_byte withheld lapse waited escaped polled down_for added
dials-again x shown = record { state-is = refl; digits_are = refl; count-is = refl; none-waits = refl }

-- across OffHook's end at 400, across DialTone's at 8,400, empty, up to Dialling's last sample, the longest, and all that is left; then empty at T
abbrev pub fills : List Call
fills =
    filling 401
    ∷ filling 8000
    ∷ filling 0
    ∷ filling 3199
    ∷ filling 65536
    ∷ filling (suc (T - 77137))
    ∷ filling 0
    ∷ []

abbrev pub calls : List Call
calls = dial12 ++ (filling 401 ∷ again ++ fills)

abbrev pub lending_zeros : Call → Act
lending_zeros call = single call zeros

abbrev pub acts : List Act
acts =
    string_of "ATDT12\r"
    ∷ lending_zeros (filling 401)
    ∷ lending_zeros (time 1_000_000_000 false)
    ∷ string_of "+++"
    ∷ lending_zeros (time 1_000_000_000 false)
    ∷ string_of "ATH\rATDT12\r"
    ∷ map lending_zeros fills

acts-ask : all_asked acts ≡ calls
unfolding accepted
acts-ask = refl

-- up to the last fill the line is not up, and then it is
module _ (k : Book) (a : At Dialling 0 k) where
  within : (i : ℕ) → i < 81533 → i < T
  within i l = omega (arith, T-near.0)

  played : At Dialling T (book_after 8000 k (filling 401 ∷ filling 8000 ∷ filling 0 ∷ filling 3199 ∷ filling 65536 ∷ filling (suc (T - 77137)) ∷ []))
  played =
      let a1 = fill-at false 0 401 k a (lit≤ tt) (not-ten 400 (within 400 (lit≤ tt))) in
      let a2 = fill-at false 401 8000 _ a1 (lit≤ tt) (not-ten 8400 (within 8400 (lit≤ tt))) in
      let a3 = fill-at false 8401 0 _ a2 (lit≤ tt) (not-ten 8401 (within 8401 (lit≤ tt))) in
      let a4 = fill-at false 8401 3199 _ a3 (lit≤ tt) (not-ten 11599 (within 11599 (lit≤ tt))) in
      let a5 = fill-at false 11600 65536 _ a4 (lit≤ tt) (not-ten 77135 (within 77135 (lit≤ tt))) in
      let last : eqb (stage_of_sample (ascii "12") 8000 (77136 + suc (T - 77137))) 10 ≡ false = rw add-suc (not-ten (77136 + (T - 77137)) (omega (arith, T-near.0))) in
      let a6 = fill-at false 77136 (suc (T - 77137)) _ a5 (omega (arith, T-near.1)) last in
      same_count (omega (arith, T-near.0)) a6

  up-at-T : At Connected T (book_after 8000 k fills)
  up-at-T = same_count (add-zero T) (fill-at true T 0 _ played (lit≤ tt) ends)

pub first-fill : entered 8000 (book_after 8000 (blank 8000) dial12) (filling 401)
    ≡ playing online (book_after 8000 (blank 8000) dial12).sending (0 + 401) (shown_by (ascii "12") 8000 0 401)
first-fill =
    fill_is 0 401 (book_after 8000 (blank 8000) dial12)
    (record { state-is = dialled.0; digits_are = dialled.1; count-is = dialled.2; none-waits = none-dialled }) (lit≤ tt)
    (not-ten 400 (omega (arith, T-near.0)))

pub worked-book : At Connected T (book_after 8000 (blank 8000) calls)
worked-book =
    let redialled : At Dialling 0 (book_after 8000 (entered 8000 (book_after 8000 (blank 8000) dial12) (filling 401)) again) = rw first-fill (dials-again _ _) in
    rw (book-joined 8000 (blank 8000) dial12 (filling 401 ∷ again ++ fills), book-joined 8000 (entered 8000 (book_after 8000 (blank 8000) dial12) (filling 401)) again fills)
    (up-at-T _ redialled)

-- ---- what comes of these calls on a set fresh at 8,000
abbrev pub steps : List Step
steps = (every-list (fresh_set 8000) acts).steps

pub record Worked : Type 0 where
  pub history : History (fresh_set 8000) steps
  pub asked : all_calls steps ≡ calls
  -- the premise of the claim, with the digits 12
  pub called : (since_after 8000 (blank 8000) not_called (all_singles (fresh_set 8000) steps)).called ≡ true
  pub digits : (book_after 8000 (blank 8000) (all_calls steps)).digits ≡ ascii "12"
  -- m = T, and the empty fill that came there has the line up
  pub count : (last_set (fresh_set 8000) steps).session.m ≡ T
  pub emptied : (since_after 8000 (blank 8000) not_called (all_singles (fresh_set 8000) steps)).emptied ≡ true
  pub up : (last_set (fresh_set 8000) steps).session.state ≡ Connected

module _ (count : ℕ) (h : SinceDial) (c : Up 8000 (ascii "12") count h) (e : count ≡ T) where
  emptied-at-T : h.emptied ≡ true
  emptied-at-T =
      ⊎_elim
      (λ (l : T < count). absurd (omega arith))
      (λ (q : (count ≡ T) × (h.emptied ≡ true)). q.1)
      c.past

progress-up : (k : Book) (h : SinceDial) → At Connected T k → Consistent 8000 k h → Up 8000 (ascii "12") k.count h
progress-up k h a consistent = rw (a.state-is, a.digits_are) at consistent.progress

pub worked : Worked
unfolding rate_ok
worked =
    let q = every-list (fresh_set 8000) acts in
    let same : all_calls steps ≡ calls = q.asked ∙ acts-ask in
    let book : At Connected T (book_after 8000 (blank 8000) (all_calls steps)) = subst (λ (cs : List Call). At Connected T (book_after 8000 (blank 8000) cs)) (sym same) worked-book in
    let runs = fresh-runs 8000 refl steps q.history in
    let progress : Up 8000 (ascii "12") (book_after 8000 (blank 8000) (all_calls steps)).count (since_after 8000 (blank 8000) not_called (all_singles (fresh_set 8000) steps)) = progress-up _ _ book runs.last.consistent in
    record {
      history = q.history;
      asked = same;
      called = progress.called;
      digits = book.digits_are;
      count = runs.last.follows.count ∙ book.count-is;
      emptied = emptied-at-T _ _ progress book.count-is;
      up = runs.last.follows.state ∙ book.state-is;
    }
