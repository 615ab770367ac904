-- What each call does, made on the chip that a table stands for: it answers as the table says, and leaves the chip of the table's next entry. Of the set
-- inside nothing is proved a second time: its call is handed to the claim's own step. Assumes nothing.
use Prim.Native.Nat.{ℕ, zero, suc, ◌≤◌}
use native.Mathlib.Omega.{arith}
use mathlib.Core.Path.{◌≡◌, refl, sym, ap, subst, ◌∙◌}
use mathlib.Core.Bool.{Bool, true, false}
use mathlib.Core.List.{List}
use lib.Dec.{leb, eqb}
use lib.Ieee.{Float}
use lib.ListN.{length}
use borrow.Author.Tests.{leb-false}
use Rattle.reply.specs.declared.Reply.{Reply}
use Rattle.reply.specs.declared.Reply.TheVariants.{None}
use Rattle.at.specs.At.{typed_byte, sent}
use Rattle.ascii.specs.Front.{put}
use Rattle.control.specs.Control.{heard}
use Rattle.soundness.specs.Sound.{rate_ok}
use Rattle.set.specs.declared.Set.{Set}
use Rattle.set.specs.declared.Typed.{Typed}
use Rattle.std.specs.Prelude.{Result, Ok, Err}
use Rattle.refusal.specs.declared.Refusal.{Refusal}
use Rattle.refusal.specs.declared.Refusal.TheVariants.{Rate, Outbox, Length, Unsound, Position, StringLength, StringRoom, Digits, BadFrame, QueueFull, TooLong, Start, Address}
use Rattle.refusal.specs.Refusal.{number_of, answer_number}
use Rattle.set.specs.declared.Lapsed.{Lapsed}
use Rattle.set.specs.declared.Filled.{Filled}
use Rattle.set.specs.Refusals.{Checked, accepted, either, checked}
use Rattle.set.proofs.Unchanged.{checked-is, told-if}
use Rattle.set.specs.Set as set
use Rattle.set.specs.Set.{set_typed}
use Rattle.set.specs.Book as book
use Rattle.set.specs.Book.{Book, typing, time, entry_of, declined_with, fed_by, lapsed_by, entered}
use Rattle.set.specs.Event as inner
use Rattle.set.specs.Event.{typed_event, lapsed_event, filled_event}
use Rattle.claim.specs.Trace as claim
use Rattle.claim.specs.Claim.{SinceDial, Reports}
use Rattle.claim.specs.Claim as claim-answers
use Rattle.claim.proofs.Claim.{ListInvariant, step}
use Rattle.claim.proofs.Expand.{Counts}
use Rattle.uart.specs.declared.Chip.{Chip}
use Rattle.uart.specs.declared.Read.{Read}
use Rattle.uart.specs.declared.Written.{Written}
use Rattle.uart.specs.declared.Fill.{Fill}
use Rattle.uart.specs.Chip as uart
use Rattle.uart.proofs.Waiting.{few-wait}
use Rattle.uart.proofs.Unchanged.{fill-moves, read-declined, write-declined, lapse-declined, fill-declined}
use Rattle.wired.specs.Table.{Table, calls_of, value_in, joined_by, moved_on, typed_on, after_read, written_to, next}
use Rattle.wired.specs.Trace.{Event, read_event, write_event, wait_event, fill_event, Did, reading, writing, waiting, filling, inside, Unchanged}
use Rattle.wired.specs.Wired.{Answered}
use Rattle.wired.proofs.Stands.{stands, beyond, sound-stands, value-stands, read-stands, read_keeps, moved-stands}

-- ---- of every chip: a declined call changes nothing
pub unchanged : (c : Chip) (e : Event) → Did c e → (answer_number e.refusal ≡ 0 → ⊥) → Unchanged c e
unchanged c e (reading address answer learnt) declined =
    let told : answer ≡ uart.read c address = learnt in
    let q = read-declined c address (subst (λ (a : Result Read Refusal). answer_number (checked a) ≡ 0 → ⊥) told declined) in
    record { chip = ap (uart.chip_read c) told ∙ q.0; lent = refl; value = ap uart.value_read told ∙ q.1; sent = refl; key = refl }
unchanged c e (writing address value carrier was left answer learnt) declined =
    let told : answer ≡ uart.write c address value carrier (length was) = learnt.0 in
    let wrote : left ≡ uart.outbox c address value was = learnt.1 in
    let q = write-declined c address value carrier was (subst (λ (a : Result Written Refusal). answer_number (checked a) ≡ 0 → ⊥) told declined) in
    record {
      chip = ap (uart.chip_written c) told ∙ q.0;
      lent = ap inner.outbox_of (wrote ∙ q.2);
      value = refl;
      sent = ap uart.sent_written told ∙ q.1;
      key = refl;
    }
unchanged c e (waiting ns carrier answer learnt) declined =
    let told : answer ≡ uart.lapsed c ns carrier = learnt in
    let q = lapse-declined c ns carrier (subst (λ (a : Result Chip Refusal). answer_number (checked a) ≡ 0 → ⊥) told declined) in
    record { chip = ap (uart.chip_left c) told ∙ q; lent = refl; value = refl; sent = refl; key = refl }
unchanged c e (filling was left answer learnt) declined =
    let told : answer ≡ uart.filled c (length was) = learnt.0 in
    let wrote : left ≡ uart.buffer c was = learnt.1 in
    let q = fill-declined c was (subst (λ (a : Result Fill Refusal). answer_number (checked a) ≡ 0 → ⊥) told declined) in
    record {
      chip = ap (uart.chip_filled c) told ∙ q.0;
      lent = ap inner.buffer_of (wrote ∙ q.2);
      value = refl;
      sent = refl;
      key = ap uart.key_filled told ∙ q.1;
    }

-- a call is accepted exactly where its number is 0
has_number : (refusal : Refusal) → false ≡ eqb (number_of refusal) 0
has_number Rate = refl
has_number Outbox = refl
has_number Length = refl
has_number Unsound = refl
has_number Position = refl
has_number StringLength = refl
has_number StringRoom = refl
has_number Digits = refl
has_number BadFrame = refl
has_number QueueFull = refl
has_number TooLong = refl
has_number Start = refl
has_number Address = refl

by-number : (cause : Checked) → accepted cause ≡ eqb (answer_number cause) 0
unfolding accepted
by-number (Ok done) = refl
by-number (Err refusal) = has_number refusal

-- what one call does, made on the chip of a table
pub record Step (r : ℕ) (s : Set) (t : Table) (e : Event) : Type 0 where
  pub since : SinceDial
  pub set : ListInvariant r e.chip.set (next r t e.ask).book since
  pub chip : e.chip ≡ stands e.chip.set (next r t e.ask)
  pub few : length (next r t e.ask).text ≤ 256
  pub answered : Answered r (stands s t) t e
  pub counts : Counts s (inside (stands s t) e) e.chip.set (calls_of e.ask)

reports-of : (r : ℕ) (s : Set) (k : Book) (h : SinceDial) → ListInvariant r s k h → Reports s k
reports-of r s k h at = record { count = at.follows.count; state = at.follows.state; stage = at.follows.shown }

never-6 : (known : Bool) (n : ℕ) → (n ≡ 6 → ⊥) → either known n 15 ≡ 6 → ⊥
never-6 true n not-six e = not-six e
never-6 false n not-six e = omega arith

module _ (r : ℕ) (ok : rate_ok r ≡ true) (s : Set) (t : Table) (h : SinceDial) (at : ListInvariant r s t.book h) (few : length t.text ≤ 256) where
  abbrev c : Chip
  c = stands s t

  good : uart.sound c ≡ true
  good = sound-stands r s t at.follows few at.sound

  -- ---- a call that does not reach the set leaves it, and the book
  rests : (next : Table) → next.book ≡ t.book → ListInvariant r s next.book h
  rests next same = subst (λ (k : Book). ListInvariant r s k h) (sym same) at

  -- ---- a read
  read_is : (address : ℕ) → uart.read c address ≡ uart.read_if true (leb address 7) c address
  unfolding uart.read
  read_is address = rw good

  read_by : (address : ℕ) (known : Bool) → leb address 7 ≡ known
      → (uart.chip_read c (uart.read_if true known c address) ≡ stands s (after_read t address))
      × (answer_number (checked (uart.read_if true known c address)) ≡ either known 0 15)
      × (uart.value_read (uart.read_if true known c address) ≡ value_in t address)
  read_by address true e = (read-stands r s t at.follows few address, refl, value-stands r s t at.follows few address)
  read_by address false e =
      let q = beyond t address (leb-false address 7 e) in
      (ap (stands s) (sym q.1), refl, sym q.0)

  read_step : (address : ℕ) (answer : Result Read Refusal) → answer ≡ uart.read c address → Did c (read_event c address answer) → Step r s t (read_event c address answer)
  read_step address answer told did =
      let is : answer ≡ uart.read_if true (leb address 7) c address = told ∙ read_is address in
      let q = read_by address (leb address 7) refl in
      let k = read_keeps r s t at.follows few address in
      let chip : uart.chip_read c answer ≡ stands s (after_read t address) = ap (uart.chip_read c) is ∙ q.0 in
      let same : (uart.chip_read c answer).set ≡ s = ap (λ (c : Chip). c.set) chip in
      let number : answer_number (checked answer) ≡ either (leb address 7) 0 15 = ap (λ (a : Result Read Refusal). answer_number (checked a)) is ∙ q.1 in
      let on : ListInvariant r (uart.chip_read c answer).set (after_read t address).book h = rw same (rests (after_read t address) k.0) in
      record {
        since = h;
        set = on;
        chip = chip ∙ ap (λ (s : Set). stands s (after_read t address)) (sym same);
        few = k.1;
        answered = record {
          number = number;
          sound = λ six. never-6 (leb address 7) 0 (λ e. omega arith) (sym number ∙ six);
          unchanged = unchanged c (read_event c address answer) did;
          value = ap uart.value_read is ∙ q.2;
          sent = refl;
          outbox = refl;
          key = refl;
          reports = reports-of r _ _ h on;
        };
        counts = record { trace = tt; set = sym same; asked = refl };
      }

  -- ---- a write to another address than 0 only stores
  write-is : (address value : ℕ) (carrier : Bool) (n : ℕ) → uart.write c address value carrier n ≡ uart.write_if true (leb address 7) c address value carrier n
  unfolding uart.write
  write-is address value carrier n = rw good

  outbox-is : (address value : ℕ) (was : List ℕ) → uart.outbox c address value was ≡ uart.outbox_if true (leb address 7) c address value was
  unfolding uart.outbox
  outbox-is address value was = rw good

  store_by : (address value : ℕ) (carrier : Bool) (was : List ℕ) (known : Bool)
      → let answer = uart.write_if true known c (suc address) value carrier (length was) in
      let on = either known (written_to (suc address) r t value carrier (length was)) t in
      (uart.chip_written c answer ≡ stands s on)
      × (answer_number (checked answer) ≡ either known 0 15)
      × (uart.sent_written answer ≡ 0)
      × (uart.outbox_if true known c (suc address) value was ≡ was)
      × (on.book ≡ t.book)
      × (length on.text ≤ 256)
  store_by address value carrier was true = (refl, refl, refl, refl, refl, few)
  store_by address value carrier was false = (refl, refl, refl, refl, refl, few)

  store_step : (address value : ℕ) (carrier : Bool) (was left : List ℕ) (answer : Result Written Refusal)
      → answer ≡ uart.write c (suc address) value carrier (length was) → left ≡ uart.outbox c (suc address) value was
      → Did c (write_event c (suc address) value carrier was left answer) → Step r s t (write_event c (suc address) value carrier was left answer)
  store_step address value carrier was left answer told wrote did =
      let known = leb (suc address) 7 in
      let is : answer ≡ uart.write_if true known c (suc address) value carrier (length was) = told ∙ write-is (suc address) value carrier (length was) in
      let q = store_by address value carrier was known in
      let later = either known (written_to (suc address) r t value carrier (length was)) t in
      let chip : uart.chip_written c answer ≡ stands s later = ap (uart.chip_written c) is ∙ q.0 in
      let same : (uart.chip_written c answer).set ≡ s = ap (λ (c : Chip). c.set) chip in
      let number : answer_number (checked answer) ≡ either known 0 15 = ap (λ (a : Result Written Refusal). answer_number (checked a)) is ∙ q.1 in
      let on : ListInvariant r (uart.chip_written c answer).set later.book h = rw same (rests later q.4) in
      record {
        since = h;
        set = on;
        chip = chip ∙ ap (λ (s : Set). stands s later) (sym same);
        few = q.5;
        answered = record {
          number = number;
          sound = λ six. never-6 known 0 (λ e. omega arith) (sym number ∙ six);
          unchanged = unchanged c (write_event c (suc address) value carrier was left answer) did;
          value = refl;
          sent = ap uart.sent_written is ∙ q.2;
          outbox = wrote ∙ outbox-is (suc address) value was ∙ q.3;
          key = refl;
          reports = reports-of r _ _ h on;
        };
        counts = record { trace = tt; set = sym same; asked = refl };
      }

  -- ---- a write to 0: the set's typed call, by whether it is taken
  module _ (value : ℕ) (carrier : Bool) (was left : List ℕ) (wrote : left ≡ set.outbox s value was) where
    abbrev n : ℕ
    n = length was

    abbrev typed : Result Typed Refusal
    typed = set.typed s value carrier n

    abbrev call : inner.Event
    call = typed_event s value carrier was left typed

    made : claim.Did s call
    made = claim.typed value carrier was left typed (refl, wrote)

    abbrev number : ℕ
    number = declined_with t.book (typing value carrier n)

    told-inside : claim-answers.Answered r s t.book call
    told-inside = (step r ok s t.book h at call made).0

    inside_on : ListInvariant r (set.set_typed s typed) (entered r t.book (typing value carrier n)) (claim-answers.since_next r t.book h call)
    inside_on = (step r ok s t.book h at call made).1

    taken_is : accepted (checked typed) ≡ eqb number 0
    taken_is = by-number (checked typed) ∙ ap (λ (n : ℕ). eqb n 0) told-inside.number

    same-fed : typed_byte s.processor value (heard s.session carrier) n ≡ fed_by t.book value carrier n
    unfolding heard
    same-fed = rw (at.follows.processor, at.follows.state)

    reply-is : set.reply_typed typed ≡ either (accepted (checked typed)) (fed_by t.book value carrier n).outcome.reply None
    unfolding set.typed
    reply-is =
        told-if (set.typing_cause s n) (λ (a : Typed). a.reply) None (set.byte_typed s value carrier n)
        ∙ rw (checked-is (set.typing_cause s n) (set.byte_typed s value carrier n), ← same-fed)

    sent_is : set.sent_typed typed ≡ either (accepted (checked typed)) (fed_by t.book value carrier n).sent 0
    unfolding set.typed
    sent_is =
        told-if (set.typing_cause s n) (λ (a : Typed). a.sent) 0 (set.byte_typed s value carrier n)
        ∙ rw (checked-is (set.typing_cause s n) (set.byte_typed s value carrier n), same-fed)

    left_is : left ≡ either (accepted (checked typed)) (put (sent t.book.processor value) was) was
    unfolding set.typed set.outbox
    left_is = wrote ∙ rw (checked-is (set.typing_cause s n) (set.byte_typed s value carrier n), at.follows.processor)

    -- by the set's answer
    module _ (a : Result Typed Refusal) where
      abbrev answer : Result Written Refusal
      answer = uart.transmitted c carrier a

      abbrev later : Table
      later = either (accepted (checked a)) (typed_on r t value carrier n) t

      pub record Typing : Type 0 where
        pub since : SinceDial
        pub set : ListInvariant r (uart.chip_written c answer).set later.book since
        pub chip : uart.chip_written c answer ≡ stands (uart.chip_written c answer).set later
        pub short : length later.text ≤ 256
        pub number : answer_number (checked answer) ≡ declined_with t.book (typing value carrier n)
        pub sent : uart.sent_written answer ≡ either (accepted (checked a)) (fed_by t.book value carrier n).sent 0
        pub inside : set_typed s a ≡ (uart.chip_written c answer).set

    typing-by : (a : Result Typed Refusal) → typed ≡ a → Typing a
    unfolding accepted
    typing-by (Ok x) is =
        let reply : x.reply ≡ (fed_by t.book value carrier n).outcome.reply =
        subst (λ (a : Result Typed Refusal). set.reply_typed a ≡ either (accepted (checked a)) (fed_by t.book value carrier n).outcome.reply None) is reply-is in
        let on : ListInvariant r x.set (entered r t.book (typing value carrier n)) (claim-answers.since_next r t.book h call) =
        subst (λ (a : Result Typed Refusal). ListInvariant r (set.set_typed s a) (entered r t.book (typing value carrier n)) (claim-answers.since_next r t.book h call)) is inside_on in
        record {
          since = claim-answers.since_next r t.book h call;
          set = on;
          chip = ap uart.emptied
              (ap (λ (reply : Reply). uart.moved c x.set reply carrier) reply
              ∙ moved-stands r s t at.follows few x.set (entered r t.book (typing value carrier n)) (fed_by t.book value carrier n).outcome.reply carrier on.follows);
          short = few-wait (joined_by t (fed_by t.book value carrier n).outcome.reply (entered r t.book (typing value carrier n)));
          number = subst (λ (a : Result Typed Refusal). answer_number (checked a) ≡ number) is told-inside.number;
          sent = subst (λ (a : Result Typed Refusal). set.sent_typed a ≡ either (accepted (checked a)) (fed_by t.book value carrier n).sent 0) is sent_is;
          inside = refl;
        }
    typing-by (Err e) is =
        record {
          since = h;
          set = at;
          chip = refl;
          short = few;
          number = subst (λ (a : Result Typed Refusal). answer_number (checked a) ≡ number) is told-inside.number;
          sent = refl;
          inside = refl;
        }

    type-step : (answer : Result Written Refusal) → answer ≡ uart.transmitted c carrier typed → Did c (write_event c 0 value carrier was left answer)
        → Step r s t (write_event c 0 value carrier was left answer)
    type-step answer told did =
        let q = typing-by typed refl in
        let on_if = λ (b : Bool). either b (typed_on r t value carrier n) t in
        let later = on_if (eqb number 0) in
        let numbered : answer_number (checked answer) ≡ number = ap (λ (a : Result Written Refusal). answer_number (checked a)) told ∙ q.number in
        let on : ListInvariant r (uart.chip_written c answer).set later.book q.since =
        rw told (subst (λ (b : Bool). ListInvariant r (uart.chip_written c (uart.transmitted c carrier typed)).set (on_if b).book q.since) taken_is q.set) in
        record {
          since = q.since;
          set = on;
          chip = rw told (subst (λ (b : Bool). uart.chip_written c (uart.transmitted c carrier typed) ≡ stands (uart.chip_written c (uart.transmitted c carrier typed)).set (on_if b)) taken_is q.chip);
          few = subst (λ (b : Bool). length (on_if b).text ≤ 256) taken_is q.short;
          answered = record {
            number = numbered;
            sound = λ six. told-inside.sound (told-inside.number ∙ sym numbered ∙ six);
            unchanged = unchanged c (write_event c 0 value carrier was left answer) did;
            value = refl;
            sent = ap uart.sent_written told ∙ q.sent ∙ ap (λ (b : Bool). either b (fed_by t.book value carrier n).sent 0) taken_is;
            outbox = left_is ∙ ap (λ (b : Bool). either b (put (sent t.book.processor value) was) was) taken_is;
            key = refl;
            reports = reports-of r _ _ q.since on;
          };
          counts = record { trace = (made, tt); set = q.inside ∙ ap (λ (a : Result Written Refusal). (uart.chip_written c a).set) (sym told); asked = refl };
        }

  -- ---- a lapse
  module _ (ns : ℕ) (carrier : Bool) where
    abbrev time_on : Lapsed
    time_on = set.time_lapsed s ns carrier

    lapse-taken : set.lapsed s ns carrier ≡ Ok time_on
    unfolding set.lapsed set.lapse_cause
    lapse-taken = rw at.sound

    lapse-is : uart.lapsed c ns carrier ≡ Ok (uart.moved c time_on.set time_on.reply carrier)
    unfolding uart.lapsed
    lapse-is = rw (good, lapse-taken)

    lapse-reply : time_on.reply ≡ (lapsed_by t.book ns carrier).reply
    unfolding heard
    lapse-reply = rw (at.follows.processor, at.follows.state)

    wait-step : (answer : Result Chip Refusal) → answer ≡ uart.lapsed c ns carrier → Did c (wait_event c ns carrier answer) → Step r s t (wait_event c ns carrier answer)
    unfolding entry_of
    wait-step answer told did =
        let is : answer ≡ Ok (uart.moved c time_on.set time_on.reply carrier) = told ∙ lapse-is in
        let call = lapsed_event s ns carrier (set.lapsed s ns carrier) in
        let made : claim.Did s call = claim.lapsed ns carrier (set.lapsed s ns carrier) refl in
        let q = step r ok s t.book h at call made in
        let k = entered r t.book (time ns carrier) in
        let reply = (lapsed_by t.book ns carrier).reply in
        let since = claim-answers.since_next r t.book h call in
        let numbered : answer_number (checked answer) ≡ 0 = ap (λ (a : Result Chip Refusal). answer_number (checked a)) is in
        let inside : ListInvariant r time_on.set k since = subst (λ (a : Result Lapsed Refusal). ListInvariant r (set.set_lapsed s a) k since) lapse-taken q.1 in
        let on : ListInvariant r (uart.chip_left c answer).set k since = rw is inside in
        let chip : uart.chip_left c answer ≡ stands time_on.set (moved_on t k reply carrier) =
        ap (uart.chip_left c) is
        ∙ ap (λ (reply : Reply). uart.moved c time_on.set reply carrier) lapse-reply
        ∙ moved-stands r s t at.follows few time_on.set k reply carrier inside.follows in
        record {
          since = since;
          set = on;
          chip = chip ∙ ap (λ (s : Set). stands s (moved_on t k reply carrier)) (ap (λ (a : Result Chip Refusal). (uart.chip_left c a).set) (sym is));
          few = few-wait (joined_by t reply k);
          answered = record {
            number = numbered;
            sound = λ six. q.0.sound (q.0.number ∙ sym numbered ∙ six);
            unchanged = unchanged c (wait_event c ns carrier answer) did;
            value = refl;
            sent = refl;
            outbox = refl;
            key = refl;
            reports = reports-of r _ _ since on;
          };
          counts = record { trace = (made, tt); set = ap (set.set_lapsed s) lapse-taken ∙ ap (λ (a : Result Chip Refusal). (uart.chip_left c a).set) (sym is); asked = refl };
        }

  -- ---- a fill
  fill_is : (b : ℕ) → uart.filled c b ≡ uart.fill_taken c (set.fill s b)
  unfolding uart.filled
  fill_is b = rw good

  buffer-is : (was : List Float) → uart.buffer c was ≡ set.buffer s was
  unfolding uart.buffer
  buffer-is was = rw good

  -- the chip answers what the set does
  fill-number : (a : Result Filled Refusal) → answer_number (checked (uart.fill_taken c a)) ≡ answer_number (checked a)
  fill-number (Ok f) = refl
  fill-number (Err cause) = refl

  fill-key : (a : Result Filled Refusal) → uart.key_filled (uart.fill_taken c a) ≡ set.key_filled a
  fill-key (Ok f) = refl
  fill-key (Err cause) = refl

  fill-set : (a : Result Filled Refusal) → (uart.chip_filled c (uart.fill_taken c a)).set ≡ set.set_filled s a
  fill-set (Ok f) = refl
  fill-set (Err cause) = refl

  fill_step : (was left : List Float) (answer : Result Fill Refusal) → answer ≡ uart.filled c (length was) → left ≡ uart.buffer c was
      → Did c (fill_event c was left answer) → Step r s t (fill_event c was left answer)
  fill_step was left answer told wrote did =
      let b = length was in
      let flag = t.registers.flag in
      let is : answer ≡ uart.fill_taken c (set.fill s b) = told ∙ fill_is b in
      let call = filled_event s was left (set.fill s b) in
      let made : claim.Did s call = claim.filled was left (set.fill s b) (refl, wrote ∙ buffer-is was) in
      let q = step r ok s t.book h at call made in
      let k = entered r t.book (book.filling b) in
      let since = claim-answers.since_next r t.book h call in
      let numbered : answer_number (checked answer) ≡ declined_with t.book (book.filling b) =
      ap (λ (a : Result Fill Refusal). answer_number (checked a)) is ∙ fill-number (set.fill s b) ∙ q.0.number in
      let same : (uart.chip_filled c answer).set ≡ set.set_filled s (set.fill s b) = ap (λ (a : Result Fill Refusal). (uart.chip_filled c a).set) is ∙ fill-set (set.fill s b) in
      let on : ListInvariant r (uart.chip_filled c answer).set k since = subst (λ (x : Set). ListInvariant r x k since) (sym same) q.1 in
      let chip : uart.chip_filled c answer ≡ stands (set.set_filled s (set.fill s b)) (moved_on t k None flag) =
      ap (uart.chip_filled c) is ∙ fill-moves c (set.fill s b) ∙ moved-stands r s t at.follows few (set.set_filled s (set.fill s b)) k None flag q.1.follows in
      record {
        since = since;
        set = on;
        chip = chip ∙ ap (λ (s : Set). stands s (moved_on t k None flag)) (sym same);
        few = few-wait (joined_by t None k);
        answered = record {
          number = numbered;
          sound = λ six. q.0.sound (q.0.number ∙ sym numbered ∙ six);
          unchanged = unchanged c (fill_event c was left answer) did;
          value = refl;
          sent = refl;
          outbox = refl;
          key = ap uart.key_filled is ∙ fill-key (set.fill s b) ∙ q.0.key;
          reports = reports-of r _ _ since on;
        };
        counts = record { trace = (made, tt); set = sym same; asked = refl };
      }

  -- ---- every call
  pub one : (e : Event) → Did c e → Step r s t e
  one e (reading address answer learnt) = read_step address answer learnt (reading address answer learnt)
  one e (writing zero value carrier was left answer learnt) =
      type-step value carrier was left (learnt.1 ∙ outbox-is 0 value was) answer (learnt.0 ∙ write-is 0 value carrier (length was))
      (writing 0 value carrier was left answer learnt)
  one e (writing (suc address) value carrier was left answer learnt) =
      store_step address value carrier was left answer learnt.0 learnt.1 (writing (suc address) value carrier was left answer learnt)
  one e (waiting ns carrier answer learnt) = wait-step ns carrier answer learnt (waiting ns carrier answer learnt)
  one e (filling was left answer learnt) = fill_step was left answer learnt.0 learnt.1 (filling was left answer learnt)
