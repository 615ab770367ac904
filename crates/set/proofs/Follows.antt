-- A set that follows a book, and that each call, by its definition, takes it to one that follows the book's next entry. By cases of the cause, the
-- control and the state. A field that is not named here is no part of it. Assumes nothing.
use Prim.Native.Nat.{ℕ, zero, suc, ◌+◌, ◌≤◌, zero-le}
use native.Mathlib.Nat.{add-suc}
use native.Mathlib.Omega.{arith}
use mathlib.Core.Path.{◌≡◌, refl, sym, ap, ◌∙◌}
use mathlib.Core.Bool.{Bool, true, false, true≢false}
use mathlib.Core.List.{List, []}
use lib.Dec.{leb, ltb, eqb}
use lib.Ieee.{Float}
use lib.ListN.{length}
use borrow.Author.Tests.{ltb-false, eqb-true, eqb-false}
use Rattle.std.specs.Prelude.{Result, Ok, Err, Option, Some, None}
use Rattle.refusal.specs.declared.Refusal.{Refusal}
use Rattle.refusal.specs.Refusal as refusal
use Rattle.refusal.specs.Refusal.{answer_number}
use Rattle.keys.specs.Keys.{held, digits_of}
use Rattle.keys.specs.declared.Key.{Key}
use Rattle.keys.proofs.Line.{digits-whole, padded-front}
use Rattle.stage.specs.declared.Stage.{Stage}
use Rattle.stage.specs.declared.Shown.{Shown}
use Rattle.stage.specs.declared.Stage.TheVariants as stage
use Rattle.stage.specs.declared.StageState.{StageState}
use Rattle.stage.specs.declared.StageState.TheVariants as at
use Rattle.stage.specs.Stage.{stage_of, stage_number, key_of}
use Rattle.runs.specs.Runs.{counted}
use Rattle.runs.proofs.Counted.{counted_is}
use Rattle.overture.specs.Iteration.{fresh, after, samples, shown_after}
use Rattle.overture.proofs.Iteration.{after-add}
use Rattle.soundness.proofs.States.{sound-parts}
use Rattle.soundness.proofs.First.{first-sound}
use Rattle.soundness.proofs.Limits.{rate-low, rate-high}
use Rattle.soundness.specs.Sound.{rate_ok}
use Rattle.soundness.specs.Sending.{sending_ok}
use Rattle.soundness.proofs.Senders as sender
use Rattle.soundness.proofs.Senders.{SoundSending, sending-ok}
use Rattle.queue.specs.Queue.{is_full}
use Rattle.sender.specs.declared.Sending.{Sending}
use Rattle.sender.specs.Sender.{queued, emptied}
use Rattle.sender.specs.Wave as wave
use Rattle.at.specs.declared.AtProcessor.{AtProcessor}
use Rattle.at.specs.declared.Control.{Control}
use Rattle.at.specs.declared.Control.TheVariants.{Dial, Answer, Hangup}
use Rattle.at.specs.Processor as processor
use Rattle.at.specs.At.{typed_byte, lapse, forced_data}
use Rattle.at.proofs.Sound.{sound-typed, sound-lapse, sound-forced}
use Rattle.session.specs.declared.SessionState.{SessionState}
use Rattle.session.specs.declared.SessionState.TheVariants.{Idle, Dialling, Answering, Connected}
use Rattle.session.specs.Session as session
use Rattle.session.specs.Session.{state_number, idle, answering, dialling, digits_held, connects, shown_state, shown_number, showing, filled, written, key_after}
use Rattle.set.specs.declared.Set.{Set}
use Rattle.set.specs.declared.Typed.{Typed}
use Rattle.set.specs.declared.Lapsed.{Lapsed}
use Rattle.set.specs.declared.Filled.{Filled}
use Rattle.set.specs.Refusals.{Checked, cause_of_typing, cause_of_fill, cause_of_queuing, accepted, if_accepted, answered, checked, told}
use Rattle.set.specs.Sound.{sound}
use Rattle.control.specs.Control.{heard_in, heard, controlled}
use Rattle.set.specs.Set.{moved, sending_for, typing_cause, byte_typed, typed, lapse_cause, lapsed, forced_cause, forced, is_up_in, is_up, raised_if, filled_set, written_if, fill_cause, samples_filled, fill, buffer, queuing_cause, byte_queued, set_typed, set_lapsed, set_filled, key_filled, set_left}
use Rattle.set.specs.Book.{typing, time, forcing, filling, queuing, Book, stage_of_sample, key_of_sample, fed_by, lapsed_by, applied, shown_by, state_if, shown_if, after_fill, filled_in, Entry, declined, asks, fills, queues, unless_declined, entry_of, key_by, key_of_entry, number_of, next_book}
use Rattle.set.proofs.Ranges.{ranges, in-ranges}
use Rattle.set.proofs.Soundness.{after-sound, few-typed, byte-sound, time-sound, forced-sound}

-- where nothing is dialled no samples are to come; else the state is `count` samples into the overture
abbrev pub stage_in : SessionState → ℕ → List ℕ → ℕ → StageState
stage_in Idle r digits count = at.Connected
stage_in Answering r digits count = at.Connected
stage_in Dialling r digits count = after count (fresh digits r) digits r
stage_in Connected r digits count = after count (fresh digits r) digits r

-- what the book fixes of a set
pub record Follows (r : ℕ) (k : Book) (s : Set) : Type 0 where
  pub rate : s.rate ≡ r
  pub processor : s.processor ≡ k.processor
  pub state : s.session.state ≡ k.state
  pub digits : s.session.digits ≡ held k.digits
  pub count : s.session.m ≡ k.count
  pub shown : s.session.shown ≡ k.shown
  pub stage : s.session.stage ≡ stage_in k.state r k.digits k.count
  pub sending : s.sending ≡ k.sending

-- a fill in Dialling writes the samples count + 1 to count + b, and one in Connected the sender's next b
abbrev pub Wrote : ℕ → Book → Entry → List Float → Type 0
Wrote r k (declined cause) left = Unit {0}
Wrote r k (asks control line p) left = Unit {0}
Wrote r k (fills b) left =
    (k.state ≡ Dialling → left ≡ samples b (after k.count (fresh k.digits r) k.digits r) k.digits r)
    × (k.state ≡ Connected → left ≡ wave.samples b k.sending)
Wrote r k (queues byte) left = Unit {0}

-- a number that is not 6, a sound processor and a line that fits, a buffer that is not too long, or room for a byte
abbrev pub InLimits : Book → Entry → Type 0
InLimits k (declined cause) = refusal.number_of cause ≡ 6 → ⊥
InLimits k (asks control line p) = (length line ≤ 76) × (processor.sound p ≡ true)
InLimits k (fills b) = b ≤ 65536
InLimits k (queues byte) = is_full k.sending.queue ≡ false

-- what a call does that comes to the entry
pub record Effect (r : ℕ) (k : Book) (entry : Entry) (next : Set) (cause : Checked) (lights : Option Key) (left : List Float) : Type 0 where
  pub follows : Follows r (next_book r k entry) next
  pub sound : sound next ≡ true
  pub number : answer_number cause ≡ number_of entry
  pub key : lights ≡ key_of_entry r k entry
  pub limits : InLimits k entry
  pub wrote : Wrote r k entry left

-- a sound set that follows the book, whose sender is sound, and of whose call a fill more can be counted
pub record Invariant (r : ℕ) (k : Book) (s : Set) : Type 0 where
  pub follows : Follows r k s
  pub sound : sound s ≡ true
  pub sending : SoundSending k.sending r
  pub room : k.state ≡ Dialling → k.count + 65536 ≤ 5000000

-- ---- what the AT processor asks
module _ (r : ℕ) (k : Book) (s : Set) (f : Follows r k s) where
  applies : (c : Option Control) (line : List ℕ) (p : AtProcessor) → length line ≤ 76
      → Follows r (applied c line p k) (moved s p (controlled c s.session line s.rate) (sending_for c s.sending))
  unfolding controlled dialling idle answering after
  applies None line p short =
      record { rate = f.rate; processor = refl; state = f.state; digits = f.digits; count = f.count; shown = f.shown; stage = f.stage; sending = f.sending }
  applies (Some Answer) line p short = record { rate = f.rate; processor = refl; state = refl; digits = refl; count = refl; shown = refl; stage = refl; sending = ap emptied f.sending }
  applies (Some Hangup) line p short = record { rate = f.rate; processor = refl; state = refl; digits = refl; count = refl; shown = refl; stage = refl; sending = ap emptied f.sending }
  applies (Some Dial) line p short =
      record {
        rate = f.rate;
        processor = refl;
        state = refl;
        digits = ap held (digits-whole line short);
        count = refl;
        shown = refl;
        stage = rw (f.rate, digits-whole line short) (ap (λ (ds : List ℕ). fresh ds r) (padded-front (digits_of line)));
        sending = ap emptied f.sending;
      }

  same-fed : (byte : ℕ) (carrier : Bool) (n : ℕ) → typed_byte s.processor byte (heard s.session carrier) n ≡ fed_by k byte carrier n
  unfolding heard
  same-fed byte carrier n = rw (f.processor, f.state)

  same-lapse : (ns : ℕ) (carrier : Bool) → lapse s.processor ns (heard s.session carrier) ≡ lapsed_by k ns carrier
  unfolding heard
  same-lapse ns carrier = rw (f.processor, f.state)

-- ---- by the cause: a declined call changes neither book nor set, and has no key
by-cause : (r : ℕ) (k : Book) (s : Set) → Invariant r k s → {X : Type 0} (cause : Checked) (entry : Entry) (answer : X) (set_of : X → Set) (key_of : X → Option Key) (left : List Float)
    → (answer_number cause ≡ 6 → ⊥)
    → (accepted cause ≡ true → Effect r k entry (set_of answer) (Ok tt) (key_of answer) left)
    → Effect r k (unless_declined cause entry) (told set_of s (answered cause answer)) (checked (answered cause answer)) (told key_of None (answered cause answer)) left
unfolding accepted
by-cause r k s inv (Ok done) entry answer set_of key_of left never taken = taken refl
by-cause r k s inv (Err cause) entry answer set_of key_of left never taken =
    record { follows = inv.follows; sound = inv.sound; number = refl; key = refl; limits = never; wrote = tt }

-- a call that has no key has none, accepted or declined
abbrev keyless_of : {X : Type 0} → X → Option Key
keyless_of answer = None

no_key : {X : Type 0} (answer : Result X Refusal) → told keyless_of None answer ≡ None
no_key (Ok answer) = refl
no_key (Err cause) = refl

keyless : (r : ℕ) (k : Book) (entry : Entry) (next : Set) (cause : Checked) (left : List Float) → {X : Type 0} (answer : Result X Refusal)
    → Effect r k entry next cause (told keyless_of None answer) left → Effect r k entry next cause None left
keyless r k entry next cause left answer q = rw (no_key answer) at q

typing-never-6 : (room : Bool) → answer_number (cause_of_typing true room) ≡ 6 → ⊥
typing-never-6 false e = omega arith
typing-never-6 true e = omega arith

fill-never-6 : (long : Bool) → answer_number (cause_of_fill true long) ≡ 6 → ⊥
fill-never-6 true e = omega arith
fill-never-6 false e = omega arith

queuing-never-6 : (full : Bool) → answer_number (cause_of_queuing true full) ≡ 6 → ⊥
queuing-never-6 true e = omega arith
queuing-never-6 false e = omega arith

module _ (r : ℕ) (k : Book) (s : Set) (inv : Invariant r k s) where
  good : processor.sound k.processor ≡ true
  good = rw inv.follows.processor at (ranges s inv.sound).processor

  pub typing-effect : (byte : ℕ) (carrier : Bool) (n : ℕ)
      → Effect r k (entry_of k (typing byte carrier n)) (set_typed s (typed s byte carrier n)) (checked (typed s byte carrier n)) None []
  unfolding typed typing_cause entry_of
  typing-effect byte carrier n =
      let few = few-typed k.processor good byte (heard_in k.state carrier) n in
      let cause : Checked = cause_of_typing true (leb 4 n) in
      rw inv.sound
      (keyless r k _ _ _ [] (answered cause (byte_typed s byte carrier n))
      (by-cause r k s inv cause _ (byte_typed s byte carrier n) (λ (a : Typed). a.set) keyless_of []
      (typing-never-6 (leb 4 n))
      (λ _. record {
        follows = rw (same-fed r k s inv.follows byte carrier n) (applies r k s inv.follows (fed_by k byte carrier n).outcome.control _ _ few);
        sound = byte-sound s inv.sound byte carrier n;
        number = refl;
        limits = (few, sound-typed k.processor byte (heard_in k.state carrier) n good);
        key = refl;
        wrote = tt;
      })))

  pub time-effect : (ns : ℕ) (carrier : Bool)
      → Effect r k (entry_of k (time ns carrier)) (set_lapsed s (lapsed s ns carrier)) (checked (lapsed s ns carrier)) None []
  unfolding lapsed lapse_cause entry_of
  time-effect ns carrier =
      rw inv.sound (record {
        follows = rw (same-lapse r k s inv.follows ns carrier) (applies r k s inv.follows (lapsed_by k ns carrier).control [] _ zero-le);
        sound = time-sound s inv.sound ns carrier;
        number = refl;
        key = refl;
        limits = (zero-le, sound-lapse k.processor ns (heard_in k.state carrier) good);
        wrote = tt;
      })

  pub forcing-effect : Effect r k (entry_of k forcing) (set_left s (forced s)) (checked (forced s)) None []
  unfolding forced forced_cause entry_of controlled
  forcing-effect =
      rw inv.sound (record {
        follows = rw (ap forced_data inv.follows.processor) (applies r k s inv.follows None [] (forced_data k.processor) zero-le);
        sound = forced-sound s inv.sound;
        number = refl;
        key = refl;
        limits = (zero-le, sound-forced k.processor good);
        wrote = tt;
      })

-- ---- the book's sender stays sound
module _ (r : ℕ) (ok : rate_ok r ≡ true) where
  applied-sending : (c : Option Control) (line : List ℕ) (p : AtProcessor) (k : Book) → SoundSending k.sending r → SoundSending (applied c line p k).sending r
  applied-sending None line p k h = h
  applied-sending (Some Dial) line p k h = sender.emptied-sound r (rate-low r ok) (rate-high r ok) k.sending h
  applied-sending (Some Answer) line p k h = sender.emptied-sound r (rate-low r ok) (rate-high r ok) k.sending h
  applied-sending (Some Hangup) line p k h = sender.emptied-sound r (rate-low r ok) (rate-high r ok) k.sending h

  raised-sending : (up : Bool) (x : Sending) → SoundSending x r → SoundSending (raised_if up x r) r
  raised-sending true x h = sender.raised-sound r (rate-low r ok) (rate-high r ok) x h.few
  raised-sending false x h = h

  filled-sending : (state : SessionState) (k : Book) (b : ℕ) → SoundSending k.sending r → SoundSending (filled_in state r k b).sending r
  filled-sending Idle k b h = h
  filled-sending Answering k b h = h
  filled-sending Dialling k b h = raised-sending (eqb (shown_by k.digits r k.count b) 10) k.sending h
  filled-sending Connected k b h = sender.after-sound r (rate-low r ok) (rate-high r ok) b k.sending h

  pub next-sending : (k : Book) (entry : Entry) → SoundSending k.sending r → SoundSending (next_book r k entry).sending r
  next-sending k (declined cause) h = h
  next-sending k (asks control line p) h = applied-sending control line p k h
  next-sending k (fills b) h = filled-sending k.state k b h
  next-sending k (queues byte) h = sender.queued-sound r (rate-low r ok) (rate-high r ok) k.sending byte h

-- ---- a fill in Dialling
shown-stage : (digits : List ℕ) (r count b : ℕ)
    → stage_number (shown_after b (after count (fresh digits r) digits r) digits r).stage ≡ shown_by digits r count b
unfolding stage_of_sample
shown-stage digits r count zero = refl
shown-stage digits r count (suc b) =
    rw add-suc (ap (λ (x : StageState). stage_number (stage_of x)) (sym (after-add digits r count b (fresh digits r))))

shown-key : (digits : List ℕ) (r count b : ℕ) → (shown_after b (after count (fresh digits r) digits r) digits r).key ≡ key_by digits r count b
unfolding key_of_sample
shown-key digits r count zero = refl
shown-key digits r count (suc b) = rw add-suc (ap (λ (x : StageState). key_of x digits) (sym (after-add digits r count b (fresh digits r))))

at-most-10 : (x : Stage) → stage_number x ≤ 10
at-most-10 stage.OffHook = omega arith
at-most-10 stage.DialTone = omega arith
at-most-10 stage.Dialling = omega arith
at-most-10 stage.Ringback = omega arith
at-most-10 stage.Ci = omega arith
at-most-10 stage.Ansam = omega arith
at-most-10 stage.CmJm = omega arith
at-most-10 stage.Cj = omega arith
at-most-10 stage.Training = omega arith
at-most-10 stage.Connected = omega arith

shown-most : (up : Bool) (x : Shown) → eqb (stage_number x.stage) 10 ≡ up → shown_number up x ≤ 9
shown-most true x e = zero-le
shown-most false x e = least (stage_number x.stage) (at-most-10 x.stage) (eqb-false _ 10 e)
  where
    least : (n : ℕ) → n ≤ 10 → (n ≡ 10 → ⊥) → n ≤ 9
    least n l d = omega arith

module _ (r : ℕ) (k : Book) (s : Set) (inv : Invariant r k s) where
  ok : rate_ok r ≡ true
  ok = rw inv.follows.rate at (sound-parts _ _ _ (ranges s inv.sound).state).rate

  sending-is-ok : (x y : Sending) → y ≡ x → SoundSending x r → sending_ok y s.rate ≡ true
  sending-is-ok x y e h = rw (e, inv.follows.rate) (sending-ok r (rate-low r ok) (rate-high r ok) x h)

module _ (r : ℕ) (p : AtProcessor) (digits : List ℕ) (count shown : ℕ) (x : Sending) (s : Set) where
  abbrev playing : Book
  playing = record { processor = p; state = Dialling; digits = digits; count = count; shown = shown; sending = x }

  module _ (inv : Invariant r playing s) (b : ℕ) where
    f : Follows r playing s
    f = inv.follows

    held-digits : digits_held s.session ≡ digits
    held-digits = rw f.digits (padded-front digits)

    shows : stage_number (shown_after b s.session.stage (digits_held s.session) s.rate).stage ≡ shown_by digits r count b
    shows = rw (held-digits, f.stage, f.rate) (shown-stage digits r count b)

    lights : (shown_after b s.session.stage (digits_held s.session) s.rate).key ≡ key_by digits r count b
    lights = rw (held-digits, f.stage, f.rate) (shown-key digits r count b)

    onward : after b s.session.stage (digits_held s.session) s.rate ≡ after (count + b) (fresh digits r) digits r
    onward = rw (held-digits, f.stage, f.rate) (sym (after-add digits r count b (fresh digits r)))

    writes : samples b s.session.stage (digits_held s.session) s.rate ≡ samples b (after count (fresh digits r) digits r) digits r
    writes = rw (held-digits, f.stage, f.rate)

    abbrev next : Shown → StageState → Set
    next h st = moved s s.processor (showing s.session h b st) (raised_if (is_up_in (shown_state (connects h))) s.sending s.rate)

    same-state : (up : Bool) → shown_state up ≡ state_if up
    same-state true = refl
    same-state false = refl

    same-shown : (up : Bool) (h : Shown) → shown_number up h ≡ shown_if up (stage_number h.stage)
    same-shown true h = refl
    same-shown false h = refl

    same-stage : (up : Bool) → stage_in (state_if up) r digits (count + b) ≡ after (count + b) (fresh digits r) digits r
    same-stage true = refl
    same-stage false = refl

    same-sending : (up : Bool) → raised_if (is_up_in (shown_state up)) s.sending s.rate ≡ raised_if up x r
    unfolding state_number
    same-sending true = rw (f.sending, f.rate)
    same-sending false = f.sending

    within : b ≤ 65536 → counted b s.session.m ≡ count + b
    within short = ap (counted b) f.count ∙ counted_is b count (omega (arith, inv.room refl))

    filled-follows : b ≤ 65536 → (h : Shown) (st : StageState) → stage_number h.stage ≡ shown_by digits r count b → st ≡ after (count + b) (fresh digits r) digits r
        → Follows r (after_fill (eqb (shown_by digits r count b) 10) r (shown_by digits r count b) (count + b) playing) (next h st)
    unfolding connects
    filled-follows short h st e g =
        record {
          rate = f.rate;
          processor = f.processor;
          state = rw (← e) (same-state (eqb (stage_number h.stage) 10));
          digits = f.digits;
          count = within short;
          shown = rw (← e) (same-shown (eqb (stage_number h.stage) 10) h);
          stage = g ∙ sym (same-stage (eqb (shown_by digits r count b) 10));
          sending = rw (← e) (same-sending (eqb (stage_number h.stage) 10));
        }

    filled-sound : b ≤ 65536 → (h : Shown) (st : StageState) → st ≡ after (count + b) (fresh digits r) digits r → sound (next h st) ≡ true
    unfolding connects
    filled-sound short h st g =
        let q = ranges s inv.sound in
        let parts = sound-parts _ _ _ q.state in
        let up = eqb (stage_number h.stage) 10 in
        in-ranges _ (record {
          digits = q.digits;
          state = rw (g, held-digits, f.rate) (after-sound digits r (count + b) (fresh digits r) (first-sound _ digits r (rw f.rate at parts.rate) (rw held-digits at parts.keys))).1;
          processor = q.processor;
          count = rw (within short) (omega (arith, inv.room refl));
          shown = shown-most up h refl;
          sending = sending-is-ok r playing s inv (raised_if up x r) _ (same-sending up) (raised-sending r (ok r playing s inv) up x inv.sending);
        })

-- a fill that is accepted is not too long
filling-by : (r : ℕ) (p : AtProcessor) (state : SessionState) (digits : List ℕ) (count shown : ℕ) (x : Sending) (s : Set) (b : ℕ) (long : Bool)
    → let book : Book = record { processor = p; state = state; digits = digits; count = count; shown = shown; sending = x } in
    Invariant r book s → ltb 65536 b ≡ long → accepted (cause_of_fill true long) ≡ true
    → Effect r book (fills b) (filled_set s b) (Ok tt) (key_after s.session b s.rate) (written_if (is_up s.session) s b)
unfolding accepted state_number filled written key_after
filling-by r p state digits count shown x s b true inv e allowed = absurd (true≢false (sym allowed))
filling-by r p Idle digits count shown x s b false inv e allowed =
    let same : filled s.session b s.rate ≡ s.session = ap (λ (st : SessionState). session.filled_in st s.session b s.rate) inv.follows.state in
    let dark = ap (λ (st : SessionState). session.key_in st s.session b s.rate) inv.follows.state in
    let down : is_up s.session ≡ false = ap is_up_in inv.follows.state in
    rw (same, down) (record {
      follows = inv.follows;
      sound = inv.sound;
      number = refl;
      key = dark;
      limits = ltb-false 65536 b e;
      wrote = (λ (d : Idle ≡ Dialling). absurd (eqb-false 0 1 refl (ap state_number d)), λ (d : Idle ≡ Connected). absurd (eqb-false 0 3 refl (ap state_number d)));
    })
filling-by r p Answering digits count shown x s b false inv e allowed =
    let same : filled s.session b s.rate ≡ s.session = ap (λ (st : SessionState). session.filled_in st s.session b s.rate) inv.follows.state in
    let dark = ap (λ (st : SessionState). session.key_in st s.session b s.rate) inv.follows.state in
    let down : is_up s.session ≡ false = ap is_up_in inv.follows.state in
    rw (same, down) (record {
      follows = inv.follows;
      sound = inv.sound;
      number = refl;
      key = dark;
      limits = ltb-false 65536 b e;
      wrote = (λ (d : Answering ≡ Dialling). absurd (eqb-false 2 1 refl (ap state_number d)), λ (d : Answering ≡ Connected). absurd (eqb-false 2 3 refl (ap state_number d)));
    })
filling-by r p Connected digits count shown x s b false inv e allowed =
    let same : filled s.session b s.rate ≡ s.session = ap (λ (st : SessionState). session.filled_in st s.session b s.rate) inv.follows.state in
    let dark = ap (λ (st : SessionState). session.key_in st s.session b s.rate) inv.follows.state in
    let up : is_up s.session ≡ true = ap is_up_in inv.follows.state in
    let book : Book = record { processor = p; state = Connected; digits = digits; count = count; shown = shown; sending = x } in
    let f = inv.follows in
    let q = ranges s inv.sound in
    let on = next-sending r (ok r book s inv) book (fills b) inv.sending in
    let played = ap (wave.after b) f.sending in
    rw (same, up) (record {
      follows = record { rate = f.rate; processor = f.processor; state = f.state; digits = f.digits; count = f.count; shown = f.shown; stage = f.stage; sending = played };
      sound = in-ranges _ (record { digits = q.digits; state = q.state; processor = q.processor; count = q.count; shown = q.shown; sending = sending-is-ok r book s inv _ _ played on });
      number = refl;
      key = dark;
      limits = ltb-false 65536 b e;
      wrote = (λ (d : Connected ≡ Dialling). absurd (eqb-false 3 1 refl (ap state_number d)), λ (d : Connected ≡ Connected). ap (wave.samples b) f.sending);
    })
filling-by r p Dialling digits count shown x s b false inv e allowed =
    let same = ap (λ (st : SessionState). session.filled_in st s.session b s.rate) inv.follows.state in
    let wrote = ap (λ (st : SessionState). session.written_in st s.session b s.rate) inv.follows.state in
    let key = ap (λ (st : SessionState). session.key_in st s.session b s.rate) inv.follows.state in
    let down : is_up s.session ≡ false = ap is_up_in inv.follows.state in
    let short = ltb-false 65536 b e in
    rw (same, down, wrote) (record {
      follows = filled-follows r p digits count shown x s inv b short _ _ (shows r p digits count shown x s inv b) (onward r p digits count shown x s inv b);
      sound = filled-sound r p digits count shown x s inv b short _ _ (onward r p digits count shown x s inv b);
      number = refl;
      key = key ∙ lights r p digits count shown x s inv b;
      limits = short;
      wrote = (λ (d : Dialling ≡ Dialling). writes r p digits count shown x s inv b, λ (d : Dialling ≡ Connected). absurd (eqb-false 1 3 refl (ap state_number d)));
    })

pub filling-effect : (r : ℕ) (k : Book) (s : Set) → Invariant r k s → (was : List Float)
    → Effect r k (entry_of k (filling (length was))) (set_filled s (fill s (length was))) (checked (fill s (length was))) (key_filled (fill s (length was))) (buffer s was)
unfolding fill buffer fill_cause entry_of
filling-effect r k s inv was =
    let b = length was in
    rw inv.sound
    (by-cause r k s inv (cause_of_fill true (ltb 65536 b)) (fills b) (samples_filled s b) (λ (a : Filled). a.set) (λ (a : Filled). a.key) _
    (fill-never-6 (ltb 65536 b))
    (λ allowed. rw allowed (filling-by r k.processor k.state k.digits k.count k.shown k.sending s b (ltb 65536 b) inv refl allowed)))

-- ---- a byte is queued
has_room : (full : Bool) → accepted (cause_of_queuing true full) ≡ true → full ≡ false
unfolding accepted
has_room true e = absurd (true≢false (sym e))
has_room false e = refl

pub queuing-effect : (r : ℕ) (k : Book) (s : Set) → Invariant r k s → (byte : ℕ)
    → Effect r k (entry_of k (queuing byte)) (set_left s (byte_queued s byte)) (checked (byte_queued s byte)) None []
unfolding byte_queued queuing_cause entry_of
queuing-effect r k s inv byte =
    let f = inv.follows in
    let q = ranges s inv.sound in
    let full = is_full k.sending.queue in
    let same : is_full s.sending.queue ≡ full = ap (λ (x : Sending). is_full x.queue) f.sending in
    let longer = ap (λ (x : Sending). queued x byte) f.sending in
    let on = next-sending r (ok r k s inv) k (queues byte) inv.sending in
    rw (inv.sound, same)
    (keyless r k _ _ _ [] (answered (cause_of_queuing true full) (moved s s.processor s.session (queued s.sending byte)))
    (by-cause r k s inv (cause_of_queuing true full) (queues byte) (moved s s.processor s.session (queued s.sending byte)) (λ (a : Set). a) keyless_of []
    (queuing-never-6 full)
    (λ allowed. record {
      follows = record { rate = f.rate; processor = f.processor; state = f.state; digits = f.digits; count = f.count; shown = f.shown; stage = f.stage; sending = longer };
      sound = in-ranges _ (record { digits = q.digits; state = q.state; processor = q.processor; count = q.count; shown = q.shown; sending = sending-is-ok r k s inv _ _ longer on });
      number = refl;
      key = refl;
      limits = has_room full allowed;
      wrote = tt;
    })))
