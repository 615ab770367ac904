-- The claim about every list of calls, strings among them. On a sound set a string counts as its bytes typed singly, by its own contract; at every
-- point of the list set, book and what came since the dial line are those after the single calls so far. Assumes nothing.
use Prim.Native.Nat.{ℕ, ◌*◌}
use native.Mathlib.Omega.{arith}
use mathlib.Core.Path.{◌≡◌, refl, sym, ap, ◌∙◌}
use mathlib.Core.Bool.{Bool, true, false, ◌||◌}
use mathlib.Core.List.{List, [], ◌∷◌, ◌++◌, map}
use lib.Dec.{ltb}
use lib.ListN.{length}
use Rattle.std.specs.Prelude.{Result}
use Rattle.refusal.specs.declared.Refusal.{Refusal}
use Rattle.reply.specs.Codes.{first_of, second_of}
use Rattle.soundness.specs.Sound.{rate_ok}
use Rattle.set.specs.declared.Set.{Set}
use Rattle.set.specs.declared.TypedAll.{TypedAll}
use Rattle.refusal.specs.Refusal.{answer_number}
use Rattle.set.specs.Refusals.{checked, cause_of_creation, cause_of_string, accepted, either, if_accepted}
use Rattle.set.specs.Sound.{sound}
use Rattle.set.specs.Set as set
use Rattle.set.specs.String.{four, set_by, put_by, sent_by, codes_by, cause_by_lengths, string_cause, bytes_typed, typed_all, at_front, outbox_all, codes_all}
use Rattle.set.specs.Book.{Call, typing, Book, blank}
use Rattle.set.specs.Event.{string_event}
use Rattle.set.proofs.Answers.{typed-all-answers}
use Rattle.set.proofs.Unchanged.{told-if}
use Rattle.claim.specs.Trace.{typed, Trace, set_after}
use Rattle.claim.specs.Claim.{SinceDial, not_called, AllAnswered, call_of, book_after, since_after}
use Rattle.claim.specs.Strings.{Step, set_of, Happened, called, typed_all as typed-all, History, typed_singly, singles, sent_in, codes_in, typings, calls_of, all_calls, StepAnswered, Claim}
use Rattle.claim.proofs.Claim.{ListInvariant, played, fresh-invariant}
use Rattle.claim.proofs.Sent.{sends}
use Rattle.claim.proofs.Expand.{Counts, Expanded, expanded}

-- ---- the bytes typed singly
singly-trace : (s : Set) (bytes : List ℕ) (carrier : Bool) → Trace s (typed_singly s bytes carrier)
singly-trace s [] carrier = tt
singly-trace s (byte ∷ bytes) carrier =
    (typed byte carrier four (set.outbox s byte four) (set.typed s byte carrier 4) (refl, refl), singly-trace (set.set_typed s (set.typed s byte carrier 4)) bytes carrier)

singly-set : (s : Set) (bytes : List ℕ) (carrier : Bool) → set_after s (typed_singly s bytes carrier) ≡ set_by s bytes carrier
unfolding set_by
singly-set s [] carrier = refl
singly-set s (byte ∷ bytes) carrier = singly-set (set.set_typed s (set.typed s byte carrier 4)) bytes carrier

pub singly-calls : (s : Set) (bytes : List ℕ) (carrier : Bool) → map call_of (typed_singly s bytes carrier) ≡ typings bytes carrier
singly-calls s [] carrier = refl
singly-calls s (byte ∷ bytes) carrier = ap (λ (l : List Call). typing byte carrier 4 ∷ l) (singly-calls (set.set_typed s (set.typed s byte carrier 4)) bytes carrier)

singly-sent : (s : Set) (bytes : List ℕ) (carrier : Bool) → sent_by s bytes carrier ≡ sent_in (typed_singly s bytes carrier)
unfolding sent_by
singly-sent s [] carrier = refl
singly-sent s (byte ∷ bytes) carrier = ap (λ (l : List ℕ). put_by s byte carrier ++ l) (singly-sent (set.set_typed s (set.typed s byte carrier 4)) bytes carrier)

singly-codes : (s : Set) (bytes : List ℕ) (carrier : Bool) → codes_by s bytes carrier ≡ codes_in (typed_singly s bytes carrier)
unfolding codes_by
singly-codes s [] carrier = refl
singly-codes s (byte ∷ bytes) carrier = ap (λ (l : List ℕ). first_of (set.reply_typed (set.typed s byte carrier 4)) ∷ second_of (set.reply_typed (set.typed s byte carrier 4)) ∷ set.s12_of (set.set_typed s (set.typed s byte carrier 4)) ∷ l) (singly-codes (set.set_typed s (set.typed s byte carrier 4)) bytes carrier)

-- what a string leaves, by its cause
module _ (s : Set) (bytes : List ℕ) (carrier : Bool) where
  left_by : (t : Bool) (was left : List ℕ) → left ≡ either t (at_front (sent_by s bytes carrier) was) was
      → left ≡ at_front (sent_in (either t (typed_singly s bytes carrier) [])) was
  left_by false was left e = e
  left_by true was left e = e ∙ ap (λ (l : List ℕ). at_front l was) (singly-sent s bytes carrier)

  count_by : (t : Bool) (n : ℕ) → n ≡ either t (length (sent_by s bytes carrier)) 0 → n ≡ length (sent_in (either t (typed_singly s bytes carrier) []))
  count_by false n e = e
  count_by true n e = e ∙ ap length (singly-sent s bytes carrier)

  codes-by : (t : Bool) (was left : List ℕ) → left ≡ either t (at_front (codes_by s bytes carrier) was) was
      → left ≡ at_front (codes_in (either t (typed_singly s bytes carrier) [])) was
  codes-by false was left e = e
  codes-by true was left e = e ∙ ap (λ (l : List ℕ). at_front l was) (singly-codes s bytes carrier)

-- ---- what a step comes to on a sound set
module _ (s : Set) (bytes : List ℕ) (carrier : Bool) where
  counts-by : (t : Bool) (next : Set) → next ≡ either t (set_by s bytes carrier) s
      → Counts s (either t (typed_singly s bytes carrier) []) next (either t (typings bytes carrier) [])
  counts-by false next e = record { trace = tt; set = sym e; asked = refl }
  counts-by true next e =
      record { trace = singly-trace s bytes carrier; set = singly-set s bytes carrier ∙ sym e; asked = singly-calls s bytes carrier }

pub counts : (s : Set) → sound s ≡ true → (x : Step) → Happened s x → Counts s (singles s x) (set_of x) (calls_of x)
unfolding typed_all string_cause
counts s ok x (called e did) = record { trace = (did, tt); set = refl; asked = refl }
counts s ok x (typed-all bytes carrier was left codes codes_left answer promised) =
    let told : answer ≡ typed_all s bytes carrier (length was) (length codes) = promised.0 in
    let cause = cause_by_lengths true (length bytes) (length was) (length codes) in
    counts-by s bytes carrier (accepted cause) _ (rw ok at (ap (λ (a : Result TypedAll Refusal). (string_event s bytes carrier was left codes codes_left a).set) told ∙ told-if (string_cause s (length bytes) (length was) (length codes)) (λ (t : TypedAll). t.set) s (bytes_typed s bytes carrier)))

never-6 : (n room places : ℕ) → answer_number (cause_by_lengths true n room places) ≡ 6 → ⊥
never-6 n room places six = go (ltb 256 n) (ltb room (4 * n) || ltb places (3 * n)) six
  where
    go : (long short : Bool) → answer_number (cause_of_string true long short) ≡ 6 → ⊥
    go true short e = omega arith
    go false true e = omega arith
    go false false e = omega arith

module _ (r : ℕ) (ok : rate_ok r ≡ true) where
  pub tells : (s : Set) (k : Book) (h : SinceDial) (x : Step) → ListInvariant r s k h → Happened s x → AllAnswered r s k (singles s x)
      → ListInvariant r (set_of x) (book_after r k (calls_of x)) (since_after r k h (singles s x)) → StepAnswered r s k x
  unfolding string_cause typed_all outbox_all codes_all
  tells s k h x at (called e did) each on = each.0
  tells s k h x at (typed-all bytes carrier was left codes codes_left answer promised) each on =
      let a = typed-all-answers s bytes carrier was left codes codes_left answer promised in
      let number = ap answer_number (rw at.sound at a.refusal) in
      let taken = accepted (cause_by_lengths true (length bytes) (length was) (length codes)) in
      record {
        number = number;
        sound = λ (six : answer_number (checked answer) ≡ 6). never-6 (length bytes) (length was) (length codes) (sym number ∙ six);
        unchanged = a.unchanged;
        bytes = each;
        outbox = left_by s bytes carrier taken was left (rw at.sound at promised.1.0);
        sent = count_by s bytes carrier taken _ (rw at.sound at (ap (λ (a : Result TypedAll Refusal). (string_event s bytes carrier was left codes codes_left a).sent) promised.0 ∙ told-if (string_cause s (length bytes) (length was) (length codes)) (λ (t : TypedAll). t.sent) 0 (bytes_typed s bytes carrier)));
        codes = codes-by s bytes carrier taken codes codes_left (rw at.sound at promised.1.1);
        reports = record { count = on.follows.count; state = on.follows.state; stage = on.follows.shown };
      }

  abbrev Runs : List Step → Type 0
  Runs xs = Expanded r ok (λ (s : Set). s) set_of Happened singles calls_of (StepAnswered r) counts tells (set.fresh_set r) (blank r) not_called xs

  pub fresh-runs : (xs : List Step) → History (set.fresh_set r) xs → Runs xs
  fresh-runs xs t =
      expanded r ok (λ (s : Set). s) set_of Happened singles calls_of (StepAnswered r) counts tells (set.fresh_set r) (blank r) not_called (fresh-invariant r ok) xs t

  fresh_holds : Claim (set.fresh_set r)
  fresh_holds xs t =
      let q = fresh-runs xs t in
      record { answered = q.each; singly = q.trace; same = q.set; played = λ called. played r ok _ _ _ q.last called; sent = rw q.last.follows.sending (sends r (book_after r (blank r) (all_calls xs)) _ q.last.sent) }

-- a set that creation hands out is fresh at a rate in limits
pub claim : (rate : ℕ) → Claim (set.made rate).set
unfolding set.made set.creation_cause rate_ok accepted
claim rate = go (rate_ok rate) refl
  where
    go : (t : Bool) → rate_ok rate ≡ t → Claim (set.fresh_set (if_accepted (cause_of_creation t) rate 8000))
    go true ok = fresh_holds rate ok
    go false ok = fresh_holds 8000 refl
