-- A list of steps expands to one of single calls, and what holds at every point of that one is read back: `run` over the calls of each step. No
-- case of a call and no state of a set is looked at here. Assumes nothing.
use Prim.Native.Nat.{ℕ}
use mathlib.Core.Path.{◌≡◌, refl, sym, ap, subst, ◌∙◌}
use mathlib.Core.Bool.{true}
use mathlib.Core.List.{List, [], ◌∷◌, map}
use Rattle.soundness.specs.Sound.{rate_ok}
use Rattle.set.specs.declared.Set.{Set}
use Rattle.set.specs.Sound.{sound}
use Rattle.set.specs.Book.{Call, Book}
use Rattle.set.specs.Event.{Event}
use Rattle.claim.specs.Trace.{Trace, set_after}
use Rattle.claim.specs.Claim.{SinceDial, AllAnswered, call_of, book_after, since_after}
use Rattle.claim.specs.Expand.{History, after, all_singles, all_calls, Each}
use Rattle.claim.proofs.Claim.{ListInvariant, run}
use Rattle.claim.proofs.Joined.{trace-joined, set-joined, book-joined, since-joined}

-- the calls that a step comes to: they were made on the set within, and lead to the set within what the step returned
pub record Counts (s : Set) (es : List Event) (next : Set) (calls : List Call) : Type 0 where
  pub trace : Trace s es
  pub set : set_after s es ≡ next
  pub asked : map call_of es ≡ calls

module _ (r : ℕ) (ok : rate_ok r ≡ true) {Outer Step : Type 0} (inner : Outer → Set) (next : Step → Outer) (Happened : Outer → Step → Type 0)
    (singles : Outer → Step → List Event) (calls_of : Step → List Call) (P : Outer → Book → Step → Type 0)
    (counts : (o : Outer) → sound (inner o) ≡ true → (x : Step) → Happened o x → Counts (inner o) (singles o x) (inner (next x)) (calls_of x))
    (tells : (o : Outer) (k : Book) (h : SinceDial) (x : Step) → ListInvariant r (inner o) k h → Happened o x → AllAnswered r (inner o) k (singles o x)
    → ListInvariant r (inner (next x)) (book_after r k (calls_of x)) (since_after r k h (singles o x)) → P o k x) where
  pub record Expanded (o : Outer) (k : Book) (h : SinceDial) (xs : List Step) : Type 0 where
    pub each : Each next r calls_of P o k xs
    pub trace : Trace (inner o) (all_singles next singles o xs)
    pub set : set_after (inner o) (all_singles next singles o xs) ≡ inner (after next o xs)
    pub last : ListInvariant r (inner (after next o xs)) (book_after r k (all_calls next calls_of xs)) (since_after r k h (all_singles next singles o xs))

  pub expanded : (o : Outer) (k : Book) (h : SinceDial) → ListInvariant r (inner o) k h → (xs : List Step) → History next Happened o xs → Expanded o k h xs
  expanded o k h at [] t = record { each = tt; trace = tt; set = refl; last = at }
  expanded o k h at (x ∷ xs) (did, t) =
      let c = counts o at.sound x did in
      let q = run r ok (inner o) k h at (singles o x) c.trace in
      let on : ListInvariant r (inner (next x)) (book_after r k (calls_of x)) (since_after r k h (singles o x)) = rw (c.set, c.asked) at q.last in
      let rest = expanded (next x) (book_after r k (calls_of x)) (since_after r k h (singles o x)) on xs t in
      let later = all_singles next singles (next x) xs in
      record {
        each = (tells o k h x at did q.answered on, rest.each);
        trace = trace-joined (inner o) (singles o x) later c.trace (subst (λ (s : Set). Trace s later) (sym c.set) rest.trace);
        set = set-joined (inner o) (singles o x) later ∙ ap (λ (s : Set). set_after s later) c.set ∙ rest.set;
        last = rw (book-joined r k (calls_of x) (all_calls next calls_of xs), since-joined r k h (singles o x) later, c.asked) rest.last;
      }
