-- What is claimed of every list of single calls, from what each call's own contract tells. The set is at every point the one that the book stands
-- for; the book, and what came since the dial line, are carried from the left. Assumes nothing.
use Prim.Native.Nat.{ℕ, ◌+◌, ◌≤◌, ◌<◌}
use native.Mathlib.Omega.{arith}
use mathlib.Core.Path.{◌≡◌, refl, sym, ap, ◌∙◌}
use mathlib.Core.Bool.{true, true≢false}
use mathlib.Core.List.{List, [], ◌∷◌, map}
use mathlib.Core.Logic.{◌⊎◌, inl, inr, ⊎_elim, ◌↔◌}
use lib.ListN.{length}
use Rattle.schedule.proofs.Total.{total-bounds}
use Rattle.passage.proofs.Overture.{overture-length}
use Rattle.passage.proofs.Connected.{samples-past}
use Rattle.soundness.specs.Sound.{rate_ok}
use Rattle.soundness.proofs.Senders.{SoundSending, fresh-sound as fresh-sender}
use Rattle.soundness.proofs.Limits.{rate-low, rate-high, digits-few}
use Rattle.session.specs.declared.SessionState.{SessionState}
use Rattle.session.specs.declared.SessionState.TheVariants.{Idle, Dialling, Answering, Connected}
use Rattle.session.specs.Session.{state_number, idle}
use Rattle.set.specs.declared.Set.{Set}
use Rattle.refusal.specs.Refusal.{answer_number}
use Rattle.set.specs.Sound.{sound}
use Rattle.set.specs.Set as set
use Rattle.set.specs.Book.{Book, blank, overture, length_of, entry_of, entered}
use Rattle.set.specs.Event.{Event}
use Rattle.set.proofs.Soundness.{fresh-sound}
use Rattle.set.proofs.Follows.{Follows, Invariant, next-sending}
use Rattle.set.proofs.Steps.{Stepped, feed-steps, advance-time-steps, force-data-mode-steps, process-out-steps, queue-byte-steps}
use Rattle.claim.specs.Trace.{Did, typed, lapsed, forced, filled, queued, Trace, set_after}
use Rattle.claim.specs.Claim.{SinceDial, not_called, since_next, NeverBack, Answered, AllAnswered, call_of, book_after, since_after, bits_of, Played}
use Rattle.claim.proofs.Consistent.{Progress, Consistent, room-left, never-6, entry-consistent, blank-consistent}
use Rattle.claim.proofs.Sent.{SentSoFar, blank-sent, entry-sent}

-- what each call's own contract tells
one : (r : ℕ) (k : Book) (s : Set) → Invariant r k s → (e : Event) → Did s e → Stepped r k s e
one r k s inv e (typed byte carrier was left answer promised) = feed-steps r k s inv byte carrier was left answer promised
one r k s inv e (lapsed ns carrier answer promised) = advance-time-steps r k s inv ns carrier answer promised
one r k s inv e (forced answer promised) = force-data-mode-steps r k s inv answer promised
one r k s inv e (filled was left answer promised) = process-out-steps r k s inv was left answer promised
one r k s inv e (queued byte answer promised) = queue-byte-steps r k s inv byte answer promised

-- ---- at every point of a list: the set, the book with its sender, and what came since the dial line
pub record ListInvariant (r : ℕ) (s : Set) (k : Book) (h : SinceDial) : Type 0 where
  pub follows : Follows r k s
  pub sound : sound s ≡ true
  pub consistent : Consistent r k h
  pub sending : SoundSending k.sending r
  pub sent : SentSoFar r k h.sent

pub record Runs (r : ℕ) (s : Set) (k : Book) (h : SinceDial) (es : List Event) : Type 0 where
  pub answered : AllAnswered r s k es
  pub last : ListInvariant r (set_after s es) (book_after r k (map call_of es)) (since_after r k h es)

module _ (r : ℕ) (ok : rate_ok r ≡ true) where
  pub step : (s : Set) (k : Book) (h : SinceDial) → ListInvariant r s k h → (e : Event) → Did s e
      → Answered r s k e × ListInvariant r e.set (entered r k e.call) (since_next r k h e)
  unfolding entered
  step s k h at e did =
      let q = one r k s (record { follows = at.follows; sound = at.sound; sending = at.sending; room = room-left r ok k h at.consistent }) e did in
      let f = q.effect.follows in (
        record {
          number = q.effect.number;
          sound = λ (six : answer_number e.refusal ≡ 6). never-6 r ok k (entry_of k e.call) q.effect.limits (sym q.effect.number ∙ six);
          unchanged = q.unchanged;
          reports = record { count = f.count; state = f.state; stage = f.shown };
          key = q.effect.key;
        },
        record {
          follows = f;
          sound = q.effect.sound;
          consistent = rw (f.state, f.shown) (entry-consistent r ok k h at.consistent (entry_of k e.call) q.effect.limits e.left.samples q.effect.wrote);
          sending = next-sending r ok k (entry_of k e.call) at.sending;
          sent = rw f.state (entry-sent r k h at.sent (entry_of k e.call) q.effect.limits e.left.samples q.effect.wrote e.set.session.shown);
        },
      )

  -- the induction
  pub run : (s : Set) (k : Book) (h : SinceDial) → ListInvariant r s k h → (es : List Event) → Trace s es → Runs r s k h es
  run s k h at [] t = record { answered = tt; last = at }
  run s k h at (e ∷ es) (did, t) =
      let q = step s k h at e did in
      let rest = run e.set (entered r k e.call) (since_next r k h e) q.1 es t in
      record { answered = (q.0, rest.answered); last = rest.last }

  -- what the progress says at the list's end
  up-exactly : (state : SessionState) (digits : List ℕ) (count shown : ℕ) (h : SinceDial) → Progress r state digits count shown h → h.called ≡ true
      → (state ≡ Connected) ↔ ((length_of digits r < count) ⊎ (h.emptied ≡ true))
  unfolding state_number
  up-exactly Idle digits count shown h c called = absurd (true≢false (sym called ∙ c.1))
  up-exactly Answering digits count shown h c called = absurd (true≢false (sym called ∙ c.1))
  up-exactly Dialling digits count shown h c called = (
    λ (e : Dialling ≡ Connected). absurd (omega (arith, ap state_number e)),
    λ (p : (length_of digits r < count) ⊎ (h.emptied ≡ true)).
        absurd (⊎_elim (λ (l : length_of digits r < count). past (length_of digits r) count l c.most) (λ (e : h.emptied ≡ true). true≢false (sym e ∙ c.waiting)) p),
  )
    where
      past : (T count : ℕ) → T < count → count ≤ T → ⊥
      past T count l m = omega arith
  up-exactly Connected digits count shown h c called = (
    λ (e : Connected ≡ Connected).
        ⊎_elim (λ (l : length_of digits r < count). inl l) (λ (q : (count ≡ length_of digits r) × (h.emptied ≡ true)). inr q.1) c.past,
    λ (p : (length_of digits r < count) ⊎ (h.emptied ≡ true)). refl,
  )

  wrote : (state : SessionState) (digits : List ℕ) (count shown : ℕ) (h : SinceDial) → Progress r state digits count shown h → h.called ≡ true
      → (h.joined ≡ overture digits r count) × (count ≡ h.lengths) × NeverBack h.stages
  wrote Idle digits count shown h c called = absurd (true≢false (sym called ∙ c.1))
  wrote Answering digits count shown h c called = absurd (true≢false (sym called ∙ c.1))
  wrote Dialling digits count shown h c called = (c.wrote, c.sum, c.rising)
  wrote Connected digits count shown h c called = (c.wrote, c.sum, c.rising)

  pub played : (s : Set) (k : Book) (h : SinceDial) → ListInvariant r s k h → h.called ≡ true → Played r s k.digits (length_of k.digits r) h
  played s k h at called =
      let told = at.follows in
      let consistent = at.consistent in
      let few = digits-few k.digits consistent.digits in
      let long = overture-length k.digits r (rate-low r ok) (rate-high r ok) few in
      let w = wrote k.state k.digits k.count k.shown h consistent.progress called in
      record {
        ends = long;
        bounds = total-bounds r (rate-low r ok) (rate-high r ok) (length k.digits) few;
        samples = ap bits_of (w.0 ∙ ap (overture k.digits r) (sym told.count));
        past = λ (j : ℕ) (m : s.session.m ≡ length_of k.digits r + j).
            ap bits_of (w.0 ∙ ap (overture k.digits r) (sym told.count ∙ m) ∙ samples-past k.digits r (length_of k.digits r) long j);
        count = told.count ∙ w.1;
        stages = w.2;
        up = rw (told.state, told.count) (up-exactly k.state k.digits k.count k.shown h consistent.progress called);
      }

  pub fresh-invariant : ListInvariant r (set.fresh_set r) (blank r) not_called
  unfolding idle
  fresh-invariant =
      record {
        follows = record { rate = refl; processor = refl; state = refl; digits = refl; count = refl; shown = refl; stage = refl; sending = refl };
        sound = fresh-sound r ok;
        consistent = blank-consistent r;
        sending = fresh-sender r (rate-low r ok) (rate-high r ok);
        sent = blank-sent r;
      }
