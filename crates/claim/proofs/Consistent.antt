-- What holds of the book and of what came since the dial line, at every point of a list: each call keeps it. By cases of the call, and of a fill by
-- whether it is empty and whether its stage is Connected. Assumes nothing.
use Prim.Native.Nat.{ℕ, zero, suc, ◌+◌, ◌≤◌, ◌<◌}
use native.Mathlib.Nat.{add-zero, add-suc, le_refl, le_trans, le_of_suc-le-suc, lt_of_not-le}
use native.Mathlib.Omega.{arith}
use mathlib.Core.Path.{◌≡◌, refl, sym, ap, ◌∙◌}
use mathlib.Core.Bool.{Bool, true, false, true≢false}
use mathlib.Core.List.{List, [], ◌∷◌, ◌++◌}
use mathlib.Core.Logic.{◌⊎◌, inl, inr}
use lib.Dec.{eqb-suc-zero, eqb}
use lib.Ieee.{Float}
use lib.ListN.{length}
use borrow.Author.Tests.{eqb-true, eq-eqb, ne_eqb}
use Rattle.keys.specs.Keys.{all_keys}
use Rattle.stage.specs.Stage.{stage_number}
use Rattle.overture.specs.Iteration.{fresh, after, samples}
use Rattle.overture.proofs.Iteration.{samples-add}
use Rattle.passage.specs.Overture.{HasLength}
use Rattle.passage.proofs.Overture.{overture-length, total-room}
use Rattle.passage.proofs.Connected.{connected-exactly}
use Rattle.passage.proofs.Stages.{never-falls}
use Rattle.soundness.specs.Sound.{rate_ok, digits_ok}
use Rattle.soundness.proofs.Limits.{rate-low, rate-high, digits-few}
use Rattle.at.specs.declared.AtProcessor.{AtProcessor}
use Rattle.std.specs.Prelude.{Option, Some, None}
use Rattle.at.specs.declared.Control.{Control}
use Rattle.at.specs.declared.Control.TheVariants.{Dial, Answer, Hangup}
use Rattle.at.specs.Processor as processor
use Rattle.at.proofs.Sound.{sound-fresh}
use Rattle.session.specs.declared.SessionState.{SessionState}
use Rattle.session.specs.declared.SessionState.TheVariants.{Idle, Dialling, Answering, Connected}
use Rattle.sender.specs.declared.Sending.{Sending}
use Rattle.set.specs.Book.{Book, blank, overture, length_of, stage_of_sample, applied, shown_by, after_fill, filled_in, Entry, declined, asks, fills, queues, number_of, next_book}
use Rattle.claim.specs.Sent.{Sent}
use Rattle.claim.specs.Claim.{SinceDial, not_called, with_sent, passed, noted_control, noted_fill, noted, AllAtMost, NeverBack}
use Rattle.set.proofs.Soundness.{dialled-ok}
use Rattle.set.proofs.Follows.{InLimits, Wrote}

at_most : (a b : ℕ) (stages : List ℕ) → a ≤ b → AllAtMost a stages → AllAtMost b stages
at_most a b [] h p = tt
at_most a b (x ∷ stages) h (p, q) = (le_trans p h, at_most a b stages h q)

abbrev playing : AtProcessor → List ℕ → ℕ → ℕ → Sending → Book
playing p digits count shown x = record { processor = p; state = Dialling; digits = digits; count = count; shown = shown; sending = x }

module _ (r : ℕ) where
  -- the line is not up: `count` samples are written of at most T, and the stage shown is no higher than the next sample's
  pub record Playing (digits : List ℕ) (count shown : ℕ) (h : SinceDial) : Type 0 where
    pub called : h.called ≡ true
    pub most : count ≤ length_of digits r
    pub waiting : h.emptied ≡ false
    pub next : shown ≤ stage_of_sample digits r (suc count)
    pub top : AllAtMost shown h.stages
    pub rising : NeverBack h.stages
    pub wrote : h.joined ≡ overture digits r count
    pub sum : count ≡ h.lengths

  -- the line is up: past T by one fill at most, or at T with an empty fill
  pub record Up (digits : List ℕ) (count : ℕ) (h : SinceDial) : Type 0 where
    pub called : h.called ≡ true
    pub past : (length_of digits r < count) ⊎ ((count ≡ length_of digits r) × (h.emptied ≡ true))
    pub most : count ≤ length_of digits r + 65536
    pub rising : NeverBack h.stages
    pub wrote : h.joined ≡ overture digits r count
    pub sum : count ≡ h.lengths

  abbrev pub Progress : SessionState → List ℕ → ℕ → ℕ → SinceDial → Type 0
  Progress Idle digits count shown h = (count ≡ 0) × (h.called ≡ false)
  Progress Answering digits count shown h = (count ≡ 0) × (h.called ≡ false)
  Progress Dialling digits count shown h = Playing digits count shown h
  Progress Connected digits count shown h = Up digits count h

  pub record Consistent (k : Book) (h : SinceDial) : Type 0 where
    pub processor : processor.sound k.processor ≡ true
    pub digits : digits_ok k.digits ≡ true
    pub shown : k.shown ≤ 9
    pub progress : Progress k.state k.digits k.count k.shown h

  -- ---- such a book's set is sound
  module _ (ok : rate_ok r ≡ true) where
    lo : 8000 ≤ r
    lo = rate-low r ok

    hi : r ≤ 192000
    hi = rate-high r ok

    -- a fill more can be counted
    pub room-left : (k : Book) (h : SinceDial) → Consistent k h → k.state ≡ Dialling → k.count + 65536 ≤ 5000000
    room-left k h p e =
        let c : Playing k.digits k.count k.shown h = rw e at p.progress in
        (omega (arith, total-room r lo hi (length k.digits) (digits-few k.digits p.digits), c.most))

    -- ---- stage 10 begins after sample T
    module _ (digits : List ℕ) (keys : digits_ok digits ≡ true) where
      long : HasLength digits r (length_of digits r)
      long = overture-length digits r lo hi (digits-few digits keys)

      past_end : (i : ℕ) → eqb (stage_of_sample digits r (suc i)) 10 ≡ true → length_of digits r ≤ i
      unfolding stage_of_sample
      past_end i e =
          le_of_suc-le-suc (lt_of_not-le (λ (l : suc i ≤ length_of digits r). omega (arith, eqb-true _ 10 e, long.playing i l)))

      before-end : (i : ℕ) → eqb (stage_of_sample digits r (suc i)) 10 ≡ false → i < length_of digits r
      unfolding stage_of_sample
      before-end i e =
          lt_of_not-le
          (λ (l : length_of digits r ≤ i).
          true≢false (sym (eq-eqb _ 10 (ap stage_number ((connected-exactly digits r (length_of digits r) long i).1 l))) ∙ e))

      below-ten : (i : ℕ) → i < length_of digits r → stage_of_sample digits r (suc i) ≤ 9
      unfolding stage_of_sample
      below-ten i l = long.playing i l

      no_lower : (i j : ℕ) → i ≤ j → stage_of_sample digits r (suc i) ≤ stage_of_sample digits r (suc j)
      unfolding stage_of_sample
      no_lower i j l = never-falls digits r (fresh digits r) i j l

      joins : (count b : ℕ) (joined left : List Float) → joined ≡ overture digits r count
          → left ≡ samples b (after count (fresh digits r) digits r) digits r → joined ++ left ≡ overture digits r (count + b)
      joins count b joined left e f = rw (e, f) (sym (samples-add digits r count b (fresh digits r)))

      -- ---- a fill of b samples in Dialling: it is empty or not, and its stage is 10 or not
      module _ (p : AtProcessor) (good : processor.sound p ≡ true) (count shown : ℕ) (x : Sending) (h : SinceDial) (c : Playing digits count shown h) where
        fill-consistent : (b : ℕ) (left : List Float) → b ≤ 65536 → left ≡ samples b (after count (fresh digits r) digits r) digits r
            → (up : Bool) → eqb (shown_by digits r count b) 10 ≡ up
            → let k = after_fill up r (shown_by digits r count b) (count + b) (playing p digits count shown x) in
            Consistent k (noted_fill Dialling b r (playing p digits count shown x) left k.state k.shown h)
        fill-consistent zero left room w true e =
            let l : length_of digits r ≤ count = past_end count e in
            let q : count ≡ length_of digits r = omega (arith, c.most) in
            record {
              processor = good;
              digits = keys;
              shown = omega arith;
              progress = record {
                called = c.called;
                past = inr (rw add-zero q, rw (c.waiting, eq-eqb count (length_of digits r) q));
                most = rw add-zero (omega (arith, c.most));
                rising = c.rising;
                wrote = joins count 0 h.joined left c.wrote w;
                sum = ap (λ (n : ℕ). n + 0) c.sum;
              };
            }
        fill-consistent zero left room w false e =
            let l : count < length_of digits r = before-end count e in
            let above = at_most shown (stage_of_sample digits r (suc count)) h.stages c.next c.top in
            record {
              processor = good;
              digits = keys;
              shown = below-ten count l;
              progress = record {
                called = c.called;
                most = rw add-zero c.most;
                waiting = rw (c.waiting, ne_eqb count (length_of digits r) (λ (q : count ≡ length_of digits r). omega arith));
                next = rw add-zero (le_refl _);
                top = (le_refl _, above);
                rising = (above, c.rising);
                wrote = joins count 0 h.joined left c.wrote w;
                sum = ap (λ (n : ℕ). n + 0) c.sum;
              };
            }
        fill-consistent (suc b) left room w true e =
            let l : length_of digits r ≤ count + b = past_end (count + b) (rw add-suc at e) in
            record {
              processor = good;
              digits = keys;
              shown = omega arith;
              progress = record {
                called = c.called;
                past = inl (omega arith);
                most = omega (arith, c.most);
                rising = c.rising;
                wrote = joins count (suc b) h.joined left c.wrote w;
                sum = ap (λ (n : ℕ). n + suc b) c.sum;
              };
            }
        fill-consistent (suc b) left room w false e =
            let l : count + b < length_of digits r = before-end (count + b) (rw add-suc at e) in
            let up : shown ≤ stage_of_sample digits r (count + suc b) = rw add-suc (le_trans c.next (no_lower count (count + b) (omega arith))) in
            let above = at_most shown (stage_of_sample digits r (count + suc b)) h.stages up c.top in
            record {
              processor = good;
              digits = keys;
              shown = rw add-suc (below-ten (count + b) l);
              progress = record {
                called = c.called;
                most = omega arith;
                waiting = rw (c.waiting, eqb-suc-zero b);
                next = rw add-suc (no_lower (count + b) (suc (count + b)) (omega arith));
                top = (le_refl _, above);
                rising = (above, c.rising);
                wrote = joins count (suc b) h.joined left c.wrote w;
                sum = ap (λ (n : ℕ). n + suc b) c.sum;
              };
            }

    -- ---- a call that leaves the book's line as it is
    passed-progress : (state : SessionState) (digits : List ℕ) (count shown : ℕ) (h : SinceDial) (sent : Sent)
        → Progress state digits count shown h → Progress state digits count shown (with_sent sent (passed state shown h))
    passed-progress Idle digits count shown h sent c = c
    passed-progress Answering digits count shown h sent c = c
    passed-progress Dialling digits count shown h sent c =
        record {
          called = c.called;
          most = c.most;
          waiting = c.waiting;
          next = c.next;
          top = (le_refl _, c.top);
          rising = (c.top, c.rising);
          wrote = c.wrote;
          sum = c.sum;
        }
    passed-progress Connected digits count shown h sent c =
        record { called = c.called; past = c.past; most = c.most; rising = c.rising; wrote = c.wrote; sum = c.sum }

    pub never-6 : (k : Book) (entry : Entry) → InLimits k entry → number_of entry ≡ 6 → ⊥
    never-6 k (declined cause) limits e = limits e
    never-6 k (asks control line p) limits e = omega arith
    never-6 k (fills b) limits e = omega arith
    never-6 k (queues byte) limits e = omega arith

    -- ---- each keeps it
    module _ (k : Book) (h : SinceDial) (consistent : Consistent k h) where
      passed-consistent : (sent : Sent) → Consistent k (with_sent sent (passed k.state k.shown h))
      passed-consistent sent =
          record {
            processor = consistent.processor;
            digits = consistent.digits;
            shown = consistent.shown;
            progress = passed-progress k.state k.digits k.count k.shown h sent consistent.progress;
          }

      applied-consistent : (c : Option Control) (line : List ℕ) (p : AtProcessor) → length line ≤ 76 → processor.sound p ≡ true
          → Consistent (applied c line p k) (noted_control c (applied c line p k).state (applied c line p k).shown h)
      unfolding digits_ok all_keys samples
      applied-consistent None line p short good =
          record {
            processor = good;
            digits = consistent.digits;
            shown = consistent.shown;
            progress = passed-progress k.state k.digits k.count k.shown h h.sent consistent.progress;
          }
      applied-consistent (Some Answer) line p short good = record { processor = good; digits = refl; shown = omega arith; progress = (refl, refl) }
      applied-consistent (Some Hangup) line p short good = record { processor = good; digits = refl; shown = omega arith; progress = (refl, refl) }
      applied-consistent (Some Dial) line p short good =
          record {
            processor = good;
            digits = dialled-ok line short;
            shown = omega arith;
            progress = record {
              called = refl;
              most = omega arith;
              waiting = refl;
              next = omega arith;
              top = (omega arith, tt);
              rising = (tt, tt);
              wrote = refl;
              sum = refl;
            };
          }

    filled-consistent : (b : ℕ) (left : List Float) (h : SinceDial) → b ≤ 65536
        → (p : AtProcessor) (state : SessionState) (digits : List ℕ) (count shown : ℕ) (x : Sending)
        → let k : Book = record { processor = p; state = state; digits = digits; count = count; shown = shown; sending = x } in
        let next = filled_in state r k b in
        Wrote r k (fills b) left → Consistent k h → Consistent next (noted_fill state b r k left next.state next.shown h)
    filled-consistent b left h room p Connected digits count shown x w consistent =
        let q = passed-consistent _ h consistent _ in
        record { processor = q.processor; digits = q.digits; shown = q.shown; progress = q.progress }
    filled-consistent b left h room p Idle digits count shown x w consistent = passed-consistent _ h consistent h.sent
    filled-consistent b left h room p Answering digits count shown x w consistent = passed-consistent _ h consistent h.sent
    filled-consistent b left h room p Dialling digits count shown x w consistent =
        fill-consistent digits consistent.digits p consistent.processor count shown x h consistent.progress b left room (w.0 refl) _ refl

    pub entry-consistent : (k : Book) (h : SinceDial) → Consistent k h → (entry : Entry) → InLimits k entry → (left : List Float) → Wrote r k entry left
        → let next = next_book r k entry in
        Consistent next (noted entry r k left next.state next.shown h)
    entry-consistent k h consistent (declined cause) limits left w = passed-consistent k h consistent h.sent
    entry-consistent k h consistent (asks control line p) (short, good) left w = applied-consistent k h consistent control line p short good
    entry-consistent k h consistent (fills b) room left w = filled-consistent b left h room k.processor k.state k.digits k.count k.shown k.sending w consistent
    entry-consistent k h consistent (queues byte) room left w =
        let q = passed-consistent k h consistent _ in
        record { processor = q.processor; digits = q.digits; shown = q.shown; progress = q.progress }

  pub blank-consistent : Consistent (blank r) not_called
  unfolding digits_ok all_keys
  blank-consistent = record { processor = sound-fresh; digits = refl; shown = omega arith; progress = (refl, refl) }
