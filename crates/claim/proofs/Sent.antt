-- What was queued and sent, at every point of a list: each call keeps it. Until the line is up no symbol is begun, and what waits then waits for a
-- fresh sender, so that the line's going up changes nothing of it. Assumes nothing.
use Prim.Native.Nat.{ℕ}
use mathlib.Core.Path.{◌≡◌, refl}
use mathlib.Core.Bool.{Bool, true, false}
use mathlib.Core.List.{List}
use lib.Dec.{eqb}
use lib.Ieee.{Float}
use Rattle.at.specs.declared.AtProcessor.{AtProcessor}
use Rattle.std.specs.Prelude.{Option, Some, None}
use Rattle.at.specs.declared.Control.{Control}
use Rattle.at.specs.declared.Control.TheVariants.{Dial, Answer, Hangup}
use Rattle.session.specs.declared.SessionState.{SessionState}
use Rattle.session.specs.declared.SessionState.TheVariants.{Idle, Dialling, Answering, Connected}
use Rattle.queue.specs.Queue.{empty_queue, waiting, is_full}
use Rattle.queue.proofs.Waiting.{empty-whole}
use Rattle.sender.specs.declared.Sending.{Sending}
use Rattle.sender.specs.Sender.{queued, raised}
use Rattle.sender.proofs.Sofar.{Sofar, sofar-start, sofar-queued, sofar-filled, sofar-carries, sofar-sounds}
use Rattle.set.specs.Set.{raised_if}
use Rattle.set.specs.Book.{Book, blank, applied, shown_by, state_if, filled_in, Entry, declined, asks, fills, queues, next_book}
use Rattle.set.proofs.Follows.{InLimits, Wrote}
use Rattle.claim.specs.Sent.{Sent, nothing_sent, sent_queued, Sends}
use Rattle.claim.specs.Claim.{SinceDial, noted_control, noted_fill, noted}

module _ (r : ℕ) where
  -- what the next symbols are sent from
  abbrev sending_from : SessionState → Sending → Sending
  sending_from Idle x = raised x r
  sending_from Dialling x = raised x r
  sending_from Answering x = raised x r
  sending_from Connected x = x

  abbrev From : Sending → Sent → Type 0
  From x o = Sofar r x o.queued o.begun o.symbols o.filled

  abbrev pub SentSoFar : Book → Sent → Type 0
  SentSoFar k o = From (sending_from k.state k.sending) o

  pub blank-sent : SentSoFar (blank r) nothing_sent
  blank-sent = sofar-start r empty_queue empty-whole

  applied-sent : (c : Option Control) (line : List ℕ) (p : AtProcessor) (k : Book) (stage : ℕ) (h : SinceDial) → SentSoFar k h.sent
      → SentSoFar (applied c line p k) (noted_control c (applied c line p k).state stage h).sent
  applied-sent None line p k stage h s = s
  applied-sent (Some Dial) line p k stage h s = sofar-start r empty_queue empty-whole
  applied-sent (Some Answer) line p k stage h s = sofar-start r empty_queue empty-whole
  applied-sent (Some Hangup) line p k stage h s = sofar-start r empty_queue empty-whole

  raised-sent : (up : Bool) (x : Sending) (o : Sent) → From (raised x r) o → From (sending_from (state_if up) (raised_if up x r)) o
  raised-sent true x o s = s
  raised-sent false x o s = s

  filled-sent : (p : AtProcessor) (state : SessionState) (digits : List ℕ) (count shown : ℕ) (x : Sending) (b stage : ℕ) (left : List Float) (h : SinceDial)
      → let k : Book = record { processor = p; state = state; digits = digits; count = count; shown = shown; sending = x } in
      Wrote r k (fills b) left → SentSoFar k h.sent
      → SentSoFar (filled_in state r k b) (noted_fill state b r k left (filled_in state r k b).state stage h).sent
  filled-sent p Idle digits count shown x b stage left h w s = s
  filled-sent p Answering digits count shown x b stage left h w s = s
  filled-sent p Dialling digits count shown x b stage left h w s = raised-sent (eqb (shown_by digits r count b) 10) x h.sent s
  filled-sent p Connected digits count shown x b stage left h w s = rw (w.1 refl) (sofar-filled r x _ _ _ _ s b)

  queued-sent : (state : SessionState) (x : Sending) (byte : ℕ) (o : Sent) → is_full x.queue ≡ false → From (sending_from state x) o
      → From (sending_from state (queued x byte)) (sent_queued byte o)
  unfolding queued
  queued-sent Idle x byte o room s = sofar-queued r (raised x r) _ _ _ _ s byte room
  queued-sent Dialling x byte o room s = sofar-queued r (raised x r) _ _ _ _ s byte room
  queued-sent Answering x byte o room s = sofar-queued r (raised x r) _ _ _ _ s byte room
  queued-sent Connected x byte o room s = sofar-queued r x _ _ _ _ s byte room

  pub entry-sent : (k : Book) (h : SinceDial) → SentSoFar k h.sent → (entry : Entry) → InLimits k entry → (left : List Float) → Wrote r k entry left
      → (stage : ℕ) → SentSoFar (next_book r k entry) (noted entry r k left (next_book r k entry).state stage h).sent
  entry-sent k h s (declined cause) limits left w stage = s
  entry-sent k h s (asks control line p) limits left w stage = applied-sent control line p k stage h s
  entry-sent k h s (fills b) limits left w stage = filled-sent k.processor k.state k.digits k.count k.shown k.sending b stage left h w s
  entry-sent k h s (queues byte) limits left w stage = queued-sent k.state k.sending byte h.sent limits s

  -- what is claimed of it
  same_queue : (state : SessionState) (x : Sending) → (sending_from state x).queue ≡ x.queue
  same_queue Idle x = refl
  same_queue Dialling x = refl
  same_queue Answering x = refl
  same_queue Connected x = refl

  pub sends : (k : Book) (o : Sent) → SentSoFar k o → Sends r (waiting k.sending.queue) o
  sends k o s =
      record {
        bytes = rw (← same_queue k.state k.sending) s.bytes;
        bits = sofar-carries r _ _ _ _ _ s;
        samples = sofar-sounds r _ _ _ _ _ s;
      }
