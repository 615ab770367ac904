-- A typed byte, a lapse of time and forced data mode leave every sound set sound, whether calls can reach it or not. By cases of what the AT
-- processor asks. Assumes nothing.
use Prim.Native.Nat.{ℕ, zero, suc, ◌≤◌, zero-le}
use native.Mathlib.Nat.{le_trans}
use mathlib.Core.Path.{◌≡◌}
use mathlib.Core.Bool.{Bool, true, and-eq-true_iff}
use mathlib.Core.List.{List, []}
use lib.ListN.{length}
use borrow.Author.Tests.{le-leb}
use Rattle.keys.specs.Keys.{all_keys, digits_of}
use Rattle.keys.proofs.Line.{all_digits_lem, digits-fewer, digits-whole, padded-front}
use Rattle.stage.specs.declared.StageState.{StageState}
use Rattle.stage.specs.Next.{state_next}
use Rattle.overture.specs.Iteration.{after}
use Rattle.soundness.specs.Sound.{rate_ok, digits_ok, state_ok, sound_state}
use Rattle.soundness.proofs.States.{Sound, sound-parts}
use Rattle.soundness.proofs.First.{first-sound}
use Rattle.soundness.proofs.Next.{next-sound}
use Rattle.soundness.proofs.Limits.{rate-low, rate-high}
use Rattle.soundness.specs.Sending.{sender_ok, sending_ok}
use Rattle.soundness.proofs.Senders.{sending-ok, fresh-sound as sender-sound}
use Rattle.queue.specs.Queue.{queue_ok}
use Rattle.sender.specs.declared.Sending.{Sending}
use Rattle.sender.specs.Sender.{emptied}
use Rattle.at.specs.declared.AtProcessor.{AtProcessor}
use Rattle.std.specs.Prelude.{Option, Some, None}
use Rattle.at.specs.declared.Control.{Control}
use Rattle.at.specs.declared.Control.TheVariants.{Dial, Answer, Hangup}
use Rattle.at.specs.Processor as processor
use Rattle.at.specs.At.{typed_byte, after_atdt, forced_data}
use Rattle.at.proofs.Lines.{few-after}
use Rattle.at.proofs.Sound.{sound-fresh, sound-typed, sound-lapse, sound-forced}
use Rattle.session.specs.Session.{idle, answering, dialling}
use Rattle.control.specs.Control.{heard, controlled}
use Rattle.set.specs.declared.Set.{Set}
use Rattle.set.specs.Sound.{sound}
use Rattle.set.specs.Set.{fresh_set, moved, sending_for, byte_taken, time_taken}
use Rattle.set.proofs.Ranges.{ranges, in-ranges}

-- however many samples a fill writes, the state of the stage stays sound
pub after-sound : (digits : List ℕ) (r k : ℕ) (s : StageState) → Sound s digits r → Sound (after k s digits r) digits r
unfolding after
after-sound digits r zero s h = h
after-sound digits r (suc k) s h = after-sound digits r k (state_next s digits r) (next-sound s digits r h)

-- a line has at most 76 bytes after ATDT, so no digit is lost
pub few-typed : (p : AtProcessor) → processor.sound p ≡ true → (byte : ℕ) (carrier : Bool) (room : ℕ) → length (after_atdt (typed_byte p byte carrier room)) ≤ 76
few-typed p good byte carrier room = few-after p byte carrier room good

pub dialled-ok : (line : List ℕ) → length line ≤ 76 → digits_ok (digits_of line) ≡ true
unfolding digits_ok
dialled-ok line short = rw (le-leb _ _ (le_trans (digits-fewer line) short), all_digits_lem line)

pub fresh-sound : (r : ℕ) → rate_ok r ≡ true → sound (fresh_set r) ≡ true
unfolding idle sound sound_state state_ok digits_ok all_keys
fresh-sound r ok = rw (ok, sound-fresh, sending-ok r (rate-low r ok) (rate-high r ok) _ (sender-sound r (rate-low r ok) (rate-high r ok)))

-- the queue may be emptied
emptied-ok : (x : Sending) (r : ℕ) → sending_ok x r ≡ true → sending_ok (emptied x) r ≡ true
unfolding sending_ok queue_ok
emptied-ok x r e = rw ((and-eq-true_iff (sender_ok x.sender r) _).0 e).0

sending-for-ok : (c : Option Control) (x : Sending) (r : ℕ) → sending_ok x r ≡ true → sending_ok (sending_for c x) r ≡ true
sending-for-ok None x r e = e
sending-for-ok (Some Dial) x r e = emptied-ok x r e
sending-for-ok (Some Answer) x r e = emptied-ok x r e
sending-for-ok (Some Hangup) x r e = emptied-ok x r e

module _ (s : Set) (ok : sound s ≡ true) where
  rate-ok : rate_ok s.rate ≡ true
  rate-ok = (sound-parts _ _ _ (ranges s ok).state).rate

  pub control-sound : (c : Option Control) (line : List ℕ) (p : AtProcessor) → length line ≤ 76 → processor.sound p ≡ true
      → sound (moved s p (controlled c s.session line s.rate) (sending_for c s.sending)) ≡ true
  unfolding controlled dialling idle answering sound_state state_ok digits_ok all_keys
  control-sound None line p short good =
      let q = ranges s ok in
      in-ranges _ (record { digits = q.digits; state = q.state; processor = good; count = q.count; shown = q.shown; sending = q.sending })
  control-sound (Some Answer) line p short good =
      in-ranges _ (record { digits = zero-le; state = rw rate-ok; processor = good; count = zero-le; shown = zero-le; sending = sending-for-ok (Some Answer) _ _ (ranges s ok).sending })
  control-sound (Some Hangup) line p short good =
      in-ranges _ (record { digits = zero-le; state = rw rate-ok; processor = good; count = zero-le; shown = zero-le; sending = sending-for-ok (Some Hangup) _ _ (ranges s ok).sending })
  control-sound (Some Dial) line p short good =
      in-ranges _ (record {
        digits = rw (digits-whole line short) (le_trans (digits-fewer line) short);
        state = rw (digits-whole line short, padded-front (digits_of line)) (first-sound _ (digits_of line) s.rate rate-ok (dialled-ok line short)).1;
        processor = good;
        count = zero-le;
        shown = zero-le;
        sending = sending-for-ok (Some Dial) _ _ (ranges s ok).sending;
      })

  pub byte-sound : (byte : ℕ) (carrier : Bool) (n : ℕ) → sound (byte_taken s byte carrier n) ≡ true
  byte-sound byte carrier n =
      control-sound _ _ _
      (few-typed s.processor (ranges s ok).processor byte (heard s.session carrier) n)
      (sound-typed s.processor byte (heard s.session carrier) n (ranges s ok).processor)

  pub time-sound : (ns : ℕ) (carrier : Bool) → sound (time_taken s ns carrier) ≡ true
  time-sound ns carrier = control-sound _ [] _ zero-le (sound-lapse s.processor ns (heard s.session carrier) (ranges s ok).processor)

  pub forced-sound : sound (moved s (forced_data s.processor) s.session s.sending) ≡ true
  unfolding controlled
  forced-sound = control-sound None [] _ zero-le (sound-forced s.processor (ranges s ok).processor)
