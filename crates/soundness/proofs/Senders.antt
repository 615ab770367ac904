-- A sound sender, whatever waits for it, is sound after any number of samples; a fresh one is, and what is queued or emptied leaves it as it is. Of
-- senders whose floats are numbers of binary64, as in any that code holds. Assumes nothing.
use Prim.Native.Nat.{ℕ, zero, suc, ◌≤◌}
use native.Mathlib.Omega.{arith}
use mathlib.Core.Path.{◌≡◌, refl}
use mathlib.Core.Bool.{Bool, true, false, and-eq-true_iff}
use lib.Dec.{lit≤}
use borrow.Author.Tests.{leb-true, leb-false, le-leb}
use Rattle.queue.specs.declared.Queue.{Queue}
use Rattle.queue.specs.Queue.{is_empty, popped_if, popped, is_full, pushed_if, pushed, queue_ok}
use Rattle.sender.specs.declared.Sending.{Sending}
use Rattle.sender.specs.Sender.{mark, space, fresh_sender, fresh_sending, Choice, onward, anew, idle, choice_of, bit_by, chosen_by, chosen, ready_if, ticked, next, queued, emptied, raised}
use Rattle.sender.specs.Wave.{after}
use Rattle.sender.proofs.Frames.{some_bits}
use Rattle.sender.proofs.Edges.{next-is, Found, found}
use Rattle.soundness.specs.Sound.{modulator_ok}
use Rattle.soundness.specs.Sending.{sender_ok, sending_ok}
use Rattle.std.proofs.lemmas.Bool.{and_from}
use Rattle.soundness.proofs.Oscillators.{Hertz, hertz}
use Rattle.soundness.proofs.Modulators.{ModulatorFits, SoundModulator, modulator-sound, modulator-ok, fresh-modulator, keyed-modulator, next-modulator}

-- what the test says
pub record SoundSending (x : Sending) (r : ℕ) : Type 0 where
  pub modulator : SoundModulator x.sender.modulator r
  pub begun : x.sender.begun ≤ 10
  pub few : x.queue.len ≤ 256

mark-hertz : Hertz mark
mark-hertz = hertz 1270 (lit≤ tt)

space-hertz : Hertz space
space-hertz = hertz 1070 (lit≤ tt)

-- ---- the queue
popped-few : (q : Queue) → q.len ≤ 256 → (popped q).len ≤ 256
unfolding popped
popped-few q l = go (is_empty q)
  where
    go : (t : Bool) → (popped_if t q).len ≤ 256
    go true = l
    go false = omega arith

pushed-few : (q : Queue) (b : ℕ) → q.len ≤ 256 → (pushed q b).len ≤ 256
unfolding pushed
pushed-few q b l = go (is_full q) refl
  where
    go : (t : Bool) → is_full q ≡ t → (pushed_if t q b).len ≤ 256
    go true e = l
    go false e = let room = leb-false 256 q.len e in omega arith

module _ (r : ℕ) (lo : 8000 ≤ r) (hi : r ≤ 192000) where
  -- ---- the test, and back
  pub sending-sound : (x : Sending) → ModulatorFits x.sender.modulator → sending_ok x r ≡ true → SoundSending x r
  unfolding sending_ok sender_ok queue_ok
  sending-sound x h e =
      let (sender, few) = (and-eq-true_iff (sender_ok x.sender r) _).0 e in
      let (m, begun) = (and-eq-true_iff (modulator_ok x.sender.modulator r) _).0 sender in
      record { modulator = modulator-sound r lo hi x.sender.modulator h m; begun = leb-true _ 10 begun; few = leb-true _ 256 few }

  pub sending-ok : (x : Sending) → SoundSending x r → sending_ok x r ≡ true
  unfolding sending_ok sender_ok queue_ok
  sending-ok x s = and_from _ _ (and_from _ _ (modulator-ok r lo hi x.sender.modulator s.modulator) (le-leb _ 10 s.begun)) (le-leb _ 256 s.few)

  -- ---- fresh as the line goes up, a byte more, and none
  pub raised-sound : (x : Sending) → x.queue.len ≤ 256 → SoundSending (raised x r) r
  unfolding fresh_sender
  raised-sound x few = record { modulator = fresh-modulator r lo hi mark space mark-hertz space-hertz true; begun = lit≤ tt; few = few }

  pub fresh-sound : SoundSending (fresh_sending r) r
  fresh-sound = raised-sound (fresh_sending r) (lit≤ tt)

  pub queued-sound : (x : Sending) (b : ℕ) → SoundSending x r → SoundSending (queued x b) r
  unfolding queued
  queued-sound x b s = record { modulator = s.modulator; begun = s.begun; few = pushed-few x.queue b s.few }

  pub emptied-sound : (x : Sending) → SoundSending x r → SoundSending (emptied x) r
  emptied-sound x s = record { modulator = s.modulator; begun = s.begun; few = lit≤ tt }

  -- ---- a sample
  chosen-sound : (c : Choice) (x : Sending) → Found c x → SoundSending x r → SoundSending (chosen_by c x) r
  chosen-sound onward x f s =
      record {
        modulator = keyed-modulator r lo hi mark space mark-hertz space-hertz x.sender.modulator (bit_by onward x) s.modulator;
        begun = omega (arith, (some_bits x.sender.begun f).1);
        few = s.few;
      }
  chosen-sound anew x f s =
      record {
        modulator = keyed-modulator r lo hi mark space mark-hertz space-hertz x.sender.modulator (bit_by anew x) s.modulator;
        begun = lit≤ tt;
        few = popped-few x.queue s.few;
      }
  chosen-sound idle x f s =
      record {
        modulator = keyed-modulator r lo hi mark space mark-hertz space-hertz x.sender.modulator (bit_by idle x) s.modulator;
        begun = lit≤ tt;
        few = s.few;
      }

  ready-sound : (t : Bool) (x : Sending) → SoundSending x r → SoundSending (ready_if t x) r
  unfolding chosen
  ready-sound true x s = chosen-sound (choice_of x) x (found x) s
  ready-sound false x s = s

  next-sound : (x : Sending) → SoundSending x r → SoundSending (next x) r
  unfolding ticked
  next-sound x s =
      let y = ready-sound x.sender.edge x s in
      rw (next-is x) (record { modulator = next-modulator r lo hi _ y.modulator; begun = y.begun; few = y.few })

  pub after-sound : (n : ℕ) (x : Sending) → SoundSending x r → SoundSending (after n x) r
  unfolding after
  after-sound zero x s = s
  after-sound (suc n) x s = after-sound n (next x) (next-sound x s)
