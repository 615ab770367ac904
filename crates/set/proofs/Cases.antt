-- The examples of 01's table of refusals, computed over the definitions that the calls are proved to equal. Assumes nothing.
use Prim.Native.Nat.{ℕ, ◌≤◌, zero-le}
use mathlib.Core.Path.{◌≡◌, refl, sym}
use mathlib.Core.List.{[]}
use mathlib.Core.Bool.{Bool, true, false, true≢false, and-eq-true_iff}
use lib.Dec.{lit≤}
use lib.ListN.{replicate}
use Rattle.command.proofs.Cases as line
use Rattle.command.specs.Line.{sound_line}
use Rattle.keys.specs.Keys.{held, all_keys}
use Rattle.stage.specs.declared.StageState.TheVariants as at
use Rattle.soundness.specs.Sound.{rate_ok, digits_ok, modulator_ok, state_ok, sound_state}
use Rattle.soundness.specs.Sending.{sender_ok, sending_ok}
use Rattle.soundness.proofs.Senders.{sending-ok, raised-sound}
use Rattle.queue.specs.Queue.{queue_ok}
use Rattle.sender.specs.Sender.{fresh_modulator, fresh_sender, fresh_sending}
use Rattle.at.specs.Processor as processor
use Rattle.at.proofs.Sound.{sound-fresh}
use Rattle.session.specs.declared.SessionState.TheVariants.{Connected}
use Rattle.session.specs.Session.{idle}
use Rattle.set.specs.declared.Set.{Set}
use Rattle.set.specs.Sound.{sound}
use Rattle.set.specs.Refusals.{accepted}
use Rattle.refusal.specs.Refusal.{answer_number}
use Rattle.set.specs.Set.{fresh_set, moved, creation_cause, made, typing_cause, lapse_cause, forced_cause, fill_cause, queuing_cause, ring_cause}
use Rattle.set.specs.String.{string_cause}
use Rattle.set.proofs.Ranges.{ranges, in-ranges}
use Rattle.set.proofs.Soundness.{fresh-sound}

-- a fresh set with a line of n ones
abbrev pub ones : ℕ → Set
ones n = moved (fresh_set 8000) (processor.with_line (line.ones n) processor.fresh) idle (fresh_sending 8000)

-- and one whose line is up, with n bytes waiting for a sender that has begun k bits of a frame
abbrev waits : (n k : ℕ) → Set
waits n k =
    moved (fresh_set 8000) processor.fresh (record { state = Connected; digits = held []; m = 0; shown = 0; stage = at.Connected })
    (record { sender = record { modulator = fresh_modulator 8000; byte = 0; begun = k; edge = true }; queue = record { bytes = replicate 256 0; len = n } })

sound-8000 : sound (fresh_set 8000) ≡ true
unfolding rate_ok
sound-8000 = fresh-sound 8000 refl

waits-sound : (n : ℕ) → n ≤ 256 → sound (waits n 0) ≡ true
unfolding sound_state state_ok digits_ok all_keys rate_ok fresh_sender
waits-sound n few =
    in-ranges (waits n 0) (record {
      digits = zero-le;
      state = refl;
      processor = sound-fresh;
      count = zero-le;
      shown = zero-le;
      sending = sending-ok 8000 (lit≤ tt) (lit≤ tt) _ (raised-sound 8000 (lit≤ tt) (lit≤ tt) (waits n 0).sending few);
    })

-- 1, 7999: a fresh set at 8,000
pub rate-7999 : (answer_number (creation_cause 7999) ≡ 1) × ((made 7999).set ≡ fresh_set 8000)
unfolding made creation_cause rate_ok accepted
rate-7999 = (refl, refl)

-- 6, line length 81, whatever the call
pub unsound-81 : sound (ones 81) ≡ false
unfolding sound sound_state state_ok digits_ok all_keys rate_ok idle processor.sound sound_line
unsound-81 = refl

pub record Declined6 (s : Set) : Type 0 where
  pub typing : (n : ℕ) → answer_number (typing_cause s n) ≡ 6
  pub time : answer_number (lapse_cause s) ≡ 6
  pub forcing : answer_number (forced_cause s) ≡ 6
  pub filling : (b : ℕ) → answer_number (fill_cause s b) ≡ 6
  pub queuing : answer_number (queuing_cause s) ≡ 6
  pub ring : answer_number (ring_cause s) ≡ 6
  pub string : (n room places : ℕ) → answer_number (string_cause s n room places) ≡ 6

unsound-declined : (s : Set) → sound s ≡ false → Declined6 s
unfolding typing_cause lapse_cause forced_cause fill_cause queuing_cause ring_cause string_cause
unsound-declined s e =
    record { typing = λ n. rw e; time = rw e; forcing = rw e; filling = λ b. rw e; queuing = rw e; ring = rw e; string = λ n room places. rw e }

pub line-81 : Declined6 (ones 81)
line-81 = unsound-declined (ones 81) unsound-81

-- 02, E1: 6, a mark on a line of 79
abbrev marked79 : Set
marked79 = moved (fresh_set 8000) (processor.with_line (line.marked 79) processor.fresh) idle (fresh_sending 8000)

unsound-marked79 : sound marked79 ≡ false
unfolding sound sound_state state_ok digits_ok all_keys rate_ok idle processor.sound sound_line
unsound-marked79 = refl

pub mark-79 : Declined6 marked79
mark-79 = unsound-declined marked79 unsound-marked79

-- 2, 3 bytes
pub outbox-3 : answer_number (typing_cause (fresh_set 8000) 3) ≡ 2
unfolding typing_cause
outbox-3 = rw sound-8000

-- 3, 65,537; 02, E10: in Connected too, and there a fill of length 1 is taken
pub samples-65537 : answer_number (fill_cause (fresh_set 8000) 65537) ≡ 3
unfolding fill_cause
samples-65537 = rw sound-8000

pub connected-fills : (answer_number (fill_cause (waits 0 0) 1) ≡ 0) × (answer_number (fill_cause (waits 0 0) 65537) ≡ 3)
unfolding fill_cause
connected-fills = (rw (waits-sound 0 zero-le), rw (waits-sound 0 zero-le))

-- 02, E10: 12, 256 bytes waiting; a byte more is taken while 255 wait
pub waiting-256 : (answer_number (queuing_cause (waits 256 0)) ≡ 12) × (answer_number (queuing_cause (waits 255 0)) ≡ 0)
unfolding queuing_cause
waiting-256 = (rw (waits-sound 256 (lit≤ tt)), rw (waits-sound 255 (lit≤ tt)))

-- 6, 257 bytes waiting; 6, an eleventh bit of a frame begun
refuted : (b : Bool) → (b ≡ true → ⊥) → b ≡ false
refuted true h = absurd (h refl)
refuted false h = refl

unsound-257 : sound (waits 257 0) ≡ false
unfolding sending_ok queue_ok
unsound-257 = refuted _ (λ (e : sound (waits 257 0) ≡ true). true≢false (sym ((and-eq-true_iff (sender_ok (waits 257 0).sending.sender 8000) _).0 (ranges _ e).sending).1))

unsound-11 : sound (waits 0 11) ≡ false
unfolding sending_ok sender_ok
unsound-11 =
    refuted _ (λ (e : sound (waits 0 11) ≡ true).
    true≢false (sym ((and-eq-true_iff (modulator_ok (fresh_modulator 8000) 8000) _).0 ((and-eq-true_iff (sender_ok (waits 0 11).sending.sender 8000) _).0 (ranges _ e).sending).0).1))

pub waiting-257 : Declined6 (waits 257 0)
waiting-257 = unsound-declined (waits 257 0) unsound-257

pub bits-11 : Declined6 (waits 0 11)
bits-11 = unsound-declined (waits 0 11) unsound-11

-- 02, E3: 256 bytes with just their room, and no byte with none; 8, 257 bytes, before 9; 9, a byte of outbox or a code too few
pub string-edges : (answer_number (string_cause (fresh_set 8000) 256 1024 768) ≡ 0)
    × (answer_number (string_cause (fresh_set 8000) 0 0 0) ≡ 0)
    × (answer_number (string_cause (fresh_set 8000) 257 1028 771) ≡ 8)
    × (answer_number (string_cause (fresh_set 8000) 257 0 0) ≡ 8)
    × (answer_number (string_cause (fresh_set 8000) 256 1023 768) ≡ 9)
    × (answer_number (string_cause (fresh_set 8000) 256 1024 767) ≡ 9)
unfolding string_cause
string-edges = (rw sound-8000, rw sound-8000, rw sound-8000, rw sound-8000, rw sound-8000, rw sound-8000)
