-- Demand 1 over the calls' own contracts, and for every set s, sound or not: `Asked` is what the toolchain makes of a call's `requires`, `Learnt` of
-- its `ensures`, so that a contract that says less is refused here. A call that asks nothing is answered always. Assumes nothing.
use Rattle.std.proofs.Common.{ℕ, ◌≡◌, Bool, false, ◌&&◌, List, Float, length}
use Rattle.std.specs.Prelude.{Result, None}
use contract.Lifetimes.{Lfts}
use denote.Bor.{Bor}
use denote.MutBor.{MutBor}
use denote.Ref.{at_last}
use Rattle.math.specs.Float.{zero}
use Rattle.nco.specs.declared.Nco.{Nco}
use Rattle.nco.specs.Nco.{phase_in_range}
use Rattle.nco.specs.Lent.{lent_sample, lent_nco}
use Rattle.ascii.specs.Front.{put_length}
use Rattle.reply.specs.Texts.{text_of}
use Rattle.set.specs.declared.Set.{Set}
use Rattle.set.specs.declared.Made.{Made}
use Rattle.set.specs.declared.Typed.{Typed}
use Rattle.set.specs.declared.TypedAll.{TypedAll}
use Rattle.set.specs.declared.Lapsed.{Lapsed}
use Rattle.set.specs.declared.Filled.{Filled}
use Rattle.refusal.specs.declared.Refusal.{Refusal}
use Rattle.refusal.specs.Refusal.{number_of}
use Rattle.set.specs.Refusals.{Declined, checked, told}
use Rattle.set.specs.Set.{fresh_set, creation_cause, typing_cause, lapse_cause, forced_cause, fill_cause, queuing_cause, ring_cause}
use Rattle.set.specs.String.{string_cause}
use Rattle.set.specs.Event.{typed_event, lapsed_event, forced_event, filled_event, queued_event, ByCause, string_event, StringByCause}
use Rattle.cue.specs.declared.Cued.{Cued}
use Rattle.cue.specs.Cue.{cue_cause, sample_cued, key_cued}
use Rattle.set.proofs.Set.new.Reads as new
use Rattle.set.proofs.Set.feed.Reads as feed
use Rattle.set.proofs.Set.feed_all.Reads as feed-all
use Rattle.set.proofs.Set.advance_time.Reads as advance-time
use Rattle.set.proofs.Set.force_data_mode.Reads as force-data-mode
use Rattle.set.proofs.Set.process_out.Reads as process-out
use Rattle.set.proofs.Set.queue_byte.Reads as queue-byte
use Rattle.set.proofs.Set.ring_number.Reads as ring-number
use Rattle.cue.proofs.cue.Reads as cue
use Rattle.reply.proofs.write_reply.Reads as write-reply
use Rattle.set.proofs.Answers.{new-answers, feed-answers, feed-all-answers, advance-time-answers, force-data-mode-answers, process-out-answers, queue-byte-answers, ring-number-answers}
use Rattle.cue.proofs.Answers.{cue-answers}
use Rattle.answers.proofs.Answers.{never, writer-answers}

pub record Answers (s : Set) : Type 0 where
  -- creation: a refused one gives a fresh set at 8,000
  pub creation : (r : ℕ)
      → new.Asked tt (r, tt)
      × ((answer : Made) → new.Learnt tt (r, tt) answer (r, tt)
      → (answer.checked ≡ creation_cause r) × (Declined answer.checked → answer.set ≡ fresh_set 8000))
  pub typing : (byte : ℕ) (carrier : Bool) (κs : Lfts 1) (out : MutBor (List ℕ))
      → feed.Asked κs (s, (byte, (carrier, (out, tt))))
      × ((left : List ℕ) (answer : Result Typed Refusal) → feed.Learnt κs (s, (byte, (carrier, (out, tt)))) answer (s, (byte, (carrier, (at_last out left, tt))))
      → ByCause s (typing_cause s (length out.now)) (typed_event s byte carrier out.now left answer))
  -- 02, E3: a string
  pub string : (κs : Lfts 3) (bytes : Bor (List ℕ)) (carrier : Bool) (out codes : MutBor (List ℕ))
      → feed-all.Asked κs (s, (bytes, (carrier, (out, (codes, tt)))))
      × ((left codes_left : List ℕ) (answer : Result TypedAll Refusal)
      → feed-all.Learnt κs (s, (bytes, (carrier, (out, (codes, tt))))) answer
      (s, (bytes, (carrier, (at_last out left, (at_last codes codes_left, tt)))))
      → StringByCause s (string_cause s (length bytes.now) (length out.now) (length codes.now))
      (string_event s bytes.now carrier out.now left codes.now codes_left answer))
  pub time : (ns : ℕ) (carrier : Bool)
      → advance-time.Asked tt (s, (ns, (carrier, tt)))
      × ((answer : Result Lapsed Refusal) → advance-time.Learnt tt (s, (ns, (carrier, tt))) answer (s, (ns, (carrier, tt)))
      → ByCause s (lapse_cause s) (lapsed_event s ns carrier answer))
  pub forcing :
      force-data-mode.Asked tt (s, tt)
      × ((answer : Result Set Refusal) → force-data-mode.Learnt tt (s, tt) answer (s, tt) → ByCause s (forced_cause s) (forced_event s answer))
  pub filling : (κs : Lfts 1) (out : MutBor (List Float))
      → process-out.Asked κs (s, (out, tt))
      × ((left : List Float) (answer : Result Filled Refusal) → process-out.Learnt κs (s, (out, tt)) answer (s, (at_last out left, tt))
      → ByCause s (fill_cause s (length out.now)) (filled_event s out.now left answer))
  -- 02, E10: a byte that is queued
  pub queuing : (byte : ℕ)
      → queue-byte.Asked tt (s, (byte, tt))
      × ((answer : Result Set Refusal) → queue-byte.Learnt tt (s, (byte, tt)) answer (s, (byte, tt)) → ByCause s (queuing_cause s) (queued_event s byte answer))
  -- a refused ring or cue is 0; 02, E8: and has no key
  pub ring :
      ring-number.Asked tt (s, tt)
      × ((answer : Result ℕ Refusal) → ring-number.Learnt tt (s, tt) answer (s, tt)
      → (checked answer ≡ ring_cause s) × (Declined (checked answer) → told (λ (ring : ℕ). ring) 0 answer ≡ 0))
  pub cue : (p : ℕ)
      → cue.Asked tt (s, (p, tt))
      × ((answer : Result Cued Refusal) → cue.Learnt tt (s, (p, tt)) answer (s, (p, tt))
      → (checked answer ≡ cue_cause s p) × (Declined (checked answer) → (sample_cued answer ≡ 0) × (key_cued answer ≡ None)))
  -- 02, E1: number 4 never occurs: no refusal has it, so that no call on any set answers it
  pub never4 : (refusal : Refusal) → number_of refusal ≡ 4 → ⊥
  -- 02, E10: nor does number 5
  pub never5 : (refusal : Refusal) → number_of refusal ≡ 5 → ⊥
  -- the writer of replies: where it writes nothing the buffer keeps its contents
  pub writer : (code s12 : ℕ) (κs : Lfts 1) (out : MutBor (List ℕ))
      → write-reply.Asked κs (code, (s12, (out, tt)))
      × ((left : List ℕ) (n : ℕ) → write-reply.Learnt κs (code, (s12, (out, tt))) n (code, (s12, (at_last out left, tt)))
      → (n ≡ put_length (text_of code s12) (length out.now)) × (n ≡ 0 → left ≡ out.now))
  -- the lent oscillator, whose contract promises these definitions: with phase or step outside [0, TAU) it gives 0.0 and
  -- the record stays
  pub oscillator : (nco : Nco) → phase_in_range nco.phase && phase_in_range nco.step ≡ false → (lent_sample nco ≡ zero) × (lent_nco nco ≡ nco)

pub answers-of-contracts : (s : Set) → Answers s
unfolding lent_sample lent_nco
answers-of-contracts s =
    record {
      creation = λ r. (tt, new-answers r);
      typing = λ byte carrier κs out. (tt, feed-answers s byte carrier κs out);
      string = λ κs bytes carrier out codes. (tt, feed-all-answers s κs bytes carrier out codes);
      time = λ ns carrier. (tt, advance-time-answers s ns carrier);
      forcing = (tt, force-data-mode-answers s);
      filling = λ κs out. (tt, process-out-answers s κs out);
      queuing = λ byte. (tt, queue-byte-answers s byte);
      ring = (tt, ring-number-answers s);
      cue = λ p. (tt, cue-answers s p);
      never4 = λ refusal. (never refusal).0;
      never5 = λ refusal. (never refusal).1;
      writer = λ code s12 κs out. (tt, λ left n d. writer-answers code s12 out.now left n d);
      oscillator = λ nco outside. (rw outside, rw outside);
    }
