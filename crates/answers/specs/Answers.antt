-- Demand 1: "A byte, a lapse of time or a sample buffer handed in gets an answer always. If refused, it gets 01's number, and set and lent
-- buffers keep their contents." Over what the calls' contracts promise, and for every set s, sound or not. That each call asks nothing, and so is
-- answered always, and that it promises this, is in proofs/Contracts.antt.
use Rattle.std.specs.Prelude.{ℕ, ◌≡◌, Bool, false, ◌&&◌, List, Float, length, Result, None}
use Rattle.math.specs.Float.{zero}
use Rattle.nco.specs.declared.Nco.{Nco}
use Rattle.nco.specs.Nco.{phase_in_range}
use Rattle.nco.specs.Lent.{lent_sample, lent_nco}
use Rattle.ascii.specs.Front.{put, put_length}
use Rattle.reply.specs.Texts.{text_of}
use Rattle.set.specs.declared.Set.{Set}
use Rattle.set.specs.declared.Made.{Made}
use Rattle.set.specs.declared.Typed.{Typed}
use Rattle.set.specs.declared.TypedAll.{TypedAll}
use Rattle.set.specs.declared.Lapsed.{Lapsed}
use Rattle.set.specs.declared.Filled.{Filled}
use Rattle.refusal.specs.declared.Refusal.{Refusal}
use Rattle.refusal.specs.Refusal.{number_of}
use Rattle.set.specs.Refusals.{Declined, checked, told}
use Rattle.set.specs.Set.{fresh_set, creation_cause, typing_cause, lapse_cause, forced_cause, fill_cause, queuing_cause, ring_cause}
use Rattle.set.specs.String.{string_cause}
use Rattle.set.specs.Event.{typed_event, lapsed_event, forced_event, filled_event, queued_event, ByCause, string_event, StringByCause}
use Rattle.set.specs.Promises.{IsMade, IsTyped, IsTypedAll, IsLapsed, IsForced, IsFilled, IsQueued, IsRung}
use Rattle.cue.specs.declared.Cued.{Cued}
use Rattle.cue.specs.Cue.{cue_cause, cued, sample_cued, key_cued}

pub record Answers (s : Set) : Type 0 where
  -- creation: a refused one gives a fresh set at 8,000
  pub creation : (r : ℕ) (answer : Made) → IsMade r answer
      → (answer.checked ≡ creation_cause r) × (Declined answer.checked → answer.set ≡ fresh_set 8000)
  pub typing : (byte : ℕ) (carrier : Bool) (out left : List ℕ) (answer : Result Typed Refusal) → IsTyped s byte carrier out left answer
      → ByCause s (typing_cause s (length out)) (typed_event s byte carrier out left answer)
  -- 02, E3: a string
  pub string : (bytes : List ℕ) (carrier : Bool) (out left codes codes_left : List ℕ) (answer : Result TypedAll Refusal)
      → IsTypedAll s bytes carrier out left codes codes_left answer
      → StringByCause s (string_cause s (length bytes) (length out) (length codes)) (string_event s bytes carrier out left codes codes_left answer)
  pub time : (ns : ℕ) (carrier : Bool) (answer : Result Lapsed Refusal) → IsLapsed s ns carrier answer
      → ByCause s (lapse_cause s) (lapsed_event s ns carrier answer)
  pub forcing : (answer : Result Set Refusal) → IsForced s answer → ByCause s (forced_cause s) (forced_event s answer)
  pub filling : (out left : List Float) (answer : Result Filled Refusal) → IsFilled s out left answer
      → ByCause s (fill_cause s (length out)) (filled_event s out left answer)
  -- 02, E10: a byte that is queued
  pub queuing : (byte : ℕ) (answer : Result Set Refusal) → IsQueued s byte answer → ByCause s (queuing_cause s) (queued_event s byte answer)
  -- a refused ring or cue is 0; 02, E8: and has no key
  pub ring : (answer : Result ℕ Refusal) → IsRung s answer → (checked answer ≡ ring_cause s) × (Declined (checked answer) → told (λ (ring : ℕ). ring) 0 answer ≡ 0)
  pub cue : (p : ℕ) (answer : Result Cued Refusal) → answer ≡ cued s p
      → (checked answer ≡ cue_cause s p) × (Declined (checked answer) → (sample_cued answer ≡ 0) × (key_cued answer ≡ None))
  -- 02, E1: number 4 never occurs: no refusal has it, so that no call on any set answers it
  pub never4 : (refusal : Refusal) → number_of refusal ≡ 4 → ⊥
  -- 02, E10: nor does number 5
  pub never5 : (refusal : Refusal) → number_of refusal ≡ 5 → ⊥
  -- the writer of replies: where it writes nothing the buffer keeps its contents
  pub writer : (code s12 : ℕ) (out left : List ℕ) (n : ℕ) → (n ≡ put_length (text_of code s12) (length out)) × (left ≡ put (text_of code s12) out)
      → (n ≡ put_length (text_of code s12) (length out)) × (n ≡ 0 → left ≡ out)
  -- the lent oscillator, whose contract promises these definitions: with phase or step outside [0, TAU) it gives 0.0 and
  -- the record stays
  pub oscillator : (nco : Nco) → phase_in_range nco.phase && phase_in_range nco.step ≡ false → (lent_sample nco ≡ zero) × (lent_nco nco ≡ nco)
