-- The calls of the set from memory: each is the set's call between a load and a store. What is lent beside the memory is named before and
-- after the call.
use Rattle.std.specs.Prelude.{ℕ, ◌≡◌, Bool, cond, List, [], ◌∷◌, leb, Float, length, Option, Some, None}
use Rattle.keys.specs.declared.Key.{Key}
use Rattle.reply.specs.declared.Reply.{Reply}
use Rattle.reply.specs.Codes.{first_of, second_of}
use Rattle.refusal.specs.Refusal.{answer_number}
use Rattle.set.specs.declared.Set.{Set}
use Rattle.set.specs.declared.Typed.{Typed}
use Rattle.set.specs.declared.TypedAll.{TypedAll}
use Rattle.set.specs.declared.Lapsed.{Lapsed}
use Rattle.set.specs.declared.Filled.{Filled}
use Rattle.set.specs.Refusals.{told}
use Rattle.set.specs.Set.{made, typed, outbox, lapsed, forced, byte_queued, fill, buffer, rung, reply_typed, sent_typed, reply_lapsed, key_filled}
use Rattle.set.specs.String.{typed_all, outbox_all, codes_all}
use Rattle.cue.specs.Cue.{cued, sample_cued, key_cued}
use Rattle.gibbonplate.specs.declared.memory.Memory.{Memory}
use Rattle.gibbonplate.specs.Memory.{stored, loaded, kept}

-- creation: a declined one leaves a fresh set too
pub record NewCall (after : Memory) (rate number : ℕ) : Type 0 where
  pub refusal : number ≡ answer_number (made rate).checked
  pub memory : after ≡ stored (made rate).set

abbrev pub codes_of : Reply → List ℕ
codes_of reply = first_of reply ∷ second_of reply ∷ []

pub record FeedCall (before after : Memory) (byte : ℕ) (carrier : Bool) (was is given : List ℕ) (count number : ℕ) : Type 0 where
  pub refusal : number ≡ answer_number (typed (loaded before) byte carrier (length was))
  pub memory : after ≡ kept (λ (a : Typed). a.set) (typed (loaded before) byte carrier (length was)) before
  pub outbox : is ≡ outbox (loaded before) byte was
  pub codes : given ≡ codes_of (reply_typed (typed (loaded before) byte carrier (length was)))
  pub sent : count ≡ sent_typed (typed (loaded before) byte carrier (length was))

pub record StringCall (before after : Memory) (bytes : List ℕ) (carrier : Bool) (was is codes_was codes_are : List ℕ) (count number : ℕ) : Type 0 where
  pub refusal : number ≡ answer_number (typed_all (loaded before) bytes carrier (length was) (length codes_was))
  pub memory : after ≡ kept (λ (a : TypedAll). a.set) (typed_all (loaded before) bytes carrier (length was) (length codes_was)) before
  pub outbox : is ≡ outbox_all (loaded before) bytes carrier was (length codes_was)
  pub codes : codes_are ≡ codes_all (loaded before) bytes carrier (length was) codes_was
  pub sent : count ≡ told (λ (a : TypedAll). a.sent) 0 (typed_all (loaded before) bytes carrier (length was) (length codes_was))

pub record TimeCall (before after : Memory) (ns : ℕ) (carrier : Bool) (given : List ℕ) (number : ℕ) : Type 0 where
  pub refusal : number ≡ answer_number (lapsed (loaded before) ns carrier)
  pub memory : after ≡ kept (λ (a : Lapsed). a.set) (lapsed (loaded before) ns carrier) before
  pub codes : given ≡ codes_of (reply_lapsed (lapsed (loaded before) ns carrier))

pub record ForceCall (before after : Memory) (number : ℕ) : Type 0 where
  pub refusal : number ≡ answer_number (forced (loaded before))
  pub memory : after ≡ kept (λ (a : Set). a) (forced (loaded before)) before

-- 02, E10: a byte is queued
pub record QueueCall (before after : Memory) (byte number : ℕ) : Type 0 where
  pub refusal : number ≡ answer_number (byte_queued (loaded before) byte)
  pub memory : after ≡ kept (λ (a : Set). a) (byte_queued (loaded before) byte) before

-- 02, E8: a key in memory: its row and its column, 255 for none
abbrev pub key_numbers : Option Key → List ℕ
key_numbers (Some key) = key.row ∷ key.column ∷ []
key_numbers None = 255 ∷ 255 ∷ []

pub record FillCall (before after : Memory) (was is : List Float) (lights : List ℕ) (number : ℕ) : Type 0 where
  pub refusal : number ≡ answer_number (fill (loaded before) (length was))
  pub memory : after ≡ kept (λ (a : Filled). a.set) (fill (loaded before) (length was)) before
  pub samples : is ≡ buffer (loaded before) was
  pub key : lights ≡ key_numbers (key_filled (fill (loaded before) (length was)))

pub record RingCall (before : Memory) (value number : ℕ) : Type 0 where
  pub refusal : number ≡ answer_number (rung (loaded before))
  pub ring : value ≡ told (λ (ring : ℕ). ring) 0 (rung (loaded before))

pub record CueCall (before : Memory) (position value : ℕ) (lights : List ℕ) (number : ℕ) : Type 0 where
  pub refusal : number ≡ answer_number (cued (loaded before) position)
  pub sample : value ≡ sample_cued (cued (loaded before) position)
  pub key : lights ≡ key_numbers (key_cued (cued (loaded before) position))

-- C in command mode, D in data mode
abbrev pub letter : Bool → ℕ
letter command = cond command 67 68

-- as many of the keys as are the digits; none where a set that is unsound has more than there are places
abbrev pub held_count : ℕ → ℕ
held_count len = cond (leb len 76) len 0
