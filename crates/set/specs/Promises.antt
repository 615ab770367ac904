-- What each call promises of its answer, and of what it was lent and left: the words of its contract. proofs/Promises.antt ties each to the contract
-- itself, as the toolchain reads it.
use Rattle.std.specs.Prelude.{◌≡◌, ℕ, Bool, List, Float, length, Result}
use Rattle.refusal.specs.declared.Refusal.{Refusal}
use Rattle.set.specs.declared.Set.{Set}
use Rattle.set.specs.declared.Made.{Made}
use Rattle.set.specs.declared.Typed.{Typed}
use Rattle.set.specs.declared.TypedAll.{TypedAll}
use Rattle.set.specs.declared.Lapsed.{Lapsed}
use Rattle.set.specs.declared.Filled.{Filled}
use Rattle.set.specs.Set.{made, typed, outbox, lapsed, forced, fill, buffer, byte_queued, rung}
use Rattle.set.specs.String.{typed_all, outbox_all, codes_all}

abbrev pub IsMade : ℕ → Made → Type 0
IsMade rate answer = answer ≡ made rate

abbrev pub IsTyped : Set → ℕ → Bool → (was left : List ℕ) → Result Typed Refusal → Type 0
IsTyped s byte carrier was left answer = (answer ≡ typed s byte carrier (length was)) × (left ≡ outbox s byte was)

abbrev pub IsTypedAll : Set → List ℕ → Bool → (was left codes codes_left : List ℕ) → Result TypedAll Refusal → Type 0
IsTypedAll s bytes carrier was left codes codes_left answer =
    (answer ≡ typed_all s bytes carrier (length was) (length codes))
    × ((left ≡ outbox_all s bytes carrier was (length codes)) × (codes_left ≡ codes_all s bytes carrier (length was) codes))

abbrev pub IsLapsed : Set → ℕ → Bool → Result Lapsed Refusal → Type 0
IsLapsed s ns carrier answer = answer ≡ lapsed s ns carrier

abbrev pub IsForced : Set → Result Set Refusal → Type 0
IsForced s answer = answer ≡ forced s

abbrev pub IsFilled : Set → (was left : List Float) → Result Filled Refusal → Type 0
IsFilled s was left answer = (answer ≡ fill s (length was)) × (left ≡ buffer s was)

abbrev pub IsQueued : Set → ℕ → Result Set Refusal → Type 0
IsQueued s byte answer = answer ≡ byte_queued s byte

abbrev pub IsRung : Set → Result ℕ Refusal → Type 0
IsRung s answer = answer ≡ rung s
