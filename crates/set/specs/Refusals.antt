-- 01, "When a call is declined": the causes of each call in the order in which they are checked. The crate `refusal` has their numbers.
use Rattle.std.specs.Prelude.{ℕ, ◌≡◌, Bool, true, false, Result, Ok, Err}
use Rattle.refusal.specs.declared.Refusal.{Refusal}
use Rattle.refusal.specs.declared.Refusal.TheVariants.{Rate, Outbox, Length, Unsound, StringLength, StringRoom, QueueFull}
use Rattle.refusal.specs.Refusal.{answer_number}

-- what the checks of a call come to: the cause for which it is declined, or none
abbrev pub Checked : Type 0
Checked = Result (Unit {0}) Refusal

-- creation: 1
abbrev pub cause_of_creation : (limits : Bool) → Checked
cause_of_creation false = Err Rate
cause_of_creation true = Ok tt

-- a call with no cause but the set: 6
abbrev pub cause_of_sound : (ok : Bool) → Checked
cause_of_sound false = Err Unsound
cause_of_sound true = Ok tt

-- a typed byte: 6, 2
abbrev pub cause_of_typing : (ok room : Bool) → Checked
cause_of_typing false room = Err Unsound
cause_of_typing true false = Err Outbox
cause_of_typing true true = Ok tt

-- a fill: 6, 3
abbrev pub cause_of_fill : (ok long : Bool) → Checked
cause_of_fill false long = Err Unsound
cause_of_fill true true = Err Length
cause_of_fill true false = Ok tt

-- 02, E3: a string: 6, 8, 9
abbrev pub cause_of_string : (ok long short : Bool) → Checked
cause_of_string false long short = Err Unsound
cause_of_string true true short = Err StringLength
cause_of_string true false true = Err StringRoom
cause_of_string true false false = Ok tt

-- 02, E10: "after 6, a byte for a full queue gives 12"
abbrev pub cause_of_queuing : (ok full : Bool) → Checked
cause_of_queuing false full = Err Unsound
cause_of_queuing true true = Err QueueFull
cause_of_queuing true false = Ok tt

-- ---- a call goes by whether it is accepted: it comes to something, or all is as it was
abbrev pub Declined : Checked → Type 0
Declined cause = answer_number cause ≡ 0 → ⊥

unfoldable pub accepted : Checked → Bool
accepted (Ok done) = true
accepted (Err cause) = false

abbrev pub either : {X : Type 0} → Bool → X → X → X
either true next was = next
either false next was = was

abbrev pub if_accepted : {X : Type 0} → Checked → X → X → X
if_accepted cause next was = either (accepted cause) next was

-- its answer is what it comes to, or the cause
abbrev pub answered : {X : Type 0} → Checked → X → Result X Refusal
answered (Ok done) answer = Ok answer
answered (Err cause) answer = Err cause

abbrev pub checked : {X : Type 0} → Result X Refusal → Checked
checked (Ok answer) = Ok tt
checked (Err cause) = Err cause

-- what is told of an answer, and what stands for it where the call is declined
abbrev pub told : {X Y : Type 0} → (X → Y) → Y → Result X Refusal → Y
told tells none (Ok answer) = tells answer
told tells none (Err cause) = none
