-- 01, "When a call is declined": its table of numbers, with those of 02: E2's 7, E3's 8 and 9, E4's 10, E7's 11, E10's 12, E11's 13, E12's 14 and
-- E13's 15. 02, E1 and E10: numbers 4 and 5 never occur.
use Rattle.std.specs.Prelude.{ℕ, Result, Ok, Err}
use Rattle.refusal.specs.declared.Refusal.{Refusal}
use Rattle.refusal.specs.declared.Refusal.TheVariants.{Rate, Outbox, Length, Unsound, Position, StringLength, StringRoom, Digits, BadFrame, QueueFull, TooLong, Start, Address}

abbrev pub number_of : Refusal → ℕ
number_of Rate = 1
number_of Outbox = 2
number_of Length = 3
number_of Unsound = 6
number_of Position = 7
number_of StringLength = 8
number_of StringRoom = 9
number_of Digits = 10
number_of BadFrame = 11
number_of QueueFull = 12
number_of TooLong = 13
number_of Start = 14
number_of Address = 15

-- 0 for none
abbrev pub answer_number : {T : Type 0} → Result T Refusal → ℕ
answer_number (Ok answer) = 0
answer_number (Err refusal) = number_of refusal
