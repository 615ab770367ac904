-- `text::spell` meets its contract: the digits still to come, and the buffer from there on, are what will stand there. Assumes nothing.
use Rattle.std.proofs.Common.{◌≡◌, ◌++◌, length, drop}
use Rattle.text.specs.Digits.{last_digits}
use Rattle.text.proofs.spell.Given as goal

abbrev pub invariant-loop-i : goal.invariant-loop-i
invariant-loop-i l = last_digits l.base l.i l.rest ++ drop l.i l.out ≡ last_digits l.base (length l.initial.out) l.number
