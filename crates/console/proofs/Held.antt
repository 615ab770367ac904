-- Behind the line's own numbers there is none. Assumes nothing.
use Prim.Native.Nat.{ℕ, ◌+◌, ◌-◌, ◌<◌}
use borrow.Author.Tests.{clash}
use mathlib.Core.List.{List}
use mathlib.Core.Bool.{Bool, true, false}
use mathlib.Core.Path.{◌≡◌, ap, ◌∙◌}
use native.Mathlib.Omega.{arith}
use lib.ListN.{drop, set}
use lib.Seq.{drop-drop}
use Rattle.std.specs.Prelude.{Option, None, Some, replicate}
use Rattle.console.specs.declared.fields.Place.{Place}
use Rattle.console.specs.declared.fields.Place.TheVariants.{Start, Letter, Empty, Digit}
use Rattle.std.proofs.lemmas.List.{drop-set-lt, drop-replicate}

-- a number is put at a place of the line's own
pub none-behind : (room count at : ℕ) (ns : List (Option ℕ)) (n : Option ℕ) → at < count → drop count ns ≡ replicate (room - count) None → drop count (set ns at n) ≡ replicate (room - count) None
none-behind room count at ns n h k = drop-set-lt count ns at n h ∙ k

-- or at the next, which is the line's own then
pub none-behind-one-more : (room count : ℕ) (ns : List (Option ℕ)) (n : Option ℕ) → drop count ns ≡ replicate (room - count) None → drop (count + 1) (set ns count n) ≡ replicate (room - (count + 1)) None
none-behind-one-more room count ns n k =
    let e : room - count - 1 ≡ room - (count + 1) = omega arith in
    drop-set-lt (count + 1) ns count n (omega arith) ∙ (rw (← (drop-drop 1 count ns), k, drop-replicate, e))

-- where the letter is behind or a number begins, no digit is
at_digit : Option Place → Bool
at_digit None = false
at_digit (Some Start) = false
at_digit (Some Letter) = false
at_digit (Some Empty) = false
at_digit (Some Digit) = true

pub letter-no-digit : Some Letter ≡ Some Digit → ⊥
unfolding at_digit
letter-no-digit e = clash (ap at_digit e)

pub empty-no-digit : Some Empty ≡ Some Digit → ⊥
unfolding at_digit
empty-no-digit e = clash (ap at_digit e)
