-- What a line of `bill` comes to and what is printed for it, read off the four functions, which ask nothing, so that a promise that says less is refused
-- here. Assumes nothing.
use Prim.Native.Nat.{ℕ}
use mathlib.Core.List.{List, [], ◌∷◌, ◌++◌}
use mathlib.Core.Path.{◌≡◌}
use Rattle.std.specs.Prelude.{Option}
use contract.Lifetimes.{Lfts}
use denote.Ref.{Bor, MutBor, at_last}
use Rattle.text.specs.Page.{Page}
use Rattle.bill.specs.declared.lines.Line.{Line}
use Rattle.bill.specs.declared.lines.Asked.{Asked}
use Rattle.bill.specs.Lines.{line_of, next_of, answer_of, asked_of}
use Rattle.bill.specs.Page.{answered}
use Rattle.bill.proofs.lines.Line.new.Reads as new
use Rattle.bill.proofs.lines.Line.push.Reads as push
use Rattle.bill.proofs.lines.Line.asked.Reads as asked
use Rattle.bill.proofs.page.put_answer.Reads as put-answer

pub starts : new.Asked tt tt × ((l : Line) → new.Learnt tt tt l tt → l ≡ line_of [])
starts = (tt, λ l d. d)

pub grows : (κs : Lfts 1) (l : MutBor Line) (byte : ℕ)
    → push.Asked κs (l, (byte, tt))
    × ((left : Line) → push.Learnt κs (l, (byte, tt)) tt (at_last l left, (byte, tt)) → (left ≡ next_of l.now byte) × ((line : List ℕ) → l.now ≡ line_of line → left ≡ line_of (line ++ byte ∷ [])))
grows κs l byte = (tt, λ left d. d)

pub asks : (κs : Lfts 1) (l : Bor Line)
    → asked.Asked κs (l, tt)
    × ((a : Option Asked) → asked.Learnt κs (l, tt) a (l, tt) → (a ≡ answer_of l.now) × ((line : List ℕ) → l.now ≡ line_of line → a ≡ asked_of line))
asks κs l = (tt, λ a d. d)

pub answers : (κs : Lfts 1) (on : MutBor Page) (a : Option Asked)
    → put-answer.Asked κs (on, (a, tt))
    × ((left : Page) → put-answer.Learnt κs (on, (a, tt)) tt (at_last on left, (a, tt)) → left ≡ answered on.now a)
answers κs on a = (tt, λ left d. d)
