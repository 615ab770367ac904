-- The bits that several calls took, joined, are read in one call: the first call's own bits again (`taken-again`), and then the others' (`read-on`).
-- By induction on the calls. Assumes nothing.
use Prim.Native.Nat.{ℕ, zero, suc, ◌+◌, ◌-◌, ◌≤◌}
use native.Mathlib.Omega.{arith}
use mathlib.Core.Bool.{Bool}
use mathlib.Core.List.{List, [], ◌∷◌, ◌++◌, map-append}
use mathlib.Core.Path.{◌≡◌, refl, sym, ap, ◌∙◌}
use lib.ListN.{length, take, length-append, length-map}
use lib.Seq.{length-take-le}
use Rattle.deframe.specs.declared.Deframer.{Deframer}
use Rattle.deframe.specs.Read.{Read, is_mark, marks_of, read_of}
use Rattle.deframe.specs.Calls.{Lent, Run, call, after, run_of, at_once, OneCall}
use Rattle.deframe.proofs.Parts.{ahead, taken-few, taken-again, read-on}

marks-taken : (n : ℕ) (bits : List ℕ) → marks_of (take n bits) ≡ take n (marks_of bits)
marks-taken zero bits = refl
marks-taken (suc n) [] = refl
marks-taken (suc n) (b ∷ bits) = ap (λ (l : List Bool). is_mark b ∷ l) (marks-taken n bits)

module _ (p : Deframer) (c : Lent) (run : Run) (room : ℕ) (l : length ((call p c).bytes ++ run.bytes) ≤ room) where
  -- the bits that the call took, as they came and as marks
  abbrev front : List ℕ
  front = take (call p c).taken c.bits

  abbrev mine : List Bool
  mine = take (call p c).taken (marks_of c.bits)

  few : (call p c).taken ≤ length (marks_of c.bits)
  few = taken-few c.room p (marks_of c.bits)

  parts : marks_of (front ++ run.took) ≡ mine ++ marks_of run.took
  parts = map-append is_mark front run.took ∙ ap (λ (l : List Bool). l ++ marks_of run.took) (marks-taken (call p c).taken c.bits)

  again : read_of room p mine ≡ call p c
  again = taken-again c.room room p (marks_of c.bits) (omega (arith, l, length-append (call p c).bytes run.bytes))

  long : length mine ≡ (call p c).taken
  long = length-take-le (call p c).taken (marks_of c.bits) few

  counted : length mine + length run.took ≡ length (front ++ run.took)
  counted = omega (arith, long, length-append front run.took, length-take-le (call p c).taken c.bits (omega (arith, few, length-map c.bits is_mark)))

  one-step : ((r : ℕ) → length run.bytes ≤ r → read_of r (call p c).place (marks_of run.took) ≡ at_once run)
      → read_of room p (marks_of (after c (call p c) run).took) ≡ at_once (after c (call p c) run)
  one-step ih =
      ap (read_of room p) parts
      ∙ read-on room p mine (marks_of run.took) (ap (λ (r : Read). r.taken) again ∙ sym long)
      ∙ ap (λ (r : Read). ahead (length mine) r.bytes (read_of (room - length r.bytes) r.place (marks_of run.took))) again
      ∙ ap (ahead (length mine) (call p c).bytes) (ih (room - length (call p c).bytes) (omega (arith, l, length-append (call p c).bytes run.bytes)))
      ∙ ap (λ (n : ℕ). record { place = run.place; taken = n; bytes = (call p c).bytes ++ run.bytes }) counted

pub one-call : (p : Deframer) → OneCall p
unfolding run_of read_of
one-call p [] room h = refl
one-call p (c ∷ calls) room h = one-step p c (run_of (call p c).place calls) room h (one-call (call p c).place calls)
