-- What std's comparisons of slices say of a line, in the words of 01: it is a text, or begins with one. By induction on both. Assumes nothing.
use Prim.Native.Nat.{ℕ, suc}
use native.Mathlib.Omega.{arith}
use mathlib.Core.Path.{◌≡◌, refl, sym, ap, ◌∙◌}
use mathlib.Core.List.{List, [], ◌∷◌}
use mathlib.Core.Bool.{Bool, true, false, ◌&&◌}
use lib.ListN.{length, take}
use lib.Dec.{eqb, eqb-suc-suc}
use borrow.Author.Tests.{ne_eqb}
use Rattle.std.specs.Cmp.Lexicographic.{pointwise}
use Rattle.command.specs.Command.{begins, is}

and-swap : (a b c : Bool) → (a && (b && c)) ≡ (b && (a && c))
and-swap true b c = refl
and-swap false true c = refl
and-swap false false c = refl

-- `strip_prefix`
pub prefix : (text line : List ℕ) → pointwise eqb (take (length text) line) text ≡ begins text line
unfolding begins
prefix [] line = refl
prefix (t ∷ text) [] = refl
prefix (t ∷ text) (b ∷ line) = rw (prefix text line)

-- `==`
pub equal : (text line : List ℕ) → pointwise eqb line text ≡ is text line
unfolding is begins
equal [] [] = refl
equal [] (b ∷ line) = rw (ne_eqb (suc (length line)) 0 (λ e. omega arith))
equal (t ∷ text) [] = rw (ne_eqb 0 (suc (length text)) (λ e. omega arith))
equal (t ∷ text) (b ∷ line) =
    let both : eqb (length (b ∷ line)) (length (t ∷ text)) ≡ eqb (length line) (length text) = eqb-suc-suc (length line) (length text) in
    rw (equal text line) (and-swap (eqb b t) (eqb (length line) (length text)) (begins text line) ∙ ap (λ (same : Bool). same && (eqb b t && begins text line)) (sym both))
