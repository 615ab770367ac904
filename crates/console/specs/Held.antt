-- What a reader of lines holds besides what is seen of it: nothing, for behind the line's own numbers there is none. So its view gives its fields back.
-- Assumes nothing.
use Prim.Native.Nat.{ℕ, ◌-◌, ◌≤◌}
use mathlib.Core.List.{List, ◌++◌}
use mathlib.Core.Path.{◌≡◌, ap, sym, ◌∙◌, subst}
use lib.ListN.{length, take, drop, take-append-drop}
use lib.Seq.{length-take-le}
use Rattle.std.specs.Prelude.{Option, None, replicate}

-- of what is made of the numbers and their count
pub given_back :
    {X : Type 0} (make : List (Option ℕ) → ℕ → X) (room count : ℕ) (ns : List (Option ℕ)) → count ≤ room → length ns ≡ room → drop count ns ≡ replicate (room - count) None
    → make (take count ns ++ replicate (room - length (take count ns)) None) (length (take count ns)) ≡ make ns count
given_back make room count ns h e k =
    let long : length (take count ns) ≡ count = length-take-le count ns (subst (λ (n : ℕ). count ≤ n) (sym e) h) in
    ap (λ (n : ℕ). make (take count ns ++ replicate (room - n) None) n) long
    ∙ ap (λ (rest : List (Option ℕ)). make (take count ns ++ rest) count) (sym k)
    ∙ ap (λ (all : List (Option ℕ)). make all count) (take-append-drop count ns)
