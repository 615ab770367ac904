-- 02, E6: of the lines that begin with ATS12 one asks, those with a setting set, and every other is no command. By the line's first five bytes, which
-- no line of 01 has. Assumes nothing.
use Prim.Native.Nat.{ℕ, ◌<◌}
use native.Mathlib.Omega.{arith}
use mathlib.Core.Path.{◌≡◌, refl, sym, ap, ◌∙◌}
use mathlib.Core.List.{List, ◌∷◌}
use Rattle.std.specs.Prelude.{Option, Some, None}
use mathlib.Core.Bool.{Bool, true, false, ◌&&◌}
use lib.Dec.{eqb}
use lib.ListN.{length, drop}
use borrow.Author.Tests.{eqb-true, eqb-false, eq-eqb, ne_eqb}
use Rattle.ascii.specs.Ascii.{ascii}
use Rattle.command.specs.declared.Line.{Line}
use Rattle.command.specs.declared.Command.{Command}
use Rattle.command.specs.declared.Command.TheVariants.{AskS12, SetS12}
use Rattle.command.specs.Line.{typed, ran_over}
use Rattle.command.specs.Command.{begins, is, read, lines01, value_from, is_setting, setting_of, command_of}

-- ATS12 and what stands after it
abbrev pub after_ats12 : List ℕ → List ℕ
after_ats12 rest = 65 ∷ 84 ∷ 83 ∷ 49 ∷ 50 ∷ rest

no-line-of-01 : (rest : List ℕ) (other : Option Command) → lines01 (after_ats12 rest) other ≡ other
unfolding is begins
no-line-of-01 rest other =
    rw (longer 2 (omega arith), longer 3 (omega arith), longer 4 (omega arith))
  where
    longer : (n : ℕ) → n < 5 → eqb (length (after_ats12 rest)) n ≡ false
    longer n l = ne_eqb (length (after_ats12 rest)) n (λ (e : length (after_ats12 rest) ≡ n). omega arith)

question : (rest : List ℕ) → is (ascii "ATS12?") (after_ats12 rest) ≡ is (ascii "?") rest
unfolding is begins
question rest = ap (λ (t : Bool). t && begins (ascii "?") rest) (go (eqb (length rest) 1) refl)
  where
    go : (t : Bool) → eqb (length rest) 1 ≡ t → eqb (length (after_ats12 rest)) 6 ≡ eqb (length rest) 1
    go true e = eq-eqb (length (after_ats12 rest)) 6 (omega (arith, eqb-true (length rest) 1 e)) ∙ sym e
    go false e = ne_eqb (length (after_ats12 rest)) 6 (λ (six : length (after_ats12 rest) ≡ 6). eqb-false (length rest) 1 e (omega arith)) ∙ sym e

module _ (l : Line) (rest : List ℕ) (line : typed l ≡ after_ats12 rest) (fits : ran_over l ≡ false) where
  by-rest : command_of l ≡ read (is (ascii "?") rest) (Some AskS12) (read (begins (ascii "=") rest) (setting_of (drop 1 rest)) None)
  unfolding command_of begins
  by-rest = rw (fits, line, no-line-of-01 rest _, question rest)

  pub asks : is (ascii "?") rest ≡ true → command_of l ≡ Some AskS12
  asks q = rw (by-rest, q)

  pub sets : is (ascii "?") rest ≡ false → begins (ascii "=") rest ≡ true → is_setting (drop 1 rest) ≡ true → command_of l ≡ Some (SetS12 (value_from 0 (drop 1 rest)))
  unfolding setting_of
  sets q b n = rw (by-rest, q, b, n)

  pub other-forms : is (ascii "?") rest ≡ false → (begins (ascii "=") rest && is_setting (drop 1 rest)) ≡ false → command_of l ≡ None
  unfolding setting_of
  other-forms q s = rw (by-rest, q) (go (begins (ascii "=") rest) (is_setting (drop 1 rest)) refl s)
    where
      go : (b n : Bool) → is_setting (drop 1 rest) ≡ n → (b && n) ≡ false → read b (setting_of (drop 1 rest)) None ≡ None
      go false n e f = refl
      go true true e f = let none : ◌≡◌ {A = ℕ} 0 1 = cc in absurd (omega arith)
      go true false e f = rw e
