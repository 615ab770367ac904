-- 02, E1, of whole lines: of the bytes typed into an empty line the first 80 are held, and it ran over just if there were more. A line that ran over
-- is no command. By induction on the bytes. Assumes nothing.
use Prim.Native.Nat.{ℕ, ◌≤◌, ◌<◌, min}
use native.Mathlib.Numerals.{add-one}
use native.Mathlib.Omega.{arith}
use mathlib.Core.Path.{◌≡◌, refl, sym, ap, subst, ◌∙◌}
use mathlib.Core.List.{List, [], ◌∷◌, ◌++◌, append-nil, append_assoc}
use mathlib.Core.Bool.{Bool, true, false}
use lib.Dec.{ltb}
use lib.ListN.{length, take, length-append, length-set, length-replicate}
use lib.Seq.{take_all, take-append-le, take-suc-set}
use borrow.Author.Tests.{ltb-true, ltb-false, lt-ltb, le-ltb}
use Rattle.command.specs.declared.Line.{Line}
use Rattle.std.specs.Prelude.{None}
use Rattle.command.specs.Line.{empty_line, typed, ran_over, pushed, pushed_if}
use Rattle.command.specs.Command.{command_of}

-- the line with these bytes more
unfoldable pub pushes : List ℕ → Line → Line
pushes [] l = l
pushes (b ∷ bytes) l = pushes bytes (pushed l b)

-- a line into which these bytes were typed
pub record Holds (bytes : List ℕ) (l : Line) : Type 0 where
  pub array : length l.bytes ≡ 80
  pub number : l.len ≡ min (length bytes) 80
  pub first : typed l ≡ take 80 bytes
  pub mark : ran_over l ≡ ltb 80 (length bytes)

module _ (bytes : List ℕ) (b : ℕ) (l : Line) (h : Holds bytes l) where
  next-by : (t : Bool) → ltb l.len 80 ≡ t → Holds (bytes ++ (b ∷ [])) (pushed_if t l b)
  next-by true e =
      let room : l.len < 80 = ltb-true _ _ e in
      let few : length bytes < 80 = omega (arith, h.number) in
      let all : take 80 (bytes ++ (b ∷ [])) ≡ take 80 bytes ++ (b ∷ []) = take_all 80 _ (omega (arith, length-append bytes (b ∷ []))) ∙ ap (λ (front : List ℕ). front ++ (b ∷ [])) (sym (take_all 80 bytes (omega arith))) in
      record {
        array = length-set l.bytes l.len b ∙ h.array;
        number = omega (arith, h.number, length-append bytes (b ∷ []));
        first = rw add-one (take-suc-set l.bytes l.len b (omega (arith, h.array)) ∙ ap (λ (front : List ℕ). front ++ (b ∷ [])) h.first ∙ sym all);
        mark = h.mark ∙ le-ltb 80 (length bytes) (omega arith) ∙ sym (le-ltb 80 (length (bytes ++ (b ∷ []))) (omega (arith, length-append bytes (b ∷ []))));
      }
  next-by false e =
      let full : 80 ≤ l.len = ltb-false _ _ e in
      let many : 80 ≤ length bytes = omega (arith, h.number) in
      record {
        array = h.array;
        number = omega (arith, h.number, length-append bytes (b ∷ []));
        first = h.first ∙ sym (take-append-le 80 bytes (b ∷ []) many);
        mark = sym (lt-ltb 80 (length (bytes ++ (b ∷ []))) (omega (arith, length-append bytes (b ∷ []))));
      }

  next : Holds (bytes ++ (b ∷ [])) (pushed l b)
  unfolding pushed
  next = next-by (ltb l.len 80) refl

held_after : (typed-so-far bytes : List ℕ) (l : Line) → Holds typed-so-far l → Holds (typed-so-far ++ bytes) (pushes bytes l)
unfolding pushes
held_after before [] l h = subst (λ (bytes : List ℕ). Holds bytes l) (sym (append-nil before)) h
held_after before (b ∷ bytes) l h =
    subst (λ (all : List ℕ). Holds all (pushes bytes (pushed l b))) (append_assoc before (b ∷ []) bytes)
    (held_after (before ++ (b ∷ [])) bytes (pushed l b) (next before b l h))

pub overlong : (bytes : List ℕ) → Holds bytes (pushes bytes empty_line)
overlong bytes = held_after [] bytes empty_line (record { array = length-replicate {A = ℕ} 80 0; number = refl; first = refl; mark = refl })

pub no-command : (l : Line) → ran_over l ≡ true → command_of l ≡ None
unfolding command_of
no-command l over = rw over
