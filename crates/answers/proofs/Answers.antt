-- Demand 1 holds of every set: each call asks nothing, and its contract tells the rest. Assumes nothing.
use Prim.Native.Nat.{ℕ}
use mathlib.Core.Path.{◌≡◌, refl, sym, ◌∙◌}
use mathlib.Core.Bool.{Bool, true, false}
use mathlib.Core.List.{List, [], ◌∷◌}
use native.Mathlib.Omega.{arith}
use lib.Dec.{leb}
use lib.ListN.{length}
use Rattle.ascii.specs.Front.{put_if, put, put_length_if, put_length}
use Rattle.reply.specs.Texts.{text_of}
use Rattle.nco.specs.Lent.{lent_sample, lent_nco}
use Rattle.set.specs.declared.Set.{Set}
use Rattle.set.proofs.Answers.{new-answers, typed-answers, typed-all-answers, advance-time-answers, force-data-mode-answers, filled-answers, queue-byte-answers, ring-number-answers}
use Rattle.cue.proofs.Answers.{cued-answers}
use Rattle.refusal.specs.declared.Refusal.{Refusal}
use Rattle.refusal.specs.declared.Refusal.TheVariants.{Rate, Outbox, Length, Unsound, Position, StringLength, StringRoom, Digits, BadFrame, QueueFull, TooLong, Start, Address}
use Rattle.refusal.specs.Refusal.{number_of}
use Rattle.answers.specs.Answers.{Answers}

-- a text of which nothing is written leaves the buffer
nothing_written : (text was : List ℕ) → put_length text (length was) ≡ 0 → put text was ≡ was
unfolding put put_length
nothing_written text was e = go (leb (length text) (length was)) text e
  where
    go : (fits : Bool) (text : List ℕ) → put_length_if fits text ≡ 0 → put_if fits text was ≡ was
    go false text e = refl
    go true [] e = refl
    go true (x ∷ text) e = let no : ⊥ = omega arith in absurd no

pub writer-answers : (code s12 : ℕ) (out left : List ℕ) (n : ℕ)
    → (n ≡ put_length (text_of code s12) (length out)) × (left ≡ put (text_of code s12) out)
    → (n ≡ put_length (text_of code s12) (length out)) × (n ≡ 0 → left ≡ out)
writer-answers code s12 out left n d =
    let told : n ≡ put_length (text_of code s12) (length out) = d.0 in
    let wrote : left ≡ put (text_of code s12) out = d.1 in
    (told, λ nothing. wrote ∙ nothing_written (text_of code s12) out (sym told ∙ nothing))

-- 02, E1 and E10: the numbers that are given no more
abbrev pub Never : ℕ → Type 0
Never n = (n ≡ 4 → ⊥) × (n ≡ 5 → ⊥)

pub never : (refusal : Refusal) → Never (number_of refusal)
never Rate = (λ e. omega arith, λ e. omega arith)
never Outbox = (λ e. omega arith, λ e. omega arith)
never Length = (λ e. omega arith, λ e. omega arith)
never Unsound = (λ e. omega arith, λ e. omega arith)
never Position = (λ e. omega arith, λ e. omega arith)
never StringLength = (λ e. omega arith, λ e. omega arith)
never StringRoom = (λ e. omega arith, λ e. omega arith)
never Digits = (λ e. omega arith, λ e. omega arith)
never BadFrame = (λ e. omega arith, λ e. omega arith)
never QueueFull = (λ e. omega arith, λ e. omega arith)
never TooLong = (λ e. omega arith, λ e. omega arith)
never Start = (λ e. omega arith, λ e. omega arith)
never Address = (λ e. omega arith, λ e. omega arith)

pub answers : (s : Set) → Answers s
unfolding lent_sample lent_nco
answers s =
    record {
      creation = new-answers;
      typing = typed-answers s;
      string = typed-all-answers s;
      time = advance-time-answers s;
      forcing = force-data-mode-answers s;
      filling = filled-answers s;
      queuing = queue-byte-answers s;
      ring = ring-number-answers s;
      cue = cued-answers s;
      never4 = λ refusal. (never refusal).0;
      never5 = λ refusal. (never refusal).1;
      writer = writer-answers;
      oscillator = λ nco outside. (rw outside, rw outside);
    }
