-- 02, E1, of a whole line typed into a sound processor with an empty one: up to 80 bytes it holds them all and has no mark, and after more CR gives
-- ERROR, asks for nothing and leaves an empty line. By what each byte does to the line. Assumes nothing.
use Prim.Native.Nat.{ℕ, ◌≤◌, ◌<◌}
use Prim.Native.Char.{code}
use mathlib.Core.Path.{◌≡◌, refl, ap, ◌∙◌}
use mathlib.Core.List.{List, [], ◌∷◌}
use mathlib.Core.Bool.{Bool, true, false}
use lib.Dec.{eqb}
use lib.ListN.{length}
use lib.Seq.{take_all}
use borrow.Author.Tests.{lt-ltb, le-ltb}
use Rattle.reply.specs.declared.Reply.TheVariants.{One}
use Rattle.reply.specs.declared.Code.TheVariants.{Error}
use Rattle.command.specs.Line.{empty_line, typed, ran_over, pushed}
use Rattle.command.proofs.Overlong.{pushes, overlong}
use Rattle.at.specs.declared.AtProcessor.{AtProcessor}
use Rattle.std.specs.Prelude.{None}
use Rattle.at.specs.declared.Fed.{Fed}
use Rattle.at.specs.Processor.{command_mode, line_of, sound, with_line}
use Rattle.at.specs.At.{command_byte, typed_byte}
use Rattle.at.proofs.Lines.{error-on-return}
use Rattle.at.proofs.Sound.{sound-typed}

-- bytes that are neither LF nor CR
abbrev pub OfALine : List ℕ → Type 0
OfALine [] = Unit {0}
OfALine (byte ∷ bytes) = ((eqb byte (code "\n") ≡ false) × (eqb byte (code "\r") ≡ false)) × OfALine bytes

module _ (carrier : Bool) (room : ℕ) where
  abbrev pub after_bytes : List ℕ → AtProcessor → AtProcessor
  after_bytes [] p = p
  after_bytes (byte ∷ bytes) p = after_bytes bytes (typed_byte p byte carrier room).outcome.processor

  one_byte : (p : AtProcessor) (byte : ℕ) → command_mode p ≡ true → eqb byte (code "\n") ≡ false → eqb byte (code "\r") ≡ false
      → (typed_byte p byte carrier room).outcome.processor ≡ with_line (pushed (line_of p) byte) p
  unfolding typed_byte command_byte
  one_byte p byte mode lf cr = rw (mode, lf, cr)

  all-bytes : (bytes : List ℕ) (p : AtProcessor) → command_mode p ≡ true → OfALine bytes → after_bytes bytes p ≡ with_line (pushes bytes (line_of p)) p
  unfolding pushes
  all-bytes [] p mode line = refl
  all-bytes (byte ∷ bytes) p mode ((lf, cr), line) =
      ap (after_bytes bytes) (one_byte p byte mode lf cr) ∙ all-bytes bytes (with_line (pushed (line_of p) byte) p) mode line

  sound-after : (bytes : List ℕ) (p : AtProcessor) → sound p ≡ true → sound (after_bytes bytes p) ≡ true
  sound-after [] p e = e
  sound-after (byte ∷ bytes) p e = sound-after bytes (typed_byte p byte carrier room).outcome.processor (sound-typed p byte carrier room e)

  module _ (bytes : List ℕ) (line : OfALine bytes) (p : AtProcessor) (mode : command_mode p ≡ true) (empty : line_of p ≡ empty_line) where
    line-is : line_of (after_bytes bytes p) ≡ pushes bytes empty_line
    line-is = ap line_of (all-bytes bytes p mode line) ∙ ap (pushes bytes) empty

    pub line-fits : length bytes ≤ 80 → (typed (line_of (after_bytes bytes p)) ≡ bytes) × (ran_over (line_of (after_bytes bytes p)) ≡ false)
    line-fits few =
        rw line-is ((overlong bytes).first ∙ take_all 80 bytes few, (overlong bytes).mark ∙ le-ltb 80 (length bytes) few)

    -- the answer to the CR after more
    abbrev ended : Fed
    ended = typed_byte (after_bytes bytes p) (code "\r") carrier room

    pub line-overlong : sound p ≡ true → 80 < length bytes → (ended.outcome.reply ≡ One Error) × (ended.outcome.control ≡ None) × (line_of ended.outcome.processor ≡ empty_line)
    line-overlong e many =
        let over : ran_over (line_of (after_bytes bytes p)) ≡ true = rw line-is ((overlong bytes).mark ∙ lt-ltb 80 (length bytes) many) in
        let command : command_mode (after_bytes bytes p) ≡ true = ap command_mode (all-bytes bytes p mode line) ∙ mode in
        let answer = error-on-return (after_bytes bytes p) command carrier room (sound-after bytes p e) over in
        (ap (λ (f : Fed). f.outcome.reply) answer, ap (λ (f : Fed). f.outcome.control) answer, ap (λ (f : Fed). line_of f.outcome.processor) answer)
