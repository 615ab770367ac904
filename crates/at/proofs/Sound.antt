-- A sound processor stays sound: by a typed byte, a lapse of time and forced data mode, clause by clause of the definitions.
-- Assumes nothing.
use Prim.Native.Nat.{ℕ, ◌≤◌, ◌<◌}
use native.Mathlib.Omega.{arith}
use mathlib.Core.Path.{◌≡◌, refl}
use mathlib.Core.List.{List}
use mathlib.Core.Bool.{Bool, true, false, ◌&&◌, and-eq-true_iff}
use lib.Dec.{leb, eqb}
use Rattle.std.specs.Prelude.{Option, Some, None}
use borrow.Author.Tests.{leb-true, leb-false, ltb-true, le-leb, lt-ltb}
use Rattle.command.specs.declared.Command.{Command}
use Rattle.command.specs.declared.Command.TheVariants.{At, Atz, Ati, Ata, Ath, Ato, Atdt, AskS12, SetS12}
use Rattle.command.specs.Line.{sound_line}
use Rattle.command.proofs.Pushed.{sound_empty, sound-pushed}
use Rattle.at.specs.declared.AtProcessor.{AtProcessor}
use Rattle.at.specs.declared.Fed.{Fed}
use Rattle.at.specs.Processor.{command_mode, line_of, pluses, seen, down_time, hold_time, sound, fresh, with_escape, added}
use Rattle.at.specs.Command.{executed}
use Rattle.at.specs.Escape.{guard_time, escaped, escaped_if, waited, waited_if}
use Rattle.at.specs.Carrier.{down_for, down_if, polled, polled_if}
use Rattle.at.specs.At.{typed_byte, lapse, forced_data}
use Rattle.at.proofs.Few.{withheld-few}
use Rattle.at.proofs.Bytes.{Typed, dropped, ends, grows, waits, sends, declined, typed_byte_lem}

-- pluses <= 3; down time < 700 ms
pub record Ranges (p : AtProcessor) : Type 0 where
  pub held : pluses p ≤ 3
  pub down : down_time p < hold_time

pub record Sound (p : AtProcessor) : Type 0 where
  pub line : sound_line (line_of p) ≡ true
  pub ranges : Ranges p

pub parts : (p : AtProcessor) → sound p ≡ true → Sound p
unfolding sound
parts p e =
    let (line, rest) = (and-eq-true_iff (sound_line (line_of p)) _).0 e in
    let (held, down) = (and-eq-true_iff (leb (pluses p) 3) _).0 rest in
    record { line = line; ranges = record { held = leb-true _ _ held; down = ltb-true _ _ down } }

pub whole : (p : AtProcessor) → Sound p → sound p ≡ true
unfolding sound
whole p s = rw (s.line, le-leb _ _ s.ranges.held, lt-ltb _ _ s.ranges.down)

-- with the line as it was, or another sound one
with-ranges : {p : AtProcessor} → sound_line (line_of p) ≡ true → Ranges p → Sound p
with-ranges l r = record { line = l; ranges = r }

-- a typed byte keeps it

kept-executed : (command : Option Command) (carrier : Bool) (p : AtProcessor) → Sound p → Sound (executed command carrier p).processor
unfolding executed
kept-executed (Some At) carrier p s = with-ranges s.line (omega arith)
kept-executed (Some Atz) carrier p s = with-ranges s.line (omega arith)
kept-executed (Some Ati) carrier p s = with-ranges s.line (omega arith)
kept-executed (Some Ata) carrier p s = with-ranges s.line (omega arith)
kept-executed (Some Ath) carrier p s = with-ranges s.line (omega arith)
kept-executed (Some Ato) true p s = with-ranges s.line (omega arith)
kept-executed (Some Ato) false p s = with-ranges s.line (omega arith)
kept-executed (Some Atdt) carrier p s = with-ranges s.line (omega arith)
kept-executed (Some AskS12) carrier p s = with-ranges s.line (omega arith)
kept-executed (Some (SetS12 n)) carrier p s = with-ranges s.line (omega arith)
kept-executed None carrier p s = with-ranges s.line (omega arith)

kept-typed : {p : AtProcessor} {byte : ℕ} {carrier : Bool} {room : ℕ} {f : Fed} {bytes : List ℕ} → Sound p → Typed p byte carrier room f bytes → Sound f.outcome.processor
kept-typed s dropped = s
kept-typed {carrier = carrier} s ends = kept-executed _ carrier _ (with-ranges sound_empty (omega arith))
kept-typed {p} {byte} s grows = with-ranges (sound-pushed (line_of p) byte s.line) (omega arith)
kept-typed {p} {byte} s (waits w) = with-ranges s.line (omega (arith, withheld-few p byte w))
kept-typed s (sends r) = with-ranges s.line (omega arith)
kept-typed s (declined r) = s

pub sound-typed : (p : AtProcessor) (byte : ℕ) (carrier : Bool) (room : ℕ) → sound p ≡ true → sound (typed_byte p byte carrier room).outcome.processor ≡ true
sound-typed p byte carrier room e = whole _ (kept-typed (parts p e) (typed_byte_lem p byte carrier room))

-- and so do a lapse and forced data mode

kept-escaped : (t : Bool) (p : AtProcessor) → Sound p → Sound (escaped_if t p)
kept-escaped true p s = with-ranges s.line (omega arith)
kept-escaped false p s = with-ranges s.line (omega arith)

kept-waited : (mode : Bool) (p : AtProcessor) (ns : ℕ) → Sound p → Sound (waited_if mode p ns)
unfolding escaped
kept-waited true p ns s = with-ranges s.line (omega arith)
kept-waited false p ns s =
    let idle = added p.idle ns in
    kept-escaped (eqb (pluses p) 3 && leb (guard_time p) idle) (with_escape (pluses p) idle p) (with-ranges s.line (omega arith))

kept-down : (t : Bool) (p : AtProcessor) (down : ℕ) → leb hold_time down ≡ t → Sound p → Sound (down_if t p down).processor
kept-down true p down e s = with-ranges s.line (omega arith)
kept-down false p down e s = with-ranges s.line (omega (arith, leb-false hold_time down e))

kept-polled : (carrier mark : Bool) (p : AtProcessor) (ns : ℕ) → Sound p → Sound (polled_if carrier mark p ns).processor
unfolding down_for
kept-polled true true p ns s = with-ranges s.line (omega arith)
kept-polled true false p ns s = with-ranges s.line (omega arith)
kept-polled false true p ns s =
    let down = added (down_time p) ns in
    kept-down (leb hold_time down) p down refl s
kept-polled false false p ns s = with-ranges s.line (omega arith)

pub sound-lapse : (p : AtProcessor) (ns : ℕ) (carrier : Bool) → sound p ≡ true → sound (lapse p ns carrier).processor ≡ true
unfolding lapse waited polled
sound-lapse p ns carrier e =
    let q = waited_if (command_mode p) p ns in
    whole _ (kept-polled carrier (seen q) q ns (kept-waited (command_mode p) p ns (parts p e)))

pub sound-forced : (p : AtProcessor) → sound p ≡ true → sound (forced_data p) ≡ true
unfolding forced_data
sound-forced p e = let s = parts p e in whole (forced_data p) (with-ranges s.line (omega arith))

pub sound-fresh : sound fresh ≡ true
sound-fresh = whole fresh (with-ranges sound_empty (omega arith))
