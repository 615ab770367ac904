-- A byte that the line keeps joins it, and a line that is ended has at most 80 bytes, 76 of them after ATDT. 02, E1: a line that ran over is ended
-- with ERROR and leaves an empty one, which has no mark, and only a byte typed in command mode changes line and mark. Assumes nothing.
use Prim.Native.Nat.{ℕ, ◌≤◌}
use Prim.Native.Char.{code}
use native.Mathlib.Omega.{arith}
use mathlib.Core.Path.{◌≡◌, refl, ◌∙◌}
use mathlib.Core.List.{List, [], ◌∷◌, ◌++◌}
use mathlib.Core.Bool.{Bool, true, false, ◌&&◌}
use lib.ListN.{length}
use lib.Dec.{leb, ltb, eqb}
use borrow.Author.Tests.{ne_eqb}
use Rattle.reply.specs.declared.Reply.TheVariants.{One}
use Rattle.reply.specs.declared.Code.TheVariants.{Error}
use Rattle.command.specs.Line.{empty_line, typed, ran_over, sound_line, pushed, uppercased}
use Rattle.command.proofs.Pushed as line
use Rattle.command.proofs.Overlong.{no-command}
use Rattle.at.specs.declared.AtProcessor.{AtProcessor}
use Rattle.std.specs.Prelude.{None}
use Rattle.at.specs.declared.Fed.{Fed}
use Rattle.at.specs.Processor.{command_mode, line_of, pluses, seen, down_time, hold_time, sound, with_line, with_escape, added}
use Rattle.at.specs.Answer.{outcome, answered}
use Rattle.at.specs.Command.{executed}
use Rattle.at.specs.Escape.{guard_time, withheld, data_byte, data_byte_if, escaped, escaped_if, waited, waited_if}
use Rattle.at.specs.Carrier.{down_for, down_if, polled, polled_if}
use Rattle.at.specs.At.{ended, command_byte, typed_byte, typed_byte_if, after_atdt, lapse, forced_data}
use Rattle.at.proofs.Bytes.{Typed, dropped, ends, grows, waits, sends, declined, typed_byte_lem}
use Rattle.at.proofs.Sound.{parts}

-- ---- in command mode
module _ (p : AtProcessor) (mode : command_mode p ≡ true) (carrier : Bool) (room : ℕ) where
  -- a byte other than LF and CR
  module _ (byte : ℕ) (lf : eqb byte (code "\n") ≡ false) (cr : eqb byte (code "\r") ≡ false) where
    grown : line_of (typed_byte p byte carrier room).outcome.processor ≡ pushed (line_of p) byte
    unfolding typed_byte command_byte
    grown = rw (mode, lf, cr)

    -- stands at the end of a line that it did not run over
    pub joins : length (line_of p).bytes ≡ 80 → ran_over (line_of (typed_byte p byte carrier room).outcome.processor) ≡ false
        → typed (line_of (typed_byte p byte carrier room).outcome.processor) ≡ typed (line_of p) ++ (byte ∷ [])
    joins long kept = rw grown (line.joins (line_of p) byte long (rw grown at kept))

    -- where it finds 80 it is dropped, and the line marked
    pub runs-over : 80 ≤ (line_of p).len
        → (typed (line_of (typed_byte p byte carrier room).outcome.processor) ≡ typed (line_of p)) × (ran_over (line_of (typed_byte p byte carrier room).outcome.processor) ≡ true)
    runs-over full = rw grown (line.dropped (line_of p) byte full)

  -- LF leaves line and mark
  pub line-feed : line_of (typed_byte p (code "\n") carrier room).outcome.processor ≡ line_of p
  unfolding typed_byte command_byte
  line-feed = rw mode

  -- CR on a line that ran over gives ERROR and leaves an empty line with no mark
  pub error-on-return : sound p ≡ true → ran_over (line_of p) ≡ true
      → typed_byte p (code "\r") carrier room ≡ answered (uppercased (line_of p)) (outcome (with_line empty_line p) (One Error) None)
  unfolding typed_byte command_byte ended uppercased executed
  error-on-return e over = rw (mode, ne_eqb _ 0 (line.marked-some (line_of p) (parts p e).line over), no-command (uppercased (line_of p)) over)

-- ---- nothing else changes line or mark: in data mode a typed byte, forced data mode, and a lapse, whether it completes an escape or loses the carrier
pub data-keeps-line : (p : AtProcessor) (byte : ℕ) (carrier : Bool) (room : ℕ) → command_mode p ≡ false → line_of (typed_byte p byte carrier room).outcome.processor ≡ line_of p
unfolding typed_byte data_byte
data-keeps-line p byte carrier room mode = by_mode (command_mode p) mode
  where
    go : (w r : Bool) → line_of (data_byte_if w r p).outcome.processor ≡ line_of p
    go true r = refl
    go false true = refl
    go false false = refl

    by_mode : (m : Bool) → m ≡ false → line_of (typed_byte_if m p byte carrier room).outcome.processor ≡ line_of p
    by_mode false e = go (withheld p byte) (ltb (pluses p) room)
    by_mode true e = let no : ◌≡◌ {A = ℕ} 0 1 = cc in absurd (omega arith)

pub forced-keeps-line : (p : AtProcessor) → line_of (forced_data p) ≡ line_of p
unfolding forced_data
forced-keeps-line p = refl

pub lapse-keeps-line : (p : AtProcessor) (ns : ℕ) (carrier : Bool) → line_of (lapse p ns carrier).processor ≡ line_of p
unfolding lapse waited escaped polled down_for
lapse-keeps-line p ns carrier = let q = waited_if (command_mode p) p ns in polls carrier (seen q) q ∙ waits (command_mode p)
  where
    escapes : (t : Bool) (q : AtProcessor) → line_of (escaped_if t q) ≡ line_of q
    escapes true q = refl
    escapes false q = refl

    waits : (mode : Bool) → line_of (waited_if mode p ns) ≡ line_of p
    waits true = refl
    waits false = let q = with_escape (pluses p) (added p.idle ns) p in escapes (eqb (pluses q) 3 && leb (guard_time q) q.idle) q

    downs : (t : Bool) (q : AtProcessor) (down : ℕ) → line_of (down_if t q down).processor ≡ line_of q
    downs true q down = refl
    downs false q down = refl

    polls : (carrier mark : Bool) (q : AtProcessor) → line_of (polled_if carrier mark q ns).processor ≡ line_of q
    polls true true q = refl
    polls true false q = refl
    polls false true q = let down = added (down_time q) ns in downs (leb hold_time down) q down
    polls false false q = refl

-- ---- a line that is ended
sound-line : {p : AtProcessor} {byte : ℕ} {carrier : Bool} {room : ℕ} {f : Fed} {bytes : List ℕ} → sound_line (line_of p) ≡ true → Typed p byte carrier room f bytes → sound_line f.line ≡ true
sound-line l dropped = line.sound_empty
sound-line {p} l ends = rw (line.sound-uppercased (line_of p)) l
sound-line l grows = line.sound_empty
sound-line l (waits w) = line.sound_empty
sound-line l (sends r) = line.sound_empty
sound-line l (declined r) = line.sound_empty

pub few-after : (p : AtProcessor) (byte : ℕ) (carrier : Bool) (room : ℕ) → sound p ≡ true → length (after_atdt (typed_byte p byte carrier room)) ≤ 76
few-after p byte carrier room e =
    line.few-after (typed_byte p byte carrier room).line (sound-line (parts p e).line (typed_byte_lem p byte carrier room))
