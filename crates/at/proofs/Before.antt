-- 02, E6: while S12 is 50 the three guard comparisons are 01's, and a line that is no S12 line leaves S12 or sets it to 50; so a typed byte that ends
-- no S12 line, a lapse and forced data mode are what they were. Clause by clause of the two definitions. Assumes nothing.
use Prim.Native.Nat.{ℕ}
use Prim.Native.Char.{code}
use native.Mathlib.Omega.{arith}
use mathlib.Core.Path.{◌≡◌, refl, sym, ap, ◌∙◌}
use mathlib.Core.Bool.{Bool, true, false, ◌&&◌, and-false}
use mathlib.Core.Logic.{◌⊎◌, inl, inr}
use lib.Dec.{leb, ltb, eqb}
use Rattle.std.specs.Prelude.{Option, Some, None}
use lib.ListN.{drop}
use Rattle.ascii.specs.Ascii.{ascii}
use Rattle.command.specs.declared.Line.{Line}
use Rattle.command.specs.declared.Command.{Command}
use Rattle.command.specs.declared.Command.TheVariants.{At, Atz, Ati, Ata, Ath, Ato, Atdt, AskS12, SetS12}
use Rattle.command.specs.Line.{empty_line, typed, ran_over, uppercased}
use Rattle.command.specs.Command.{begins, is, read, value_from, is_setting, setting_of, command_of}
use Rattle.at.specs.declared.AtProcessor.{AtProcessor}
use Rattle.at.specs.declared.Outcome.{Outcome}
use Rattle.at.specs.declared.Fed.{Fed}
use Rattle.at.specs.Answer.{outcome, answered}
use Rattle.at.specs.Processor.{command_mode, line_of, pluses, seen, down_time, hold_time, fresh_s12, with_line, with_escape, with_s12, added}
use Rattle.at.specs.Command.{executed}
use Rattle.at.specs.Escape.{guard_time, withheld, released, released_if, data_byte, data_byte_if, escaped, escaped_if, waited, waited_if}
use Rattle.at.specs.Carrier.{down_for, down_if, polled, polled_if}
use Rattle.at.specs.At.{ended, ended_if, command_byte, command_byte_if, typed_byte, typed_byte_if, sent, sent_if, lapse, forced_data}
use Rattle.at.specs.Before.{one_second, command_before, withheld_before, escaped_before, waited_before_if, ended_before_if, command_byte_before_if, typed_byte_before, typed_byte_before_if, sent_before, sent_before_if, lapse_before, of_s12, ends_s12_line}

clash : {A : Type 0} → ◌≡◌ {A = Bool} true false → A
clash e = let none : ◌≡◌ {A = ℕ} 0 1 = cc in absurd (omega arith)

-- ---- a line that is no S12 line is 01's
step : (t : Bool) (this x y : Option Command) → (of_s12 x ≡ false → x ≡ y) → of_s12 (read t this x) ≡ false → read t this x ≡ read t this y
step true this x y f e = refl
step false this x y f e = f e

no-s12 : (asks sets good : Bool) (n : ℕ) → of_s12 (read asks (Some AskS12) (read sets (read good (Some (SetS12 n)) None) None)) ≡ false
    → read asks (Some AskS12) (read sets (read good (Some (SetS12 n)) None) None) ≡ None
no-s12 true sets good n e = clash e
no-s12 false false good n e = refl
no-s12 false true true n e = clash e
no-s12 false true false n e = refl

pub command-as-before : (l : Line) → of_s12 (command_of l) ≡ false → command_of l ≡ command_before l
unfolding command_of command_before setting_of
command-as-before l =
    let line = typed l in
    step (ran_over l) None _ _
    (step (is (ascii "AT") line) (Some At) _ _
    (step (is (ascii "ATZ") line) (Some Atz) _ _
    (step (is (ascii "ATI") line) (Some Ati) _ _
    (step (is (ascii "ATA") line) (Some Ata) _ _
    (step (is (ascii "ATH") line) (Some Ath) _ _
    (step (is (ascii "ATH0") line) (Some Ath) _ _
    (step (is (ascii "ATO") line) (Some Ato) _ _
    (step (is (ascii "ATO0") line) (Some Ato) _ _
    (step (begins (ascii "ATDT") line) (Some Atdt) _ _
    (no-s12 (is (ascii "ATS12?") line) (begins (ascii "ATS12=") line) (is_setting (drop 6 line)) (value_from 0 (drop 6 line))))))))))))

-- ---- 01's comparisons read no S12
pub withheld-reads-none : (p : AtProcessor) (n byte : ℕ) → withheld_before (with_s12 n p) byte ≡ withheld_before p byte
unfolding withheld_before
withheld-reads-none p n byte = refl

pub escaped-reads-none : (p : AtProcessor) (n : ℕ) → escaped_before (with_s12 n p) ≡ with_s12 n (escaped_before p)
unfolding escaped_before
escaped-reads-none p n = go (eqb (pluses p) 3 && leb one_second p.idle)
  where
    go : (t : Bool) → escaped_if t (with_s12 n p) ≡ with_s12 n (escaped_if t p)
    go true = refl
    go false = refl

-- and so does no call of 01's processor: with another S12 it answers and sends the same, and is the same but for S12
abbrev outcome_apart : Outcome → Outcome
outcome_apart o = outcome (with_s12 0 o.processor) o.reply o.control

abbrev fed_apart : Fed → Fed
fed_apart f = record { outcome = outcome_apart f.outcome; sent = f.sent; line = f.line }

executed-reads-none : (command : Option Command) (carrier : Bool) (p : AtProcessor) (n : ℕ) → outcome_apart (executed command carrier (with_s12 n p)) ≡ outcome_apart (executed command carrier p)
unfolding executed
executed-reads-none (Some At) carrier p n = refl
executed-reads-none (Some Atz) carrier p n = refl
executed-reads-none (Some Ati) carrier p n = refl
executed-reads-none (Some Ata) carrier p n = refl
executed-reads-none (Some Ath) carrier p n = refl
executed-reads-none (Some Ato) true p n = refl
executed-reads-none (Some Ato) false p n = refl
executed-reads-none (Some Atdt) carrier p n = refl
executed-reads-none (Some AskS12) carrier p n = refl
executed-reads-none (Some (SetS12 s12)) carrier p n = refl
executed-reads-none None carrier p n = refl

module _ (p : AtProcessor) (n : ℕ) where
  pub typed-reads-none : (byte : ℕ) (carrier : Bool) (room : ℕ) → fed_apart (typed_byte_before (with_s12 n p) byte carrier room) ≡ fed_apart (typed_byte_before p byte carrier room)
  unfolding typed_byte_before withheld_before
  typed-reads-none byte carrier room = by_mode (command_mode p)
    where
      ends : (empty : Bool) → fed_apart (ended_before_if empty (with_s12 n p) carrier) ≡ fed_apart (ended_before_if empty p carrier)
      ends true = refl
      ends false = ap (answered (uppercased (line_of p))) (executed-reads-none (command_before (uppercased (line_of p))) carrier (with_line empty_line p) n)

      in-command : (lf cr : Bool) → fed_apart (command_byte_before_if lf cr (with_s12 n p) byte carrier) ≡ fed_apart (command_byte_before_if lf cr p byte carrier)
      in-command true cr = refl
      in-command false true = ends (eqb (line_of p).len 0)
      in-command false false = refl

      in-data : (w r : Bool) → fed_apart (data_byte_if w r (with_s12 n p)) ≡ fed_apart (data_byte_if w r p)
      in-data true r = refl
      in-data false true = refl
      in-data false false = refl

      by_mode : (mode : Bool) → fed_apart (typed_byte_before_if mode (with_s12 n p) byte carrier room) ≡ fed_apart (typed_byte_before_if mode p byte carrier room)
      by_mode true = in-command (eqb byte (code "\n")) (eqb byte (code "\r"))
      by_mode false = in-data (withheld_before p byte) (ltb (pluses p) room)

  pub sent-reads-none : (byte : ℕ) → sent_before (with_s12 n p) byte ≡ sent_before p byte
  unfolding sent_before withheld_before
  sent-reads-none byte = by_mode (command_mode p)
    where
      releases : (w : Bool) → released_if w (with_s12 n p) byte ≡ released_if w p byte
      releases true = refl
      releases false = refl

      by_mode : (mode : Bool) → sent_before_if mode (with_s12 n p) byte ≡ sent_before_if mode p byte
      by_mode true = refl
      by_mode false = releases (withheld_before p byte)

  pub lapse-reads-none : (ns : ℕ) (carrier : Bool) → outcome_apart (lapse_before (with_s12 n p) ns carrier) ≡ outcome_apart (lapse_before p ns carrier)
  unfolding lapse_before polled down_for
  lapse-reads-none ns carrier =
      let q = waited_before_if (command_mode p) p ns in
      ap (λ (x : AtProcessor). outcome_apart (polled x ns carrier)) (waits (command_mode p)) ∙ polls carrier (seen q) q
    where
      waits : (mode : Bool) → waited_before_if mode (with_s12 n p) ns ≡ with_s12 n (waited_before_if mode p ns)
      waits true = refl
      waits false = escaped-reads-none (with_escape (pluses p) (added p.idle ns) p) n

      downs : (t : Bool) (q : AtProcessor) (down : ℕ) → outcome_apart (down_if t (with_s12 n q) down) ≡ outcome_apart (down_if t q down)
      downs true q down = refl
      downs false q down = refl

      polls : (carrier mark : Bool) (q : AtProcessor) → outcome_apart (polled_if carrier mark (with_s12 n q) ns) ≡ outcome_apart (polled_if carrier mark q ns)
      polls true true q = refl
      polls true false q = refl
      polls false true q = let down = added (down_time q) ns in downs (leb hold_time down) q down
      polls false false q = refl

-- ---- while S12 is 50
module _ (p : AtProcessor) (e : p.s12 ≡ fresh_s12) where
  -- the first two comparisons
  pub withheld-as-before : (byte : ℕ) → withheld p byte ≡ withheld_before p byte
  unfolding withheld withheld_before
  withheld-as-before byte = rw e

  -- and the third
  pub escaped-as-before : escaped p ≡ escaped_before p
  unfolding escaped escaped_before
  escaped-as-before = rw e

module _ (p : AtProcessor) (e : p.s12 ≡ fresh_s12) where
  ended-as-before : (carrier empty : Bool) → of_s12 (command_of (uppercased (line_of p))) ≡ false → ended_if empty p carrier ≡ ended_before_if empty p carrier
  ended-as-before carrier true n = refl
  ended-as-before carrier false n = rw (command-as-before (uppercased (line_of p)) n)

  command-byte-as-before : (byte : ℕ) (carrier lf cr : Bool) → (cr && of_s12 (command_of (uppercased (line_of p)))) ≡ false
      → command_byte_if lf cr p byte carrier ≡ command_byte_before_if lf cr p byte carrier
  unfolding ended
  command-byte-as-before byte carrier true cr n = refl
  command-byte-as-before byte carrier false true n = ended-as-before carrier (eqb (line_of p).len 0) n
  command-byte-as-before byte carrier false false n = refl

  by_mode : (byte : ℕ) (carrier : Bool) (room : ℕ) (mode : Bool) → (mode && (eqb byte (code "\r") && of_s12 (command_of (uppercased (line_of p))))) ≡ false
      → typed_byte_if mode p byte carrier room ≡ typed_byte_before_if mode p byte carrier room
  unfolding command_byte data_byte
  by_mode byte carrier room true n = command-byte-as-before byte carrier (eqb byte (code "\n")) (eqb byte (code "\r")) n
  by_mode byte carrier room false n = rw (withheld-as-before p e byte)

  pub typed-as-before : (byte : ℕ) (carrier : Bool) (room : ℕ) → ends_s12_line p byte ≡ false → typed_byte p byte carrier room ≡ typed_byte_before p byte carrier room
  unfolding typed_byte typed_byte_before ends_s12_line
  typed-as-before byte carrier room n = by_mode byte carrier room (command_mode p) n

  pub sent-as-before : (byte : ℕ) → sent p byte ≡ sent_before p byte
  unfolding sent sent_before released
  sent-as-before byte = go (command_mode p)
    where
      go : (mode : Bool) → sent_if mode p byte ≡ sent_before_if mode p byte
      go true = refl
      go false = rw (withheld-as-before p e byte)

  pub lapse-as-before : (ns : ℕ) (carrier : Bool) → lapse p ns carrier ≡ lapse_before p ns carrier
  unfolding lapse waited lapse_before
  lapse-as-before ns carrier = ap (λ (q : AtProcessor). polled q ns carrier) (go (command_mode p))
    where
      go : (mode : Bool) → waited_if mode p ns ≡ waited_before_if mode p ns
      go true = refl
      go false = escaped-as-before (with_escape (pluses p) (added p.idle ns) p) e

-- ---- what ends an S12 line: CR in command mode, after a line that sets it or asks for it, and nothing else
no-other-command : (command : Option Command) → (command ≡ Some AskS12 → ⊥) → ((n : ℕ) → command ≡ Some (SetS12 n) → ⊥) → of_s12 command ≡ false
no-other-command (Some At) asks sets = refl
no-other-command (Some Atz) asks sets = refl
no-other-command (Some Ati) asks sets = refl
no-other-command (Some Ata) asks sets = refl
no-other-command (Some Ath) asks sets = refl
no-other-command (Some Ato) asks sets = refl
no-other-command (Some Atdt) asks sets = refl
no-other-command (Some AskS12) asks sets = absurd (asks refl)
no-other-command (Some (SetS12 n)) asks sets = absurd (sets n refl)
no-other-command None asks sets = refl

module _ (p : AtProcessor) (byte : ℕ) where
  pub none-in-data-mode : command_mode p ≡ false → ends_s12_line p byte ≡ false
  unfolding ends_s12_line
  none-in-data-mode e = rw e

  pub none-but-return : eqb byte (code "\r") ≡ false → ends_s12_line p byte ≡ false
  unfolding ends_s12_line
  none-but-return e = rw (e, and-false)

  pub none-of-01 : (command_of (uppercased (line_of p)) ≡ Some AskS12 → ⊥) → ((n : ℕ) → command_of (uppercased (line_of p)) ≡ Some (SetS12 n) → ⊥) → ends_s12_line p byte ≡ false
  unfolding ends_s12_line
  none-of-01 asks sets = rw (no-other-command (command_of (uppercased (line_of p))) asks sets, and-false, and-false)

-- ---- S12 after a line: a setting is taken, ATZ makes it 50, and every other line leaves it
abbrev pub s12_after : Option Command → ℕ → ℕ
s12_after (Some (SetS12 n)) s12 = n
s12_after (Some Atz) s12 = 50
s12_after (Some At) s12 = s12
s12_after (Some Ati) s12 = s12
s12_after (Some Ata) s12 = s12
s12_after (Some Ath) s12 = s12
s12_after (Some Ato) s12 = s12
s12_after (Some Atdt) s12 = s12
s12_after (Some AskS12) s12 = s12
s12_after None s12 = s12

executed-s12 : (command : Option Command) (carrier : Bool) (p : AtProcessor) → (executed command carrier p).processor.s12 ≡ s12_after command p.s12
unfolding executed
executed-s12 (Some At) carrier p = refl
executed-s12 (Some Atz) carrier p = refl
executed-s12 (Some Ati) carrier p = refl
executed-s12 (Some Ata) carrier p = refl
executed-s12 (Some Ath) carrier p = refl
executed-s12 (Some Ato) true p = refl
executed-s12 (Some Ato) false p = refl
executed-s12 (Some Atdt) carrier p = refl
executed-s12 (Some AskS12) carrier p = refl
executed-s12 (Some (SetS12 n)) carrier p = refl
executed-s12 None carrier p = refl

module _ (p : AtProcessor) (carrier : Bool) (room : ℕ) where
  pub line-s12 : command_mode p ≡ true → eqb (line_of p).len 0 ≡ false
      → (typed_byte p (code "\r") carrier room).outcome.processor.s12 ≡ s12_after (command_of (uppercased (line_of p))) p.s12
  unfolding typed_byte command_byte ended
  line-s12 mode some = by_mode (command_mode p) mode
    where
      ending : (empty : Bool) → empty ≡ false → (ended_if empty p carrier).outcome.processor.s12 ≡ s12_after (command_of (uppercased (line_of p))) p.s12
      ending true e = clash e
      ending false e = executed-s12 (command_of (uppercased (line_of p))) carrier (with_line empty_line p)

      by_mode : (mode : Bool) → mode ≡ true → (typed_byte_if mode p (code "\r") carrier room).outcome.processor.s12 ≡ s12_after (command_of (uppercased (line_of p))) p.s12
      by_mode true e = ending (eqb (line_of p).len 0) some
      by_mode false e = clash (sym e)

  pub byte-leaves-s12 : (byte : ℕ) → (command_mode p && eqb byte (code "\r")) ≡ false → (typed_byte p byte carrier room).outcome.processor.s12 ≡ p.s12
  unfolding typed_byte command_byte data_byte
  byte-leaves-s12 byte = by_mode (command_mode p)
    where
      in-command : (lf cr : Bool) → cr ≡ false → (command_byte_if lf cr p byte carrier).outcome.processor.s12 ≡ p.s12
      in-command true cr e = refl
      in-command false true e = clash e
      in-command false false e = refl

      in-data : (w r : Bool) → (data_byte_if w r p).outcome.processor.s12 ≡ p.s12
      in-data true r = refl
      in-data false true = refl
      in-data false false = refl

      by_mode : (mode : Bool) → (mode && eqb byte (code "\r")) ≡ false → (typed_byte_if mode p byte carrier room).outcome.processor.s12 ≡ p.s12
      by_mode true e = in-command (eqb byte (code "\n")) (eqb byte (code "\r")) e
      by_mode false e = in-data (withheld p byte) (ltb (pluses p) room)

-- ---- only an S12 line makes it another: every other line leaves it, or sets it to 50
after-command : (command : Option Command) (carrier : Bool) (p : AtProcessor) → of_s12 command ≡ false
    → ((executed command carrier p).processor.s12 ≡ p.s12) ⊎ ((executed command carrier p).processor.s12 ≡ fresh_s12)
unfolding executed
after-command (Some At) carrier p n = inl refl
after-command (Some Atz) carrier p n = inr refl
after-command (Some Ati) carrier p n = inl refl
after-command (Some Ata) carrier p n = inl refl
after-command (Some Ath) carrier p n = inl refl
after-command (Some Ato) true p n = inl refl
after-command (Some Ato) false p n = inl refl
after-command (Some Atdt) carrier p n = inl refl
after-command (Some AskS12) carrier p n = inl refl
after-command (Some (SetS12 s12)) carrier p n = clash n
after-command None carrier p n = inl refl

module _ (p : AtProcessor) (byte : ℕ) (carrier : Bool) (room : ℕ) where
  abbrev Kept : Fed → Type 0
  Kept f = (f.outcome.processor.s12 ≡ p.s12) ⊎ (f.outcome.processor.s12 ≡ fresh_s12)

  kept-ended : (empty : Bool) → of_s12 (command_of (uppercased (line_of p))) ≡ false → Kept (ended_if empty p carrier)
  kept-ended true n = inl refl
  kept-ended false n = after-command (command_of (uppercased (line_of p))) carrier (with_line empty_line p) n

  kept-command : (lf cr : Bool) → (cr && of_s12 (command_of (uppercased (line_of p)))) ≡ false → Kept (command_byte_if lf cr p byte carrier)
  unfolding ended
  kept-command true cr n = inl refl
  kept-command false true n = kept-ended (eqb (line_of p).len 0) n
  kept-command false false n = inl refl

  kept-data : (w r : Bool) → Kept (data_byte_if w r p)
  kept-data true r = inl refl
  kept-data false true = inl refl
  kept-data false false = inl refl

  kept_by : (mode : Bool) → (mode && (eqb byte (code "\r") && of_s12 (command_of (uppercased (line_of p))))) ≡ false → Kept (typed_byte_if mode p byte carrier room)
  unfolding command_byte data_byte
  kept_by true n = kept-command (eqb byte (code "\n")) (eqb byte (code "\r")) n
  kept_by false n = kept-data (withheld p byte) (ltb (pluses p) room)

  pub typed-keeps-s12 : ends_s12_line p byte ≡ false → Kept (typed_byte p byte carrier room)
  unfolding typed_byte ends_s12_line
  typed-keeps-s12 n = kept_by (command_mode p) n

-- a lapse and forced data mode leave it
pub lapse-keeps-s12 : (p : AtProcessor) (ns : ℕ) (carrier : Bool) → (lapse p ns carrier).processor.s12 ≡ p.s12
unfolding lapse waited escaped polled down_for
lapse-keeps-s12 p ns carrier = let q = waited_if (command_mode p) p ns in polls carrier (seen q) q ∙ waits-by (command_mode p)
  where
    escapes : (t : Bool) (q : AtProcessor) → (escaped_if t q).s12 ≡ q.s12
    escapes true q = refl
    escapes false q = refl

    waits-by : (mode : Bool) → (waited_if mode p ns).s12 ≡ p.s12
    waits-by true = refl
    waits-by false = let q = with_escape (pluses p) (added p.idle ns) p in escapes (eqb (pluses q) 3 && leb (guard_time q) q.idle) q

    downs : (t : Bool) (q : AtProcessor) (down : ℕ) → (down_if t q down).processor.s12 ≡ q.s12
    downs true q down = refl
    downs false q down = refl

    polls : (carrier mark : Bool) (q : AtProcessor) → (polled_if carrier mark q ns).processor.s12 ≡ q.s12
    polls true true q = refl
    polls true false q = refl
    polls false true q = let down = added (down_time q) ns in downs (leb hold_time down) q down
    polls false false q = refl

pub forced-keeps-s12 : (p : AtProcessor) → (forced_data p).s12 ≡ p.s12
unfolding forced_data
forced-keeps-s12 p = refl
