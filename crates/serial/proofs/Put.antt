-- What stands on a page: the fields of an answer, one behind the other. Assumes nothing.
use Prim.Native.Nat.{ℕ}
use mathlib.Core.Path.{◌≡◌}
use mathlib.Core.Bool.{Bool}
use mathlib.Core.List.{List}
use Rattle.ascii.specs.Ascii.{ascii}
use Rattle.text.specs.Page.{Page, add_of}
use Rattle.text.specs.Fields.{numbered, hex_on}
use Rattle.report.specs.Report.{mode_text}
use Rattle.at.specs.Processor.{command_mode}
use Rattle.session.specs.declared.SessionState.{SessionState}
use Rattle.session.specs.Session.{state_number}
use Rattle.uart.specs.declared.Chip.{Chip}
use Rattle.serial.specs.Answers.{told}

pub told_is : (p : Page) (c : Chip) (number value : ℕ) (sent : List ℕ) {mode : Bool} {st : SessionState} {n state stage count : ℕ} {a b d e f g h i : Page}
    → n ≡ number → mode ≡ command_mode c.set.processor → st ≡ c.set.session.state → state ≡ state_number st → stage ≡ c.set.session.shown → count ≡ c.set.session.m
    → a ≡ numbered p n → b ≡ numbered a value → d ≡ add_of (add_of b (mode_text mode)) (ascii ",") → e ≡ numbered d state
    → f ≡ numbered e stage → g ≡ numbered f count → h ≡ hex_on g sent → i ≡ add_of h (ascii "\n") → i ≡ told p c number value sent
unfolding told
told_is p c number value sent r m s n t k ea eb ed ee ef eg eh ei = rw (ei, eh, eg, ef, ee, ed, eb, ea, r, m, n, s, t, k)
