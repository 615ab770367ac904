-- 02, E6: the calls as they were before S12, over 01's AT processor (at/specs/Before.antt): a typed byte and its outbox, and a lapse. Forced data mode
-- fills and queued bytes read no S12 and are as they were; a string is its single bytes.
use Rattle.std.specs.Prelude.{ℕ, Bool, List, [], length, Result}
use Rattle.ascii.specs.Front.{put}
use Rattle.at.specs.At.{after_atdt}
use Rattle.at.specs.Before.{typed_byte_before, sent_before, lapse_before}
use Rattle.control.specs.Control.{heard}
use Rattle.refusal.specs.declared.Refusal.{Refusal}
use Rattle.set.specs.declared.Set.{Set}
use Rattle.set.specs.declared.Typed.{Typed}
use Rattle.set.specs.declared.Lapsed.{Lapsed}
use Rattle.set.specs.Refusals.{if_accepted, answered}
use Rattle.set.specs.Set.{obeyed, typing_cause, lapse_cause}

abbrev pub byte_typed_before : Set → ℕ → Bool → ℕ → Typed
byte_typed_before s byte carrier n =
    let fed = typed_byte_before s.processor byte (heard s.session carrier) n in
    record {
      set = obeyed s fed.outcome (after_atdt fed);
      reply = fed.outcome.reply;
      sent = fed.sent;
    }

unfoldable pub typed_before : Set → ℕ → Bool → ℕ → Result Typed Refusal
typed_before s byte carrier n = answered (typing_cause s n) (byte_typed_before s byte carrier n)

unfoldable pub outbox_before : Set → ℕ → List ℕ → List ℕ
outbox_before s byte was = if_accepted (typing_cause s (length was)) (put (sent_before s.processor byte) was) was

abbrev pub time_lapsed_before : Set → ℕ → Bool → Lapsed
time_lapsed_before s ns carrier =
    let o = lapse_before s.processor ns (heard s.session carrier) in
    record { set = obeyed s o []; reply = o.reply }

unfoldable pub lapsed_before : Set → ℕ → Bool → Result Lapsed Refusal
lapsed_before s ns carrier = answered (lapse_cause s) (time_lapsed_before s ns carrier)
