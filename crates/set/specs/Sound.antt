-- 01, "When a call is declined": which sets are sound. The state's own ranges, the rate's limits and that all digits are keys are `soundness`'s,
-- the line, the pluses and the down time `at`'s. 02, E10: the sender and what
-- waits for it are `soundness`'s too.
use Rattle.std.specs.Prelude.{Bool, ◌&&◌, leb}
use Rattle.at.specs.Processor as processor
use Rattle.soundness.specs.Sound.{sound_state}
use Rattle.soundness.specs.Sending.{sending_ok}
use Rattle.session.specs.Session.{digits_held}
use Rattle.set.specs.declared.Set.{Set}

-- digits <= 76; m <= 5,000,000; shown stage <= 9
unfoldable pub sound : Set → Bool
sound s =
    leb s.session.digits.len 76
    && (sound_state s.session.stage (digits_held s.session) s.rate
    && (processor.sound s.processor
    && (leb s.session.m 5000000
    && (leb s.session.shown 9 && sending_ok s.sending s.rate))))
