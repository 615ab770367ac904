-- `Set::feed_all` meets its contract: by its cause, and by what the bytes come to. Assumes nothing.
use mathlib.Core.Bool.{true}
use mathlib.Core.Path.{◌≡◌, sym, ap}
use lib.ListN.{length}
use Rattle.set.specs.Refusals.{accepted}
use Rattle.set.specs.String.{string_cause, typed_all, outbox_all, codes_all}
use Rattle.set.proofs.String.{fits}
use Rattle.set.proofs.Set.feed_all.Goals as goal

pub take_bytes-requires : goal.take_bytes-requires
unfolding accepted
take_bytes-requires c = let f = fits _ _ _ _ (sym (ap accepted c.in_ok-string_cause.ensures)) in
    record { is_sound = f.sound; few = f.few; outbox_room = f.outbox; codes_room = f.codes }

pub returns : goal.returns
unfolding typed_all outbox_all codes_all accepted
returns c = let taken = c.in_ok-string_cause.ensures in let t = c.take_bytes.ensures in
    record { value = rw (← taken, ← t.set_value, ← t.sent_value); out_after = rw (← taken) t.out_after; codes_after = rw (← taken) t.codes_after }
