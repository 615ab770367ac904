-- `text::places` meets its contract: one digit more than the power of ten that the number reaches. Assumes nothing.
use mathlib.Core.Path.{refl}
use Rattle.text.specs.Digits.{decimal_of, decimal_from, decimal_if, places_of}
use Rattle.text.proofs.Pages.{places-between}
use Rattle.text.proofs.places.Goals as goal

pub returns-in-None : goal.returns-in-None
unfolding places_of decimal_of decimal_from decimal_if
returns-in-None c = rw c.in-None.ensures.none refl

pub returns-in-Some : goal.returns-in-Some
returns-in-Some c = let e = c.in-Some.ensures in places-between c.in-Some.power c.args.number e.bound e.power_le e.next_power_gt
