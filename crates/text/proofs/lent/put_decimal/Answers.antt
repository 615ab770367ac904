-- `text::put_decimal` meets its contract: a number's decimal digits are its last ones, as many as it has. Assumes nothing.
use Rattle.text.proofs.Pages.{decimal-last}
use Rattle.text.proofs.lent.put_decimal.Goals as goal

pub returns : goal.returns
returns c = rw (decimal-last, ← c.places.ensures) c.put_digits.ensures
