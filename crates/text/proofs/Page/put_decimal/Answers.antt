-- `text::Page::put_decimal` meets its contract: what `put_decimal` leaves of the page's buffer, up to the place, is shown. Assumes nothing.
use Rattle.text.specs.Digits.{decimal_of}
use Rattle.text.proofs.Texts.{shown, within}
use Rattle.text.proofs.Page.put_decimal.Goals as goal

pub invariant_of-self : goal.invariant_of-self
invariant_of-self g c = within g.row.N c.self.inside.end c.self.inside.bytes (decimal_of c.args.number) c.put_decimal-self-inside.new.out c.put_decimal-self-inside.result c.self.invariant c.self.told c.put_decimal-self-inside.ensures

pub returns : goal.returns
returns g c = rw (← c.self.view_is) (shown g.row.N c.self.inside.end c.self.inside.bytes (decimal_of c.args.number) c.put_decimal-self-inside.new.out c.put_decimal-self-inside.result c.self.invariant c.self.told c.put_decimal-self-inside.ensures)
