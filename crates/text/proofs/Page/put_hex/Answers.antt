-- `text::Page::put_hex` meets its contract: what `put_hex` leaves of the page's buffer, up to the place, is shown. Assumes nothing.
use Rattle.text.specs.Digits.{last_digits}
use Rattle.text.proofs.Texts.{shown, within}
use Rattle.text.proofs.Page.put_hex.Goals as goal

pub invariant_of-self : goal.invariant_of-self
invariant_of-self g c = within g.row.N c.self.inside.end c.self.inside.bytes (last_digits 16 c.args.count c.args.number) c.put_hex-self-inside.new.out c.put_hex-self-inside.result c.self.invariant c.self.told c.put_hex-self-inside.ensures

pub returns : goal.returns
returns g c = rw (← c.self.view_is) (shown g.row.N c.self.inside.end c.self.inside.bytes (last_digits 16 c.args.count c.args.number) c.put_hex-self-inside.new.out c.put_hex-self-inside.result c.self.invariant c.self.told c.put_hex-self-inside.ensures)
