-- `text::Page::put_seconds` meets its contract: what `put_seconds` leaves of the page's buffer, up to the place, is shown. Assumes nothing.
use Rattle.text.specs.Seconds.{seconds_of}
use Rattle.text.proofs.Texts.{shown, within}
use Rattle.text.proofs.Page.put_seconds.Goals as goal

pub invariant_of-self : goal.invariant_of-self
invariant_of-self g c = within g.row.N c.self.inside.end c.self.inside.bytes (seconds_of c.args.samples c.args.rate) c.put_seconds-self-inside.new.out c.put_seconds-self-inside.result c.self.invariant c.self.told c.put_seconds-self-inside.ensures

pub returns : goal.returns
returns g c = rw (← c.self.view_is) (shown g.row.N c.self.inside.end c.self.inside.bytes (seconds_of c.args.samples c.args.rate) c.put_seconds-self-inside.new.out c.put_seconds-self-inside.result c.self.invariant c.self.told c.put_seconds-self-inside.ensures)
