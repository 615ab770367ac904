-- `text::Page::put` meets its contract: what `put` leaves of the page's buffer, up to the place, is shown. Assumes nothing.
use Rattle.text.proofs.Texts.{shown, within}
use Rattle.text.proofs.Page.put.Goals as goal

pub invariant_of-self : goal.invariant_of-self
invariant_of-self g c = within g.row.N c.self.inside.end c.self.inside.bytes c.args.text.now c.put-self-inside.new.out c.put-self-inside.result c.self.invariant c.self.told c.put-self-inside.ensures

pub returns : goal.returns
returns g c = rw (← c.self.view_is) (shown g.row.N c.self.inside.end c.self.inside.bytes c.args.text.now c.put-self-inside.new.out c.put-self-inside.result c.self.invariant c.self.told c.put-self-inside.ensures)
