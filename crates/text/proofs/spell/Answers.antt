-- `text::spell` meets its contract: the digits still to come, and the buffer from there on, are what will stand there. Assumes nothing.
use native.Mathlib.Omega.{arith}
use Rattle.text.proofs.Pages.{spelt_more, spelt_all}
use Rattle.text.proofs.spell.Goals as goal

pub loop-i-preserved : goal.loop-i-preserved
loop-i-preserved c = spelt_more c.loop-i.out c.loop-i.i c.loop-i.rest c.args.base c.loop-i-test.true (omega arith) c.glyph.ensures c.loop-i.invariant

pub returns : goal.returns
returns c = spelt_all c.loop-i.out c.loop-i.i c.loop-i.rest c.args.base c.loop-i-test.false c.loop-i.invariant
