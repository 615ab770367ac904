-- `bits::ten` meets its contract: a list of ten is its elements (`ten-marks`). Assumes nothing.
use Rattle.panel.proofs.Ten.{ten-marks}
use Rattle.panel.proofs.bits.ten.Goals as goal

pub returns : goal.returns
returns c = rw (
  c.is_mark.ensures,
  c.is_mark-2.ensures,
  c.is_mark-3.ensures,
  c.is_mark-4.ensures,
  c.is_mark-5.ensures,
  c.is_mark-6.ensures,
  c.is_mark-7.ensures,
  c.is_mark-8.ensures,
  c.is_mark-9.ensures,
  c.is_mark-10.ensures,
)
    (ten-marks c.args.string.now c.requires)
