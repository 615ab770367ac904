-- `tone::tone` meets its contract: the product fits 32 bits, and the shift is the rounding of the definition. Assumes nothing.
use Rattle.handset.proofs.Gain.{product-fits, tone-is}
use Rattle.handset.proofs.tone.tone.Goals as goal

pub overflow_mul-result : goal.overflow_mul-result
overflow_mul-result c = product-fits _ _ c.entry-e.ensures.0

pub returns : goal.returns
returns c = tone-is _ _ c.entry-e.ensures.0
