-- `tone::mix` meets its contract: the sum of two parts fits 16 bits. Assumes nothing.
use Rattle.handset.proofs.Gain.{tone-back, sum_fits, cast_fits, mixed-is}
use Rattle.handset.proofs.tone.mix.Goals as goal

pub overflow_add-result : goal.overflow_add-result
overflow_add-result c = sum_fits _ _ _ _ (tone-back _ _ c.tone-a.ensures) (tone-back _ _ c.tone-b.ensures)

pub overflow_cast-result : goal.overflow_cast-result
overflow_cast-result c = cast_fits _ _ _ _ (tone-back _ _ c.tone-a.ensures) (tone-back _ _ c.tone-b.ensures)

pub returns : goal.returns
returns c = mixed-is _ _ _ _ (tone-back _ _ c.tone-a.ensures) (tone-back _ _ c.tone-b.ensures)
