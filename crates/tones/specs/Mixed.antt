-- 01, "Stages": a sample of two oscillators, and the two after it.
use Rattle.std.specs.Prelude.{Bool, true, false, Float}
use Rattle.math.specs.Float.{zero}
use Rattle.nco.specs.declared.Nco.{Nco}
use Rattle.nco.specs.Nco.{sample_of, stepped_nco}
use Rattle.tones.specs.declared.Mixed.{Mixed}
use Rattle.tones.specs.Samples.{mixed, ansam_sample}

-- 2, 3, 4: mixed, or resting in a gap
unfoldable pub gated_of : Bool → Nco → Nco → Mixed
gated_of true a b = record { sample = mixed (sample_of a) (sample_of b); a = stepped_nco a; b = stepped_nco b }
gated_of false a b = record { sample = zero; a = a; b = b }

-- 6
unfoldable pub answer_of : Nco → Nco → Float → Mixed
answer_of carrier env sign = record { sample = ansam_sample (sample_of carrier) (sample_of env) sign; a = stepped_nco carrier; b = stepped_nco env }
