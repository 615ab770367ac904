-- 01, "Floats": an oscillator record lent by reference and stepped there; with phase or step outside [0, TAU) it gives 0.0 and stays.
use Rattle.std.specs.Prelude.{Bool, true, false, ◌&&◌, Float}
use Rattle.math.specs.Float.{zero}
use Rattle.nco.specs.declared.Nco.{Nco}
use Rattle.nco.specs.Nco.{phase_in_range, sample_of, stepped_nco}

abbrev pub sample_if : Bool → Nco → Float
sample_if true n = sample_of n
sample_if false n = zero

abbrev pub stepped_if : Bool → Nco → Nco
stepped_if true n = stepped_nco n
stepped_if false n = n

unfoldable pub lent_sample : Nco → Float
lent_sample n = sample_if (phase_in_range n.phase && phase_in_range n.step) n

unfoldable pub lent_nco : Nco → Nco
lent_nco n = stepped_if (phase_in_range n.phase && phase_in_range n.step) n
