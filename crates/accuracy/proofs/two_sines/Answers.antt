-- `two_sines` meets its contract, by the size of two tones mixed. Assumes nothing.
use Rattle.math.specs.Sine.{sine}
use Rattle.tones.specs.Samples.{mixed}
use Rattle.accuracy.proofs.Level.{narrowed-level, mixed-size}
use Rattle.accuracy.proofs.two_sines.Goals as goal

pub returns : goal.returns
unfolding mixed
returns c = let p = c.args.p in
    let q = c.args.q in
    record { value = rw (c.narrow.ensures, c.sin-2.ensures, c.sin.ensures); in_level = rw (c.narrow.ensures, c.sin-2.ensures, c.sin.ensures) (narrowed-level (mixed (sine p) (sine q)) (mixed-size p q)) }
