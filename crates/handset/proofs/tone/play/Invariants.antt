-- `tone::play` meets its contract: the part written is the definition's samples, and the phases are those of the sample to come. Assumes nothing.
use Rattle.std.proofs.Common.{◌≡◌, ◌+◌}
use Rattle.std.specs.Prelude.{Some}
use Rattle.handset.specs.Tone.{phase_after}
use Rattle.handset.proofs.Heard.{Written}
use Rattle.handset.proofs.tone.play.Given as goal

abbrev pub invariant-loop-sample : goal.invariant-loop-sample
invariant-loop-sample l = Written (Some l.fn.tones) l.fn.rate.hertz l.fn.steps l.fn.out l.out l.sample-index
    × (l.a ≡ phase_after l.s (l.fn.steps + l.sample-index)) × (l.b ≡ phase_after l.t (l.fn.steps + l.sample-index))
