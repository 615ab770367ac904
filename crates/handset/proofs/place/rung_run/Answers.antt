-- `place::rung_run` meets its contract: what the cadence tells of the first sample, for as long as it stays. Assumes nothing.
use Rattle.std.proofs.Common.{ap, ◌∙◌, le_trans, lit≤}
use Rattle.schedule.specs.Ringback.{ring_time, ring_tone}
use Rattle.handset.specs.Sound.{ring_sound}
use Rattle.handset.proofs.Lifted.{gate-stays}
use Rattle.handset.proofs.place.rung_run.Goals as goal

pub returns : goal.returns
returns c = let gate = c.ringback_gate.ensures ∙ ap ring_tone (c.ring_progress-progress.ensures.1 ∙ ap ring_time c.seconds.ensures) in
    record {
      room = record { some = c.ring_run-count.ensures.some; fits = c.ring_run-count.ensures.fits };
      sound = c.ring_sound-sound.ensures ∙ ap ring_sound gate;
      steps = c.rung-steps.ensures;
      stays = gate-stays _ _ _ _ c.ring_run-count.ensures (le_trans c.requires.0 (lit≤ tt)) (le_trans c.requires.2 (lit≤ tt));
    }
