-- 02, E10: "A set with more waiting, or whose sender breaks 01's ranges or a frame's ten bits, is unsound", at the rate r.
use Rattle.std.specs.Prelude.{ℕ, Bool, ◌&&◌, leb}
use Rattle.queue.specs.Queue.{queue_ok}
use Rattle.sender.specs.declared.Sender.{Sender}
use Rattle.sender.specs.declared.Sending.{Sending}
use Rattle.soundness.specs.Sound.{modulator_ok}

-- 01's ranges: phase and step in [0, TAU), oscillator rate r; symbol phase in [0, 1), symbol step 300 / r. Of a frame's ten bits 0 to 10 are begun
unfoldable pub sender_ok : Sender → ℕ → Bool
sender_ok s r = modulator_ok s.modulator r && leb s.begun 10

-- no more than 256 wait
unfoldable pub sending_ok : Sending → ℕ → Bool
sending_ok x r = sender_ok x.sender r && queue_ok x.queue
