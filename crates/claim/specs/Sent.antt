-- 02, E10: "Over every list of fills and queuings after one dial line, sent bits are the frames of the oldest queued bytes in order, ones around
-- them, the last frame perhaps unfinished; the queued bytes not begun are those waiting." What is noted of the calls, and what is claimed of it.
use Rattle.std.specs.Prelude.{ℕ, ◌≡◌, List, [], ◌∷◌, ◌++◌, Float}
use Rattle.sender.specs.declared.Sending.{Sending}
use Rattle.sender.specs.Symbols as symbol
use Rattle.sender.specs.Symbols.{Symbol, bits_of}
use Rattle.sender.specs.Carries.{Carries}
use Rattle.sender.specs.Sounds.{Sounds, fresh_keying}

pub record Sent : Type 0 where
  -- the bytes queued and not declined since the last dial line, answer or hang-up, and of these the ones whose frames were begun
  pub queued : List ℕ
  pub begun : List ℕ
  -- since the line went up: the symbols begun, and the buffers filled, each as its fill left it, joined
  pub symbols : List Symbol
  pub filled : List Float

abbrev pub nothing_sent : Sent
nothing_sent = record { queued = []; begun = []; symbols = []; filled = [] }

abbrev pub sent_queued : ℕ → Sent → Sent
sent_queued byte o = record { queued = o.queued ++ (byte ∷ []); begun = o.begun; symbols = o.symbols; filled = o.filled }

-- a fill of b samples of the book's sender, that left the buffer so
abbrev pub sent_filled : ℕ → Sending → List Float → Sent → Sent
sent_filled b x left o =
    record { queued = o.queued; begun = o.begun ++ symbol.bytes b x; symbols = o.symbols ++ symbol.symbols b x; filled = o.filled ++ left }

-- at the rate r, with these bytes waiting
pub record Sends (r : ℕ) (waiting : List ℕ) (o : Sent) : Type 0 where
  -- the bytes queued are those whose frames were begun, then those waiting
  pub bytes : o.queued ≡ o.begun ++ waiting
  -- the symbols begun are ones and the frames of those bytes, in order, the last one perhaps unfinished; outside a frame no edge sends mark while
  -- a byte waits
  pub bits : Carries o.symbols o.begun
  -- the buffers, joined, are the wave of just those bits
  pub samples : Sounds (fresh_keying r) (bits_of o.symbols) o.filled
