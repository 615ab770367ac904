-- 02, E10: "sent bits are the frames of the oldest queued bytes in order, ones around them, the last frame perhaps unfinished". As a grammar of
-- the symbols begun: a one outside frames stands only where the edge found no byte waiting.
use Rattle.std.specs.Prelude.{ℕ, ◌<◌, ◌≡◌, true, List, [], ◌∷◌, ◌++◌, take}
use Rattle.frame.specs.Frame.{frame_of}
use Rattle.sender.specs.Symbols.{Symbol, bits_of}

pub data Carries : List Symbol → List ℕ → Type 0 where
  nothing : Carries [] []
  -- a one, and nothing waits
  one : {s : Symbol} {rest : List Symbol} {bytes : List ℕ} → s.bit ≡ true → s.found ≡ [] → Carries rest bytes → Carries (s ∷ rest) bytes
  -- the frame of a byte
  frame : {byte : ℕ} (ten : List Symbol) {rest : List Symbol} {bytes : List ℕ} → bits_of ten ≡ frame_of byte → Carries rest bytes → Carries (ten ++ rest) (byte ∷ bytes)
  -- the first k bits of the last one's, at the end
  front : {byte : ℕ} (k : ℕ) {some : List Symbol} → bits_of some ≡ take k (frame_of byte) → 0 < k → k < 10 → Carries some (byte ∷ [])
