-- What the sender promises, read back at its full strength, so that a contract, a grammar or a wave that says less is refused here: of each function
-- its contract; of the grammar what its first symbol is; of a wave what its first sample is. Assumes nothing.
use Prim.Native.Nat.{ℕ, zero, suc, ◌<◌}
use native.Mathlib.Nat.{not-suc-le-zero}
use native.Mathlib.Omega.{arith}
use mathlib.Core.Path.{◌≡◌, refl, sym, ap, subst, ◌∙◌}
use mathlib.Core.Bool.{Bool, true, false, true≢false}
use mathlib.Core.List.{List, [], ◌∷◌, ◌++◌}
use contract.Lifetimes.{Lfts}
use denote.Ref.{MutBor, at_last}
use lib.Ieee.{Float}
use lib.ListN.{length, take, length-take}
use Rattle.math.specs.Narrow.{narrowed}
use Rattle.frame.specs.Frame.{frame_of}
use Rattle.frame.proofs.Bits.{frame-length}
use Rattle.fsk.specs.Modulator.{modulator_sample}
use Rattle.queue.specs.Queue.{waiting}
use Rattle.sender.specs.declared.Sender.{Sender}
use Rattle.sender.specs.declared.Sending.{Sending}
use Rattle.sender.specs.Sender.{fresh_sender, fresh_sending, choice_of, bit_by, keyed, next, queued, emptied, raised}
use Rattle.sender.specs.Wave.{after, samples}
use Rattle.sender.specs.Symbols.{Symbol, bits_of, symbols, symbol_at}
use Rattle.sender.specs.Carries.{Carries, nothing, one, frame, front}
use Rattle.sender.specs.Sounds.{Keying, moved_on, Sounds, silence, edge, between}
use Rattle.sender.proofs.Sender.new.Reads as new-sender
use Rattle.sender.proofs.Sending.new.Reads as new
use Rattle.sender.proofs.Sending.queue_byte.Reads as queue-byte
use Rattle.sender.proofs.Sending.emptied.Reads as empties
use Rattle.sender.proofs.Sending.raised.Reads as raises
use Rattle.sender.proofs.Sending.fill.Reads as fill

-- ---- the functions
pub reads-sender : (r : ℕ) (s : Sender) → new-sender.Learnt tt (r, tt) s (r, tt) → s ≡ fresh_sender r
reads-sender r s d = d

pub reads-sending : (r : ℕ) (x : Sending) → new.Learnt tt (r, tt) x (r, tt) → x ≡ fresh_sending r
reads-sending r x d = d

module _ (x : Sending) where
  pub reads-queued : (byte : ℕ) (y : Sending) → queue-byte.Learnt tt (x, (byte, tt)) y (x, (byte, tt)) → y ≡ queued x byte
  reads-queued byte y d = d

  pub reads-emptied : (y : Sending) → empties.Learnt tt (x, tt) y (x, tt) → y ≡ emptied x
  reads-emptied y d = d

  pub reads-raised : (r : ℕ) (y : Sending) → raises.Learnt tt (x, (r, tt)) y (x, (r, tt)) → y ≡ raised x r
  reads-raised r y d = d

  module _ (κs : Lfts 1) (out : MutBor (List Float)) (left : List Float) (y : Sending) (d : fill.Learnt κs (x, (out, tt)) y (x, (at_last out left, tt))) where
    pub plays : left ≡ samples (length out.now) x
    plays = d.0

    pub leaves : y ≡ after (length out.now) x
    leaves = d.1

  -- a symbol has the bytes that wait at its edge
  pub edge-finds : (k : ℕ) → x.sender.edge ≡ true → symbols (suc k) x ≡ record { bit = bit_by (choice_of x) x; found = waiting x.queue } ∷ symbols k (next x)
  unfolding symbols
  edge-finds k e = ap (λ (t : Bool). symbol_at t x ++ symbols k (next x)) e

-- ---- the grammar
not-nil : {s : Symbol} {rest : List Symbol} → s ∷ rest ≡ [] → ⊥
not-nil e = let z : ⊥ = omega (arith, ap length e) in z

-- so many symbols as a frame has bits, or its front
bits-long : (some : List Symbol) → length (bits_of some) ≡ length some
bits-long [] = refl
bits-long (s ∷ some) = ap suc (bits-long some)

frame-long : (byte : ℕ) (ten : List Symbol) → bits_of ten ≡ frame_of byte → length ten ≡ 10
frame-long byte ten e = sym (bits-long ten) ∙ ap length e ∙ frame-length byte

front_long : (byte k : ℕ) (some : List Symbol) → bits_of some ≡ take k (frame_of byte) → k < 10 → length some ≡ k
front_long byte k some e few = sym (bits-long some) ∙ ap length e ∙ simp length-take (omega (arith, frame-length byte))

-- where no symbol is begun, no byte is
pub none-begun : (sent : List Symbol) (begun : List ℕ) → Carries sent begun → sent ≡ [] → begun ≡ []
none-begun _ _ nothing e = refl
none-begun _ _ (one bit found c) e = absurd (not-nil e)
none-begun _ _ (frame {byte = byte} [] bits c) e = let z : ⊥ = omega (arith, frame-long byte [] bits) in absurd z
none-begun _ _ (frame (s ∷ ten) bits c) e = absurd (not-nil e)
none-begun _ _ (front {byte = byte} k {some = some} bits more few) e = let z : ⊥ = omega (arith, front_long byte k some bits few, ap length e) in absurd z

abbrev first : List Symbol → Symbol
first [] = record { bit = true; found = [] }
first (s ∷ rest) = s

abbrev others : List Symbol → List Symbol
others [] = []
others (s ∷ rest) = rest

abbrev bit_first : List Bool → Bool
bit_first [] = true
bit_first (b ∷ rest) = b

-- a frame begins with a space
spaced : (byte : ℕ) (ten : List Symbol) → bits_of ten ≡ frame_of byte → (first ten).bit ≡ false
unfolding frame_of
spaced byte [] e = ap bit_first e
spaced byte (s ∷ ten) e = ap bit_first e

front-spaced : (byte k : ℕ) (some : List Symbol) → bits_of some ≡ take k (frame_of byte) → 0 < k → (first some).bit ≡ false
unfolding frame_of
front-spaced byte zero some e more = absurd (not-suc-le-zero more)
front-spaced byte (suc k) [] e more = ap bit_first e
front-spaced byte (suc k) (s ∷ some) e more = ap bit_first e

-- "outside a frame no edge sends mark while a byte waits": a one that begins the list found none, and the rest carries the same bytes
pub idles : (sent : List Symbol) (begun : List ℕ) → Carries sent begun → (s : Symbol) (rest : List Symbol) → sent ≡ s ∷ rest → s.bit ≡ true
    → (s.found ≡ []) × Carries rest begun
idles _ _ nothing s rest e t = absurd (not-nil (sym e))
idles _ begun (one bit found c) s rest e t =
    (ap (λ (l : List Symbol). (first l).found) (sym e) ∙ found, subst (λ (l : List Symbol). Carries l begun) (ap others e) c)
idles _ _ (frame {byte = byte} [] bits c) s rest e t = let z : ⊥ = omega (arith, frame-long byte [] bits) in absurd z
idles _ _ (frame {byte = byte} (x ∷ ten) bits c) s rest e t =
    absurd (true≢false (sym t ∙ ap (λ (l : List Symbol). (first l).bit) (sym e) ∙ spaced byte (x ∷ ten) bits))
idles _ _ (front {byte = byte} k {some = some} bits more few) s rest e t =
    absurd (true≢false (sym t ∙ ap (λ (l : List Symbol). (first l).bit) (sym e) ∙ front-spaced byte k some bits more))

-- a space that begins the list begins the frame of the first byte: it is whole, and the rest carries the other bytes; or it is cut short, and the last
pub data Begins (sent : List Symbol) (begun : List ℕ) : Type 0 where
  whole : (byte : ℕ) (later : List ℕ) (ten rest : List Symbol) → begun ≡ byte ∷ later → sent ≡ ten ++ rest → bits_of ten ≡ frame_of byte → Carries rest later → Begins sent begun
  cut : (byte : ℕ) → begun ≡ byte ∷ [] → length sent < 10 → bits_of sent ≡ take (length sent) (frame_of byte) → Begins sent begun

pub begins : (sent : List Symbol) (begun : List ℕ) → Carries sent begun → (s : Symbol) (rest : List Symbol) → sent ≡ s ∷ rest → s.bit ≡ false → Begins sent begun
begins _ _ nothing s rest e f = absurd (not-nil (sym e))
begins _ _ (one bit found c) s rest e f = absurd (true≢false (sym bit ∙ ap (λ (l : List Symbol). (first l).bit) e ∙ f))
begins _ _ (frame {byte = byte} ten {rest = after} {bytes = later} bits c) s rest e f = whole byte later ten after refl refl bits c
begins _ _ (front {byte = byte} k {some = some} bits more few) s rest e f =
    let long = front_long byte k some bits few in
    cut byte refl (omega arith) (rw long bits)

-- ---- a wave
-- no sample, no bit
pub silent : (k : Keying) (bits : List Bool) → Sounds k bits [] → bits ≡ []
silent k _ silence = refl

-- at an edge the next bit is taken, and sets the step
pub record Takes (k : Keying) (bits : List Bool) (sample : Float) (rest : List Float) : Type 0 where
  pub bit : Bool
  pub later : List Bool
  pub bits_are : bits ≡ bit ∷ later
  pub sample-is : sample ≡ narrowed (modulator_sample (keyed k.modulator bit))
  pub on : Sounds (moved_on (keyed k.modulator bit)) later rest

pub takes : (k : Keying) (bits : List Bool) (sample : Float) (rest : List Float) → Sounds k bits (sample ∷ rest) → k.edge ≡ true → Takes k bits sample rest
takes k _ _ rest (edge {bit = bit} {bits = later} e h) t = record { bit = bit; later = later; bits_are = refl; sample-is = refl; on = h }
takes k _ _ rest (between e h) t = absurd (true≢false (sym t ∙ e))

-- between edges the bit sounds on
pub sounds-on : (k : Keying) (bits : List Bool) (sample : Float) (rest : List Float) → Sounds k bits (sample ∷ rest) → k.edge ≡ false
    → (sample ≡ narrowed (modulator_sample k.modulator)) × Sounds (moved_on k.modulator) bits rest
sounds-on k _ _ rest (edge e h) f = absurd (true≢false (sym e ∙ f))
sounds-on k _ _ rest (between e h) f = (refl, h)
