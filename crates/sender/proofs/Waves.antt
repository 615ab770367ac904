-- The samples are what the bits of the symbols begun sound as: sample by sample, an edge taking one bit. Assumes nothing.
use Prim.Native.Nat.{ℕ, zero, suc}
use mathlib.Core.Path.{◌≡◌, refl, ap}
use mathlib.Core.Bool.{Bool, true, false}
use mathlib.Core.List.{List, [], ◌∷◌, ◌++◌, append_assoc}
use lib.Ieee.{Float}
use Rattle.math.specs.Narrow.{narrowed}
use Rattle.fsk.specs.Modulator.{modulator_sample}
use Rattle.sender.specs.declared.Sender.{Sender}
use Rattle.sender.specs.declared.Sending.{Sending}
use Rattle.sender.specs.Sender.{chosen, ready_if, ready, ticked, sample_next, next}
use Rattle.sender.specs.Wave.{after, samples}
use Rattle.sender.proofs.Edges.{moved}
use Rattle.sender.specs.Symbols.{Symbol, bits_of, symbol_at, symbols}
use Rattle.sender.specs.Sounds.{Keying, Sounds, edge, between}

bits-append : (a b : List Symbol) → bits_of (a ++ b) ≡ bits_of a ++ bits_of b
bits-append [] b = refl
bits-append (s ∷ a) b = ap (λ (t : List Bool). s.bit ∷ t) (bits-append a b)

abbrev pub keying_of : Sender → Keying
keying_of s = record { modulator = s.modulator; edge = s.edge }

next-sounds : (x : Sending) (bits : List Bool) (rest : List Float) → Sounds (keying_of (next x).sender) bits rest
    → Sounds (keying_of x.sender) (bits_of (symbol_at x.sender.edge x) ++ bits) (narrowed (sample_next x) ∷ rest)
unfolding sample_next ready next chosen ticked
next-sounds x bits rest h = go x.sender.edge refl h
  where
    go : (t : Bool) → x.sender.edge ≡ t → Sounds (keying_of (moved (ready_if t x)).sender) bits rest
        → Sounds (keying_of x.sender) (bits_of (symbol_at t x) ++ bits) (narrowed (modulator_sample (ready_if t x).sender.modulator) ∷ rest)
    go true e h = edge e h
    go false e h = between e h

pub after-sounds : (n : ℕ) (x : Sending) (following : List Symbol) (rest : List Float) → Sounds (keying_of (after n x).sender) (bits_of following) rest
    → Sounds (keying_of x.sender) (bits_of (symbols n x ++ following)) (samples n x ++ rest)
unfolding samples after symbols
after-sounds zero x following rest h = h
after-sounds (suc n) x following rest h =
    rw (append_assoc, bits-append (symbol_at x.sender.edge x) (symbols n (next x) ++ following))
    (next-sounds x (bits_of (symbols n (next x) ++ following)) (samples n (next x) ++ rest) (after-sounds n (next x) following rest h))
