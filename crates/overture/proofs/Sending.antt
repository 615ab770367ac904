-- Bits as `play` of fsk has them are a payload's bits. By induction on the samples. Assumes nothing.
use Prim.Native.Nat.{ℕ, zero, suc}
use mathlib.Core.Path.{◌≡◌, refl, sym, ap, ◌∙◌}
use mathlib.Core.List.{List}
use lib.Dec.{leb}
use lib.Ieee.{Float}
use borrow.Author.Tests.{leb-false}
use Rattle.fsk.specs.Channel.{next_channel}
use Rattle.fsk.specs.Played.{Source, left, made, keying, SoundedIs}
use Rattle.overture.specs.declared.Bits.{Bits}
use Rattle.overture.specs.Writers.{sending, SentIs}

abbrev keyed_bits : Source Bits
keyed_bits = keying (λ bits. bits.fsk.modulator) (λ bits. record bits { fsk = next_channel bits.fsk bits.payload.now })

module _ (bits : Bits) where
  left-bits : (k : ℕ) → left keyed_bits k bits ≡ record bits { fsk = left (sending bits.payload.now) k bits.fsk }
  unfolding left
  left-bits zero = refl
  left-bits (suc k) = ap keyed_bits.next (left-bits k)

  made-bits : (k : ℕ) → made keyed_bits k bits ≡ made (sending bits.payload.now) k bits.fsk
  unfolding made
  made-bits zero = refl
  made-bits (suc k) = rw (made-bits k, left-bits k)

  pub bits-sent : (was is : List Float) (last : Bits) (written : ℕ) → SoundedIs keyed_bits (λ b. leb b.total b.fsk.done) bits was is last written
      → SentIs bits.fsk bits.payload.now bits.total was is (record { fsk = last.fsk; written = written })
  bits-sent was is last written S = record {
    some = S.some;
    fits = S.fits;
    played = record { buffer = S.played.buffer ∙ rw (made-bits written); rest = ap (λ (b : Bits). b.fsk) (S.played.rest ∙ left-bits written) };
    early = λ j l. leb-false _ _ (sym (ap (λ (b : Bits). leb b.total b.fsk.done) (left-bits (suc j))) ∙ S.early j l);
  }
