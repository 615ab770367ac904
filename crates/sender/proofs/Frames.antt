-- The two tones; a frame that is unfinished has between one and nine of its bits begun, and whether an edge is there decides what is ready. Assumes nothing.
use Prim.Native.Nat.{ℕ, ◌<◌}
use mathlib.Core.Path.{◌≡◌, refl, sym, ap}
use mathlib.Core.Bool.{Bool, true, false, true≢false, ◌&&◌}
use lib.Dec.{ltb}
use borrow.Author.Tests.{ltb-true}
use Rattle.math.specs.Float.{f64}
use Rattle.sender.specs.declared.Sending.{Sending}
use Rattle.sender.specs.Sender.{mark, space, unfinished, chosen, ready_if, ready}

-- the code's literals are 02's numbers
pub mark-is : f64 0x4093_d800_0000_0000 ≡ mark
unfolding lib.Ieee.of_bits lib.Ieee.of_int
mark-is = refl

pub space-is : f64 0x4090_b800_0000_0000 ≡ space
unfolding lib.Ieee.of_bits lib.Ieee.of_int
space-is = refl

both : (a b : Bool) → (a && b) ≡ true → (a ≡ true) × (b ≡ true)
both true true e = (refl, refl)
both true false e = absurd (true≢false (sym e))
both false b e = absurd (true≢false (sym e))

pub some_bits : (k : ℕ) → unfinished k ≡ true → (0 < k) × (k < 10)
some_bits k e = let p = both (ltb 0 k) (ltb k 10) e in (ltb-true 0 k p.0, ltb-true k 10 p.1)

pub ready-edge : (x : Sending) → x.sender.edge ≡ true → ready x ≡ chosen x
unfolding ready
ready-edge x e = ap (λ (t : Bool). ready_if t x) e

pub ready-rest : (x : Sending) → x.sender.edge ≡ false → ready x ≡ x
unfolding ready
ready-rest x e = ap (λ (t : Bool). ready_if t x) e
