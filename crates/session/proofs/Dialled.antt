-- The digits that a dial line leaves in a session: at most 76, and as many as are said. Assumes nothing.
use Prim.Native.Nat.{ℕ, ◌≤◌}
use native.Mathlib.Omega.{arith}
use mathlib.Core.Path.{◌≡◌, ap, subst}
use mathlib.Core.List.{List}
use lib.ListN.{length, take, length-take}
use Rattle.schedule.specs.Length.{total}
use Rattle.passage.specs.Overture.{HasLength}
use Rattle.passage.proofs.Overture.{overture-length}
use Rattle.keys.specs.Keys.{digits_of, dialled_of}
use Rattle.keys.proofs.Line.{padded-front}

pub few : (line : List ℕ) → (dialled_of line).len ≤ 76
few line = rw length-take (omega arith)

pub front : (line : List ℕ) → take (dialled_of line).len (dialled_of line).keys ≡ take 76 (digits_of line)
front line = padded-front (take 76 (digits_of line))

pub front_length : (line : List ℕ) → length (take (dialled_of line).len (dialled_of line).keys) ≡ (dialled_of line).len
front_length line = ap length (front line)

-- the overture of a dial line has one length, at a rate of 01
pub lasts : (line : List ℕ) (r : ℕ) → 8000 ≤ r → r ≤ 192000
    → HasLength (take (dialled_of line).len (dialled_of line).keys) r (total r (dialled_of line).len)
lasts line r lo hi =
    let held = take (dialled_of line).len (dialled_of line).keys in
    let short : length held ≤ 76 = rw (front_length line) (few line) in
    subst (λ (n : ℕ). HasLength held r (total r n)) (front_length line) (overture-length held r lo hi short)
