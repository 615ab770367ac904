-- 02, E9: "lies between -0.92 and 0.92".
use Rattle.std.specs.Prelude.{◌*◌, ◌≤◌, List, [], ◌∷◌, Float}
use Rattle.std.specs.Float.{nan, inf, fin}
use Rattle.std.specs.Float.Ieee.{up, down}

-- a number, whose size is m × up e / down e
abbrev pub InLevel : Float → Type 0
InLevel nan = ⊥
InLevel (inf s) = ⊥
InLevel (fin s m e) = 100 * (m * up e) ≤ 92 * down e

-- every one of the samples
unfoldable pub AllInLevel : List Float → Type 0
AllInLevel [] = Unit {0}
AllInLevel (x ∷ xs) = InLevel x × AllInLevel xs

-- Remark. What is proved on the way, of a sample that is not yet narrowed, is 0.91877. Ansam comes to 0.91 where both of its tones are at their peak,
-- so 0.9 is false.
