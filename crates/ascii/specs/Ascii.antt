-- The bytes of a text of ASCII characters, by which the fixed strings of 01 are written as it writes them.
use Rattle.std.specs.Prelude.{ℕ, List, [], ◌∷◌}
use Prim.Native.Char.{code}
use Prim.Native.String.{String, [] as end, ◌∷◌ as next}

abbrev pub ascii : String → List ℕ
ascii end = []
ascii (next c text) = code c ∷ ascii text
