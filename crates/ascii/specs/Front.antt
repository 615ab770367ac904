-- 01, "The AT processor": bytes written at a buffer's front, and the length written.
use Rattle.std.specs.Prelude.{ℕ, List, ◌++◌, Bool, true, false, length, drop, leb}

-- bytes that fit stand at the front, and later ones keep their contents; a short buffer is unchanged
abbrev pub put_if : Bool → List ℕ → List ℕ → List ℕ
put_if true bytes buffer = bytes ++ drop (length bytes) buffer
put_if false bytes buffer = buffer

unfoldable pub put : List ℕ → List ℕ → List ℕ
put bytes buffer = put_if (leb (length bytes) (length buffer)) bytes buffer

-- the length written into a buffer with so much room; a short buffer gives 0
abbrev pub put_length_if : Bool → List ℕ → ℕ
put_length_if true bytes = length bytes
put_length_if false bytes = 0

unfoldable pub put_length : List ℕ → ℕ → ℕ
put_length bytes room = put_length_if (leb (length bytes) room) bytes
