-- 02, E10: the symbols that some samples begin, one for each edge whose sample is made, and the bytes whose frames begin with them.
use Rattle.std.specs.Prelude.{ℕ, zero, suc, Bool, true, false, List, [], ◌∷◌, ◌++◌}
use Rattle.queue.specs.Queue.{waiting, oldest}
use Rattle.sender.specs.declared.Sending.{Sending}
use Rattle.sender.specs.Sender.{Choice, onward, anew, idle, choice_of, bit_by, next}

-- a symbol begun: the bit that it sends, and the bytes that its edge found waiting
pub record Symbol : Type 0 where
  pub bit : Bool
  pub found : List ℕ

abbrev pub bits_of : List Symbol → List Bool
bits_of [] = []
bits_of (s ∷ symbols) = s.bit ∷ bits_of symbols

-- with one sample: a symbol is begun if it is an edge
abbrev pub symbol_at : Bool → Sending → List Symbol
symbol_at true x = record { bit = bit_by (choice_of x) x; found = waiting x.queue } ∷ []
symbol_at false x = []

-- and a frame is begun if that edge begins one: of the oldest byte
abbrev pub byte_chosen : Choice → Sending → List ℕ
byte_chosen onward x = []
byte_chosen anew x = oldest x.queue ∷ []
byte_chosen idle x = []

abbrev pub byte_at : Bool → Sending → List ℕ
byte_at true x = byte_chosen (choice_of x) x
byte_at false x = []

-- with k samples
unfoldable pub symbols : ℕ → Sending → List Symbol
symbols zero x = []
symbols (suc k) x = symbol_at x.sender.edge x ++ symbols k (next x)

unfoldable pub bytes : ℕ → Sending → List ℕ
bytes zero x = []
bytes (suc k) x = byte_at x.sender.edge x ++ bytes k (next x)
