-- No part of 01, for what the programs print: a text written into a buffer at a place, the whole of it, or nothing where it does not fit.
use Rattle.std.specs.Prelude.{ℕ, ◌+◌, Bool, true, false, List, ◌++◌, leb, length, take, drop}

-- a buffer, and the place in it where the next text goes
pub record Page : Type 0 where
  pub bytes : List ℕ
  pub place : ℕ

abbrev pub page_of : List ℕ → ℕ → Page
page_of bytes place = record { bytes = bytes; place = place }

unfoldable pub add_if : Bool → Page → List ℕ → Page
add_if true p text = page_of (take p.place p.bytes ++ text ++ drop (p.place + length text) p.bytes) (p.place + length text)
add_if false p text = p

unfoldable pub add_of : Page → List ℕ → Page
add_of p text = add_if (leb (p.place + length text) (length p.bytes)) p text
