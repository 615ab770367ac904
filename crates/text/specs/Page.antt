-- What the programs print: texts one behind the other on a page, each the whole of it, or nothing where it does not fit.
use Rattle.std.specs.Prelude.{ℕ, ◌+◌, Bool, true, false, List, [], ◌++◌, leb, length}

-- how many bytes the page takes, and what is on it
pub record Page : Type 0 where
  pub room : ℕ
  pub text : List ℕ

abbrev pub fresh_page : ℕ → Page
fresh_page room = record { room = room; text = [] }

unfoldable pub add_if : Bool → Page → List ℕ → Page
add_if true p text = record { room = p.room; text = p.text ++ text }
add_if false p text = p

unfoldable pub add_of : Page → List ℕ → Page
add_of p text = add_if (leb (length p.text + length text) p.room) p text
