-- `Page::put_pairs` meets its contract. The invariant: what is written, with the rest still to come, is all of it. Assumes nothing.
use mathlib.Core.Path.{◌≡◌}
use lib.ListN.{drop}
use Rattle.text.specs.Fields.{in_hex}
use Rattle.text.proofs.Page.put_pairs.Given as goal

abbrev pub invariant-loop-byte : goal.invariant-loop-byte
invariant-loop-byte g l = in_hex l.self (drop l.byte-index l.bytes) ≡ in_hex l.initial.self l.bytes
