-- `plain::bits_done` meets its contract: by whether 16 bits hold the count. Assumes nothing.
use Rattle.std.proofs.Common.{◌≡◌, ℕ, ◌<◌, sym, ◌∙◌, arith}
use Rattle.std.specs.Prelude.{Result, Ok, Err}
use Rattle.std.specs.Result.{OkIff, result_unwrap_or}
use Rattle.gibbonplate.specs.Memory.{done_in}
use Rattle.gibbonplate.proofs.Bits.{done_held, done-over}
use Rattle.gibbonplate.proofs.plain.bits_done.Goals as goal

largest-else : {E : Type 0} → (r : Result ℕ E) (n : ℕ) → OkIff r (n < 65536) n → result_unwrap_or r 65535 ≡ done_in n
largest-else (Ok x) n h = let few : n < 65536 = h.0 in h.1 ∙ sym (done_held n (omega arith))
largest-else (Err e) n h = sym (done-over n (omega arith))

pub returns : goal.returns
returns c = c.unwrap_or.ensures ∙ largest-else _ _ c.try_from.ensures
