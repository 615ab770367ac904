-- `Inbox::line` meets its contract: the code's text, as the writer of replies puts it into 32 bytes, then CR and LF. Assumes nothing.
use Prim.Native.Nat.{ℕ, ◌≤◌}
use mathlib.Core.Path.{refl, sym}
use lib.ListN.{length, length-replicate}
use lib.Seq.{length-take-le}
use Rattle.uart.proofs.Text.{line-within, line-comes}
use Rattle.uart.proofs.Inbox.line.Goals as goal

pub slice_bounds-text-end : goal.slice_bounds-text-end
slice_bounds-text-end c = line-within c.args.code _ _ _ _ _ refl (length-replicate {A = ℕ} 32 0) c.write-n.ensures.value c.write-n.ensures.out_after

pub slice_bounds-bytes-end : goal.slice_bounds-bytes-end
slice_bounds-bytes-end c =
    let within : c.write-n.result ≤ length c.write-n.new.out =
    line-within c.args.code _ _ _ _ _ refl (length-replicate {A = ℕ} 32 0) c.write-n.ensures.value c.write-n.ensures.out_after in
    sym (length-take-le _ _ within)

pub returns : goal.returns
returns c = line-comes c.args.code _ _ _ _ _ refl (length-replicate {A = ℕ} 32 0) c.write-n.ensures.value c.write-n.ensures.out_after _ _ _ _ c.bytes.ensures c.byte.ensures c.byte-2.ensures
