-- `payload_bit` meets its contract: past the payload by `bit_past`, within it by `bit-within`. Assumes nothing.
use mathlib.Core.Path.{sym}
use mathlib.Core.Bool.{false}
use Rattle.frame.proofs.Bits.{bit-within, bit_past}
use Rattle.frame.proofs.payload_bit.Goals as goal

pub returns-in-Some : goal.returns-in-Some
returns-in-Some c =
    let at = c.in-Some.ensures.lookup.3 in
    rw (c.frame_byte.ensures, at.1 0) (sym (bit-within _ _ false at.0))

pub returns-in-None : goal.returns-in-None
returns-in-None c = sym (bit_past _ _ c.in-None.ensures.lookup.3)
