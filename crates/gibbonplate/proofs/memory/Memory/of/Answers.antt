-- `Memory::of` meets its contract, by those of its parts; what is stored loads as it was by `laid`. Assumes nothing.
use Rattle.std.proofs.Common.{◌≡◌, Bool, true, false, refl, ◌∙◌}
use Rattle.std.specs.Int.{from_bool}
use Rattle.gibbonplate.specs.Memory.{flag, stored}
use Rattle.gibbonplate.proofs.Reload.{laid}
use Rattle.gibbonplate.proofs.memory.Memory.of.Goals as goal

flag-is : (on : Bool) → from_bool on ≡ flag on
flag-is true = refl
flag-is false = refl

pub returns : goal.returns
unfolding stored
returns c = let p = laid _ _ _ (c.plain-x.ensures.value, c.plain-x.ensures.back)
    (rw (
      c.from-6.ensures ∙ flag-is _,
      c.from-5.ensures ∙ flag-is _,
      c.from-4.ensures ∙ flag-is _,
      c.from-3.ensures,
      c.from-2.ensures ∙ flag-is _,
      c.from.ensures ∙ flag-is _,
      c.plain-x.ensures.value,
    )) in record { value = p.0; back = p.1 }
