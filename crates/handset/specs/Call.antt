-- 02, E14: "A new call takes E4's arguments, a count of samples to pass over and a lent buffer, and writes the samples that follow, 0 past T; it
-- declines as E4 does, then with 3 as a fill."
use Rattle.std.specs.Prelude.{◌≡◌, ℕ, Bool, cond, List, length, ℤ, ◌==◌, nat_lt, Result, Ok, Err}
use Rattle.keys.specs.Keys.{digits_of}
use Rattle.refusal.specs.declared.Refusal.{Refusal}
use Rattle.plan.specs.Plan.{plan_refusal_number, plan_cause}
use Rattle.handset.specs.Sound.{samples_after}

-- 1, then 10, then 3 for more than 65,536 samples
abbrev pub earpiece_refusal_by : Result (Unit {0}) Refusal → (long : Bool) → ℕ
earpiece_refusal_by (Ok accepted) long = cond long 3 0
earpiece_refusal_by (Err refusal) long = plan_refusal_number (Err refusal)

unfoldable pub earpiece_refusal : (len r room : ℕ) → ℕ
earpiece_refusal len r room = earpiece_refusal_by (plan_cause len r) (nat_lt 65536 room)

-- the buffer held `was` and holds `is`: as it was if declined, else the samples, of which those past T are 0
pub record EarpieceIs (bytes : List ℕ) (r pass : ℕ) (was is : List ℤ) (number : ℕ) : Type 0 where
  pub refusal : number ≡ earpiece_refusal (length bytes) r (length was)
  pub buffer : is ≡ cond (number == 0) (samples_after (digits_of bytes) r pass (length was)) was
