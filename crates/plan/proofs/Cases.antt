-- 02, E4: the refusals at their edges, computed: 1 for the rate, before 10 for more than 76 bytes. Assumes nothing.
use mathlib.Core.Path.{◌≡◌, refl}
use Rattle.plan.specs.Plan.{plan_refusal_number, plan_cause}

pub plan-edges : (plan_refusal_number (plan_cause 76 8000) ≡ 0)
    × (plan_refusal_number (plan_cause 0 192000) ≡ 0)
    × (plan_refusal_number (plan_cause 0 7999) ≡ 1)
    × (plan_refusal_number (plan_cause 0 192001) ≡ 1)
    × (plan_refusal_number (plan_cause 77 8000) ≡ 10)
    × (plan_refusal_number (plan_cause 77 7999) ≡ 1)
unfolding plan_cause
plan-edges = (refl, refl, refl, refl, refl, refl)
