-- What the call answers, by its causes in their order. Assumes nothing.
use Rattle.std.proofs.Common.{◌≡◌, ℕ, ◌<◌, ◌≤◌, List, length, ℤ, refl, arith, lit<, le-ltb, lt-ltb, ne_eqb}
use Rattle.std.specs.Prelude.{Ok, Err}
use Rattle.refusal.specs.declared.Refusal.{Refusal}
use Rattle.refusal.specs.declared.Refusal.TheVariants as cause
use Rattle.refusal.specs.Refusal.{number_of}
use Rattle.keys.specs.Keys.{digits_of}
use Rattle.plan.specs.Plan.{plan_cause}
use Rattle.handset.specs.Sound.{samples_after}
use Rattle.handset.specs.Call.{earpiece_refusal, EarpieceIs}

-- no cause has the number of none
some : (k : Refusal) → 0 < number_of k
some cause.Rate = lit< tt
some cause.Outbox = lit< tt
some cause.Length = lit< tt
some cause.Unsound = lit< tt
some cause.Position = lit< tt
some cause.StringLength = lit< tt
some cause.StringRoom = lit< tt
some cause.Digits = lit< tt
some cause.BadFrame = lit< tt
some cause.QueueFull = lit< tt
some cause.TooLong = lit< tt
some cause.Start = lit< tt
some cause.Address = lit< tt

module _ (bytes : List ℕ) (r pass : ℕ) (was : List ℤ) where
  -- as E4 does
  pub declined : (k : Refusal) → plan_cause (length bytes) r ≡ Err k → EarpieceIs bytes r pass was was (number_of k)
  unfolding earpiece_refusal
  declined k e = record { refusal = rw e; buffer = rw (ne_eqb (number_of k) 0 (λ z. omega (arith, some k))) }

  module _ (accepted : plan_cause (length bytes) r ≡ Ok tt) where
    -- then with 3
    pub too_long : 65536 < length was → EarpieceIs bytes r pass was was 3
    unfolding earpiece_refusal
    too_long h = record { refusal = rw (accepted, lt-ltb 65536 (length was) h); buffer = refl }

    pub played : length was ≤ 65536 → (is : List ℤ) → is ≡ samples_after (digits_of bytes) r pass (length was) → EarpieceIs bytes r pass was is 0
    unfolding earpiece_refusal
    played h is w = record { refusal = rw (accepted, le-ltb 65536 (length was) h); buffer = w }
