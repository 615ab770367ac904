-- The theorem, by induction on the list: at every point the chip is the one that the table stands for. The set's calls are then a list of the claim's own,
-- of which the claim holds: the list is projected, and nothing about the set's lists is proved a second time. Assumes nothing.
use Prim.Native.Nat.{ℕ, ◌≤◌}
use mathlib.Core.Path.{◌≡◌, refl, sym, subst}
use mathlib.Core.Bool.{Bool, true, false}
use mathlib.Core.List.{List, [], ◌∷◌, map}
use lib.Dec.{lit≤}
use lib.ListN.{length}
use Rattle.soundness.specs.Sound.{rate_ok}
use Rattle.set.specs.declared.Set.{Set}
use Rattle.set.specs.Refusals.{cause_of_creation, accepted, if_accepted}
use Rattle.set.specs.Set as set
use Rattle.set.specs.Book.{blank}
use Rattle.set.specs.Event as inner
use Rattle.claim.specs.Trace as claim
use Rattle.claim.specs.Claim.{SinceDial, not_called}
use Rattle.claim.specs.Expand as expand
use Rattle.claim.specs.Strings.{Claim, History, single, called}
use Rattle.claim.proofs.Claim.{ListInvariant, fresh-invariant}
use Rattle.claim.proofs.Expand.{Counts, expanded}
use Rattle.claim.proofs.Strings as claimed
use Rattle.uart.specs.declared.Chip.{Chip}
use Rattle.uart.specs.Chip as uart
use Rattle.wired.specs.Table.{Table, reset, calls_of, next}
use Rattle.wired.specs.Trace.{Event, Did, chip_of, Trace, inside, all_inside}
use Rattle.wired.specs.Wired as wired
use Rattle.wired.specs.Wired.{Serves}
use Rattle.wired.proofs.Stands.{stands}
use Rattle.wired.proofs.Calls.{one}

-- what a call makes of the set inside
abbrev Counted : Chip → Event → Type 0
Counted c e = Counts c.set (inside c e) e.chip.set (calls_of e.ask)

pub record Runs (r : ℕ) (c : Chip) (t : Table) (es : List Event) : Type 0 where
  pub answered : wired.AllAnswered r c t es
  pub counted : expand.History chip_of Counted c es

module _ (r : ℕ) (ok : rate_ok r ≡ true) where
  pub run : (c : Chip) (t : Table) (h : SinceDial) → ListInvariant r c.set t.book h → c ≡ stands c.set t → length t.text ≤ 256
      → (es : List Event) → Trace c es → Runs r c t es
  run c t h at is few [] tr = record { answered = tt; counted = tt }
  run c t h at is few (e ∷ es) (did, tr) =
      let q = one r ok c.set t h at few e (subst (λ (c : Chip). Did c e) is did) in
      let rest = run e.chip (next r t e.ask) q.since q.set q.chip q.few es tr in
      record {
        answered = (subst (λ (c : Chip). wired.Answered r c t e) (sym is) q.answered, rest.answered);
        counted = (subst (λ (c : Chip). Counted c e) (sym is) q.counts, rest.counted);
      }

  -- single calls are a list of the claim
  singly : (s : Set) (es : List inner.Event) → claim.Trace s es → History s (map single es)
  singly s [] tr = tt
  singly s (e ∷ es) (did, tr) = (called e did, singly e.set es tr)

  fresh-serves : Claim (set.fresh_set r) → Serves (uart.fresh (set.fresh_set r))
  fresh-serves holds es tr =
      let c = uart.fresh (set.fresh_set r) in
      let q = run c (reset r) not_called (fresh-invariant r ok) refl (lit≤ tt) es tr in
      let inner = expanded r ok (λ (c : Chip). c.set) chip_of Counted inside (λ (e : Event). calls_of e.ask) (λ c k e. Unit {0})
      (λ c sound e counted. counted) (λ c k h e at counted answered on. tt) c (blank r) not_called (fresh-invariant r ok) es q.counted in
      record { answered = q.answered; calls = inner.trace; last = inner.set; claimed = holds _ (singly (set.fresh_set r) (all_inside c es) inner.trace) }

-- a chip that creation hands out is fresh at a rate in limits
pub serves : (rate : ℕ) → Serves (uart.started rate).chip
unfolding uart.started set.made set.creation_cause rate_ok accepted
serves rate = go (rate_ok rate) refl (claimed.claim rate)
  where
    go : (b : Bool) → rate_ok rate ≡ b → Claim (set.fresh_set (if_accepted (cause_of_creation b) rate 8000))
        → Serves (uart.fresh (set.fresh_set (if_accepted (cause_of_creation b) rate 8000)))
    go true ok holds = fresh-serves rate ok holds
    go false ok holds = fresh-serves 8000 refl holds
