-- 02, E6: on a list that holds no S12 line every call is answered as before S12. Call by call, as S12 stays 50. Assumes nothing.
use Prim.Native.Nat.{ℕ}
use mathlib.Core.Path.{◌≡◌, refl, ap, ◌∙◌}
use mathlib.Core.Bool.{false}
use mathlib.Core.List.{List, [], ◌∷◌}
use mathlib.Core.Logic.{⊎_elim}
use lib.ListN.{length}
use Rattle.std.specs.Prelude.{Result}
use Rattle.refusal.specs.declared.Refusal.{Refusal}
use Rattle.at.specs.Processor.{fresh_s12}
use Rattle.set.specs.declared.Set.{Set}
use Rattle.set.specs.declared.Typed.{Typed}
use Rattle.set.specs.declared.Lapsed.{Lapsed}
use Rattle.set.specs.declared.Filled.{Filled}
use Rattle.set.specs.Set as set
use Rattle.set.specs.Before.{typed_before}
use Rattle.set.specs.Event.{Event, lapsed_event, forced_event, queued_event}
use Rattle.set.proofs.Before.{typed-as-before, outbox-as-before, lapsed-as-before, typed-keeps-s12, lapsed-keeps-s12, forced-keeps-s12, fill-keeps-s12, queued-keeps-s12}
use Rattle.claim.specs.Trace.{Did, typed, lapsed, forced, filled, queued, Trace}
use Rattle.claim.specs.Strings.{all_singles}
use Rattle.claim.specs.Before.{ends_s12, NoS12Line, AsBefore, AllAsBefore, Unset}
use Rattle.claim.proofs.Strings.{claim}

one : (s : Set) → set.s12_of s ≡ fresh_s12 → (e : Event) → Did s e → ends_s12 s e.call ≡ false → AsBefore s e
one s f e (typed byte carrier was left answer promised) none =
    let told : answer ≡ set.typed s byte carrier (length was) = promised.0 in
    let wrote : left ≡ set.outbox s byte was = promised.1 in
    let before : answer ≡ typed_before s byte carrier (length was) = told ∙ typed-as-before s f byte carrier (length was) none in
    record {
      answer = rw (← before, ← outbox-as-before s f byte was, ← wrote);
      s12 = ap (λ (a : Result Typed Refusal). set.s12_of (set.set_typed s a)) told ∙ ⊎_elim (λ same. same ∙ f) (λ reset. reset) (typed-keeps-s12 s byte carrier (length was) none);
    }
one s f e (lapsed ns carrier answer promised) none =
    let told : answer ≡ set.lapsed s ns carrier = promised in
    record {
      answer = ap (lapsed_event s ns carrier) (told ∙ lapsed-as-before s f ns carrier);
      s12 = ap (λ (a : Result Lapsed Refusal). set.s12_of (set.set_lapsed s a)) told ∙ lapsed-keeps-s12 s ns carrier ∙ f;
    }
one s f e (forced answer promised) none =
    let told : answer ≡ set.forced s = promised in
    record { answer = ap (forced_event s) told; s12 = ap (λ (a : Result Set Refusal). set.s12_of (set.set_left s a)) told ∙ forced-keeps-s12 s ∙ f }
one s f e (filled was left answer promised) none =
    let told : answer ≡ set.fill s (length was) = promised.0 in
    let wrote : left ≡ set.buffer s was = promised.1 in
    record {
      answer = rw (← told, ← wrote);
      s12 = ap (λ (a : Result Filled Refusal). set.s12_of (set.set_filled s a)) told ∙ fill-keeps-s12 s (length was) ∙ f;
    }
one s f e (queued byte answer promised) none =
    let told : answer ≡ set.byte_queued s byte = promised in
    record { answer = ap (queued_event s byte) told; s12 = ap (λ (a : Result Set Refusal). set.s12_of (set.set_left s a)) told ∙ queued-keeps-s12 s byte ∙ f }

all : (s : Set) → set.s12_of s ≡ fresh_s12 → (es : List Event) → Trace s es → NoS12Line s es → AllAsBefore s es
all s f [] t none = tt
all s f (e ∷ es) (did, t) (first, rest) = let q = one s f e did first in (q, all e.set q.s12 es t rest)

-- of the set that creation hands out, by the single calls that a list comes to
made-fresh : (rate : ℕ) → set.s12_of (set.made rate).set ≡ fresh_s12
unfolding set.made
made-fresh rate = refl

pub unset : (rate : ℕ) → Unset (set.made rate).set
unset rate xs h none = all (set.made rate).set (made-fresh rate) (all_singles (set.made rate).set xs) (claim rate xs h).singly none
