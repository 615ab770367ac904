-- 02, E13: "Over every list of register calls with lapses and fills between, reads equal that register table, and the wave and stage results still hold."
use Rattle.std.specs.Prelude.{ℕ, ◌≡◌, List, [], ◌∷◌, map}
use Rattle.refusal.specs.Refusal.{answer_number}
use Rattle.claim.specs.Trace as claim
use Rattle.claim.specs.Claim.{Reports}
use Rattle.claim.specs.Strings.{single, Holds}
use Rattle.uart.specs.declared.Chip.{Chip}
use Rattle.wired.specs.Table.{Table, reset, declined_by, value_by, sent_by, outbox_by, key_by, next}
use Rattle.wired.specs.Trace.{Event, Trace, chip_after, all_inside, Unchanged}

-- the call is declined with the table's number, never with 6; a declined one changes nothing; what it reads, sends, leaves in the outbox and has as its
-- key is the table's; then the set inside reports what the table's book says
pub record Answered (r : ℕ) (c : Chip) (t : Table) (e : Event) : Type 0 where
  pub number : answer_number e.refusal ≡ declined_by t e.ask
  pub sound : answer_number e.refusal ≡ 6 → ⊥
  pub unchanged : (answer_number e.refusal ≡ 0 → ⊥) → Unchanged c e
  pub value : e.value ≡ value_by t e.ask
  pub sent : e.sent ≡ sent_by t e.ask
  pub outbox : e.left.bytes ≡ outbox_by t e.ask e.lent.bytes
  pub key : e.key ≡ key_by r t e.ask
  pub reports : Reports e.chip.set (next r t e.ask).book

abbrev pub AllAnswered : ℕ → Chip → Table → List Event → Type 0
AllAnswered r c t [] = Unit {0}
AllAnswered r c t (e ∷ es) = Answered r c t e × AllAnswered r e.chip (next r t e.ask) es

pub record Served (c : Chip) (es : List Event) : Type 0 where
  pub answered : AllAnswered c.set.rate c (reset c.set.rate) es
  -- the set inside has made the calls that the list makes of it, and the claim holds of them: the wave, the stages, the line-up rule
  pub calls : claim.Trace c.set (all_inside c es)
  pub last : claim.set_after c.set (all_inside c es) ≡ (chip_after c es).set
  pub claimed : Holds c.set (map single (all_inside c es))

abbrev pub Serves : Chip → Type 0
Serves c = (es : List Event) → Trace c es → Served c es
