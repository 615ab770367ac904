-- 02, E14 read off `earpiece`, off the table and off the float overture's edges, each promise at its full strength and the rule's numbers written out,
-- so that one that says less is refused here. Assumes nothing.
use Rattle.std.proofs.Common.{◌≡◌, ℕ, suc, ◌+◌, ◌*◌, ◌<◌, ◌≤◌, true, false, cond, eqb, List, length, get_or, replicate, ℤ, pos, Bor, MutBor}
use contract.Lifetimes.{Lfts}
use denote.Ref.{at_last}
use Rattle.refusal.specs.declared.Refusal.{Refusal}
use Rattle.refusal.specs.Refusal.{answer_number}
use Rattle.math.specs.Float.{zero}
use Rattle.nco.specs.declared.Nco.{Nco}
use Rattle.keys.specs.Keys.{digits_of, all_keys}
use Rattle.schedule.specs.Length.{total}
use Rattle.tones.specs.Mixed.{gated_of}
use Rattle.stage.specs.declared.StageState.{StageState}
use Rattle.stage.specs.Stage.{stage_number, stage_of}
use Rattle.stage.specs.Next.{sample_next}
use Rattle.handset.specs.Sine.{plus_terms, minus_terms, denominator, plus_terms3, minus_terms3, denominator3}
use Rattle.handset.specs.Rule.{plus_part, minus_part, NearSine}
use Rattle.handset.specs.Wave.{wave}
use Rattle.handset.specs.Sound.{sound_of, takes_fresh, state_after, samples_after}
use Rattle.handset.specs.Call.{earpiece_refusal}
use Rattle.passage.specs.Overture.{HasLength}
use Rattle.std.specs.Prelude.{Result, None}
use Rattle.handset.specs.Float.{is_sounding, Holds, FloatEdges}
use Rattle.handset.proofs.Entries.{right}
use Rattle.handset.proofs.Float.{float-edges}
use Rattle.handset.proofs.earpiece.Reads as earpiece

-- ---- the call, for every byte slice, rate, count and buffer
module _ (κs : Lfts 2) (digits : Bor (List ℕ)) (rate pass : ℕ) (out : MutBor (List ℤ)) (left : List ℤ) (answer : Result (Unit {0}) Refusal)
    (d : earpiece.Learnt κs (digits, (rate, (pass, (out, tt)))) answer (digits, (rate, (pass, (at_last out left, tt))))) where
  pub declines : answer_number answer ≡ earpiece_refusal (length digits.now) rate (length out.now)
  declines = d.refusal

  pub writes : left ≡ cond (eqb (answer_number answer) 0) (samples_after (digits_of digits.now) rate pass (length out.now)) out.now
  writes = d.buffer

-- ---- entry k of the table, at each fraction in pi's place and each sum from degree 25 on
module _ (k : ℕ) (h : k < 1024) (p q : ℕ) (some : 0 < q) (least : 31415926535 * q ≤ p * 10000000000) (most : p * 10000000000 ≤ 31415926536 * q) (j : ℕ) (late : 6 ≤ j) where
  abbrev e : ℤ
  e = get_or wave k (pos 0)

  abbrev n : ℕ
  n = 2 * k * p

  abbrev m : ℕ
  m = 1024 * q

  near : NearSine e n m
  near = right k h p q (record { some = some; least = least; most = most })

  pub larger-over : 32767 * plus_terms n m j + minus_part e * denominator m j ≤ 32767 * minus_terms n m j + (plus_part e + 1) * denominator m j
  larger-over = (near.larger j late).over

  pub larger-under : 32767 * minus_terms n m j + plus_part e * denominator m j ≤ 32767 * plus_terms n m j + (minus_part e + 1) * denominator m j
  larger-under = (near.larger j late).under

  pub smaller-over : 32767 * plus_terms3 n m j + minus_part e * denominator3 m j ≤ 32767 * minus_terms3 n m j + (plus_part e + 1) * denominator3 m j
  smaller-over = (near.smaller j late).over

  pub smaller-under : 32767 * minus_terms3 n m j + plus_part e * denominator3 m j ≤ 32767 * plus_terms3 n m j + (minus_part e + 1) * denominator3 m j
  smaller-under = (near.smaller j late).under

-- ---- the float overture's own oscillators gate, start and step
module _ (digits : List ℕ) (r : ℕ) (slow : 8000 ≤ r) (fast : r ≤ 192000) (few : length digits ≤ 76) (keys : all_keys digits ≡ true) (k : ℕ) (a b : Nco) where
  abbrev s : StageState
  s = state_after digits r k

  abbrev t : StageState
  t = state_after digits r (suc k)

  abbrev pub edges : FloatEdges digits r (total r (length digits))
  edges = float-edges digits r slow fast few keys

  pub ends-at-T : HasLength digits r (total r (length digits))
  ends-at-T = edges.ends

  pub silent-before : stage_number (stage_of s) ≤ 1 → sound_of s digits r ≡ None
  silent-before = edges.other k

  pub silent-behind : 5 ≤ stage_number (stage_of s) → sound_of s digits r ≡ None
  silent-behind = edges.later k

  pub starts-at-zero : Holds t a b → takes_fresh s t ≡ true → (a.phase ≡ zero) × (b.phase ≡ zero)
  starts-at-zero h = (edges.steps k a b h).starts

  pub steps_alike : Holds t a b → takes_fresh s t ≡ false → (x y : Nco) → Holds s x y
      → (a ≡ (gated_of (is_sounding (sound_of s digits r)) x y).a) × (b ≡ (gated_of (is_sounding (sound_of s digits r)) x y).b)
  steps_alike h = (edges.steps k a b h).steps

  module _ (lo : 2 ≤ stage_number (stage_of s)) (hi : stage_number (stage_of s) ≤ 4) where
    pub its_own : Holds s (edges.gate k lo hi).a (edges.gate k lo hi).b
    its_own = (edges.gate k lo hi).held

    pub gated-alike : sample_next s digits r ≡ (gated_of (is_sounding (sound_of s digits r)) (edges.gate k lo hi).a (edges.gate k lo hi).b).sample
    gated-alike = (edges.gate k lo hi).sample

  pub past-T : (pass n : ℕ) → total r (length digits) ≤ pass → samples_after digits r pass n ≡ replicate n (pos 0)
  past-T = edges.past
