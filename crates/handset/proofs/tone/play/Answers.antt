-- `tone::play` meets its contract: the part written is the definition's samples, and the phases are those of the sample to come. Assumes nothing.
use Rattle.std.proofs.Common.{◌≡◌, ℕ, suc, ◌+◌, ◌%◌, ◌^◌, ℤ, sym, refl, ap, ◌∙◌, add-zero, arith}
use Rattle.std.specs.Prelude.{Some}
use Rattle.handset.specs.declared.Tones.{Tones}
use Rattle.handset.specs.Tone.{step_of, phase_after, mixed_at}
use Rattle.handset.specs.Sound.{heard}
use Rattle.handset.proofs.Gain.{sample-back}
use Rattle.handset.proofs.Heard.{start, again, full}
use Rattle.handset.proofs.tone.play.Goals as goal

-- one step more
moved : (step steps i a a' : ℕ) → a ≡ phase_after step (steps + i) → a' ≡ (a + step) % 2 ^ 32 → a' ≡ phase_after step (steps + (i + 1))
unfolding phase_after
moved step steps i a a' e f = f ∙ ap (λ (p : ℕ). (p + step) % 2 ^ 32) e ∙ ap (phase_after step) (sym (next steps i))
  where
    next : (a i : ℕ) → a + (i + 1) ≡ suc (a + i)
    next a i = omega arith

begun : (step steps a : ℕ) → a ≡ phase_after step steps → a ≡ phase_after step (steps + 0)
begun step steps a e = e ∙ ap (phase_after step) (sym (add-zero steps))

-- the sample that is mixed is the one to be heard
mixes : (tones : Tones) (r k s t a b : ℕ) (v : ℤ) → s ≡ step_of tones.low r → t ≡ step_of tones.high r → a ≡ phase_after s k → b ≡ phase_after t k → v ≡ mixed_at a b
    → v ≡ heard (Some tones) r k
mixes tones r k s t a b v es et ea eb e =
    e ∙ ap (λ (x : ℕ). mixed_at x b) (ea ∙ ap (λ (x : ℕ). phase_after x k) es) ∙ ap (mixed_at _) (eb ∙ ap (λ (x : ℕ). phase_after x k) et)

pub loop-sample-init : goal.loop-sample-init
loop-sample-init c = (start _ _ _ _, begun _ _ _ c.phase-a.ensures, begun _ _ _ c.phase-b.ensures)

pub loop-sample-preserved : goal.loop-sample-preserved
loop-sample-preserved c = let inv = c.loop-sample.invariant in (
  again _ _ _ _ _ _ _ inv.0 c.loop-sample-test.true (mixes _ _ _ _ _ _ _ _ c.step-s.ensures c.step-t.ensures inv.1 inv.2 (sample-back _ _ _ c.mix.ensures)),
  moved _ _ _ _ _ inv.1 refl,
  moved _ _ _ _ _ inv.2 refl,
)

pub returns : goal.returns
returns c = full _ _ _ _ _ _ c.loop-sample.invariant.0 c.loop-sample-test.false
