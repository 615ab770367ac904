-- `play` meets its contract: the invariant is `Sounding`; a turn takes two of its steps. Assumes nothing.
use native.Mathlib.Omega.{arith}
use mathlib.Core.Path.{sym, ◌∙◌}
use lib.ListN.{length-set}
use Rattle.fsk.proofs.Played.{sounding-start, sounding-again, sounding-ended, sounding-full}
use Rattle.fsk.proofs.play.Goals as goal

pub loop-out-init : goal.loop-out-init
loop-out-init g c = (sounding-start _ _ _ _, omega arith)

pub returns-then-ended : goal.returns-then-ended
returns-then-ended g c = sounding-ended _ _ _ _ _ _ _ c.loop-out.invariant.0 (omega (arith, c.loop-out-test.true)) _ _
    (rw (c.narrow.ensures, c.sample_twice-a.ensures.0, c.modulator.ensures))
    c.moved-next.ensures

pub returns-then-ended-2 : goal.returns-then-ended-2
returns-then-ended-2 g c = sounding-ended _ _ _ _ _ _ _
    (sounding-again _ _ _ _ _ _ _ c.loop-out.invariant.0 (omega (arith, c.loop-out-test.true)) _ _
    (rw (c.narrow.ensures, c.sample_twice-a.ensures.0, c.modulator.ensures))
    c.moved-next.ensures
    (sym c.ended.ensures ∙ c.if-ended.false))
    (simp length-set (omega (arith, c.loop-out-test.true))) _ _
    (rw (c.narrow-in-loop-out.ensures, c.sample_twice-a.ensures.1, c.modulator-in-loop-out.ensures))
    c.moved-after.ensures

pub loop-out-preserved : goal.loop-out-preserved
loop-out-preserved g c = (
  sounding-again _ _ _ _ _ _ _
      (sounding-again _ _ _ _ _ _ _ c.loop-out.invariant.0 (omega (arith, c.loop-out-test.true)) _ _
      (rw (c.narrow.ensures, c.sample_twice-a.ensures.0, c.modulator.ensures))
      c.moved-next.ensures
      (sym c.ended.ensures ∙ c.if-ended.false))
      (simp length-set (omega (arith, c.loop-out-test.true))) _ _
      (rw (c.narrow-in-loop-out.ensures, c.sample_twice-a.ensures.1, c.modulator-in-loop-out.ensures))
      c.moved-after.ensures
      (sym c.ended-in-loop-out.ensures ∙ c.if-ended-2.false),
  simp (length-set, length-set) (omega (arith, c.loop-out-test.true)),
)

pub returns-then-written-out : goal.returns-then-written-out
returns-then-written-out g c = sounding-ended _ _ _ _ _ _ _ c.loop-out.invariant.0 c.if-written-out.true _ _
    (rw (c.narrow-then-written-out.ensures, c.sample.ensures, c.modulator-then-written-out.ensures))
    c.moved.ensures

pub returns : goal.returns
returns g c = sounding-full _ _ _ _ _ _ _ c.loop-out.invariant.0 c.if-written-out.false
