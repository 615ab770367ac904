-- `samples::put_samples` meets its contract: after i turns the bytes of the first i samples stand at their place (`Written`). Assumes nothing.
use Rattle.std.proofs.Common.{◌≡◌, length, sym, ◌∙◌, ap, arith, leb-true, leb-false}
use Rattle.std.specs.List.{flat_map}
use Rattle.text.specs.Text.{Page, page_of, add_of}
use Rattle.text.proofs.Texts.{add_none, add_nothing, add-join}
use Rattle.samples.proofs.Samples.{written_none, written-more}
use Rattle.samples.proofs.put_samples.Goals as goal
use Rattle.samples.proofs.put_samples.Goals.{else-at-out-via-then-at-out+else-fit, else-at-out-via-else-at-out}

pub loop-sample-init : goal.loop-sample-init
loop-sample-init g c =
    let fits = leb-true _ _ (sym c.fit.ensures ∙ c.if-fit.true) in
    let within = c.if-at-out.true in
    written_none (λ s t l. add-join c.args.out.now c.args.at s t (omega arith)) (add_nothing c.args.out.now c.args.at)

pub loop-sample-preserved : goal.loop-sample-preserved
loop-sample-preserved g c =
    written-more c.sample-item.result c.loop-sample-test.true c.loop-sample.invariant
    (c.put-place.ensures ∙ ap (add_of (page_of c.loop-sample.out c.loop-sample.place)) (c.as_slice.ensures ∙ (c.le_bytes.ensures ∙ ap g.S.Sample.bytes c.sample-item.is)))

pub returns-else-at-out : goal.returns-else-at-out
returns-else-at-out g c =
    let all = flat_map g.S.Sample.bytes c.args.samples.now in
    elim c.else-at-out.branch [
      | else-at-out-via-then-at-out+else-fit w ↦
          let short = leb-false _ _ (sym w.fit.ensures ∙ w.if-fit.false) in
          sym (add_none c.args.out.now c.args.at all (omega arith))
      | else-at-out-via-else-at-out w ↦
          let behind = w.if-at-out.false in
          sym (add_none c.args.out.now c.args.at all (omega arith))
    ]
