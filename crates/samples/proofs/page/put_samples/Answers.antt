-- `samples::page::put_samples` meets its contract: after i turns the bytes of the first i samples are put (`Written`). Assumes nothing.
use Rattle.std.proofs.Common.{length, sym, ◌∙◌, ap, arith, leb-true, leb-false}
use Rattle.std.specs.List.{flat_map}
use Rattle.text.specs.Page.{add_of}
use Rattle.text.proofs.Pages.{add_none, add_nothing, add-join}
use Rattle.samples.proofs.Samples.{written_none, written-more, written_all}
use Rattle.samples.proofs.page.put_samples.Goals as goal

pub loop-sample-init : goal.loop-sample-init
loop-sample-init g c =
    let text = ap length c.text.ensures.value in
    let room = c.text.ensures.room in
    let bound = c.text.ensures.in_bounds in
    let fits = leb-true _ _ (sym c.fit.ensures ∙ c.if-fit.true) in
    written_none (λ s t l. add-join c.args.page.now s t (omega arith)) (add_nothing c.args.page.now)

pub loop-sample-preserved : goal.loop-sample-preserved
loop-sample-preserved g c =
    written-more c.sample-item.result c.loop-sample-test.true c.loop-sample.invariant
    (c.put.ensures ∙ ap (add_of c.loop-sample.page) (c.as_slice.ensures ∙ (c.le_bytes.ensures ∙ ap g.S.Sample.bytes c.sample-item.is)))

pub returns-after-loop-sample : goal.returns-after-loop-sample
returns-after-loop-sample g c = written_all c.loop-sample-test.false c.loop-sample.invariant

pub returns-else-fit : goal.returns-else-fit
returns-else-fit g c =
    let text = ap length c.text.ensures.value in
    let room = c.text.ensures.room in
    let bound = c.text.ensures.in_bounds in
    let short = leb-false _ _ (sym c.fit.ensures ∙ c.if-fit.false) in
    sym (add_none c.args.page.now (flat_map g.S.Sample.bytes c.args.samples.now) (omega arith))
