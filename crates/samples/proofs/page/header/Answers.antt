-- `samples::page::header` meets its contract: its texts, which fit, are one behind the other. Assumes nothing.
use Rattle.std.proofs.Common.{◌≡◌, ◌==◌, ◌∙◌, sym, refl, false, ne_eqb}
use Rattle.samples.specs.Bytes.{low_first}
use Rattle.samples.specs.Laws.{numbers_by, header_if, header_by}
use Rattle.text.specs.Page.{add_of, add_if}
use Rattle.samples.proofs.page.header.Goals as goal
use Rattle.samples.proofs.page.header.Goals.{then-extended, else-extended, then-extended-2, else-extended-2}

pub returns : goal.returns
unfolding low_first numbers_by header_if header_by add_of add_if
returns g c =
    elim c.if-extended.branch [
      | then-extended w ↦
          elim c.if-extended-2.branch [
            | then-extended-2 v ↦
                let ne : (g.S.Sample.FORMAT == 1) ≡ false = ne_eqb _ 1 (λ e. w.if-extended.true (c.FORMAT-extended.ensures ∙ e)) in
                rw (
                  g.met.S.Sample.has_header,
                  ne,
                  c.put_number-5.ensures,
                  c.put-3.ensures,
                  v.head-is,
                  v.put_number-then-extended-2.ensures,
                  v.put-then-extended-2.ensures,
                  c.put_short-4.ensures,
                  c.put_short-3.ensures,
                  c.put_number-4.ensures,
                  c.put_number-3.ensures,
                  c.put_short-2.ensures,
                  c.put_short.ensures,
                  c.put_number-2.ensures,
                  c.put-2.ensures,
                  c.put_number.ensures,
                  c.put.ensures,
                  c.new-head.ensures,
                  w.rest-is,
                  v.from-then-extended-2.ensures,
                  c.from-5.ensures,
                  c.SIZE-3.ensures,
                  c.from-4.ensures,
                  c.SIZE-2.ensures,
                  c.from-3.ensures,
                  c.from-2.ensures,
                  c.FORMAT.ensures,
                  c.from.ensures,
                  c.from-size.ensures,
                  c.SIZE.ensures,
                ) refl
            | else-extended-2 v ↦ absurd (w.if-extended.true v.if-extended-2.false)
          ]
      | else-extended w ↦
          elim c.if-extended-2.branch [
            | then-extended-2 v ↦ absurd (v.if-extended-2.true w.if-extended.false)
            | else-extended-2 v ↦
                let is : g.S.Sample.FORMAT ≡ 1 = sym c.FORMAT-extended.ensures ∙ w.if-extended.false in
                rw (
                  g.met.S.Sample.has_header,
                  c.put_number-5.ensures,
                  c.put-3.ensures,
                  v.head-is,
                  c.put_short-4.ensures,
                  c.put_short-3.ensures,
                  c.put_number-4.ensures,
                  c.put_number-3.ensures,
                  c.put_short-2.ensures,
                  c.put_short.ensures,
                  c.put_number-2.ensures,
                  c.put-2.ensures,
                  c.put_number.ensures,
                  c.put.ensures,
                  c.new-head.ensures,
                  w.rest-is,
                  c.from-5.ensures,
                  c.SIZE-3.ensures,
                  c.from-4.ensures,
                  c.SIZE-2.ensures,
                  c.from-3.ensures,
                  c.from-2.ensures,
                  c.FORMAT.ensures,
                  c.from.ensures,
                  c.from-size.ensures,
                  c.SIZE.ensures,
                  is,
                ) refl
          ]
    ]
