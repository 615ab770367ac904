-- `charge_from` meets its contract: it declines in 02's order, else it is the units bought; the laws of the hours give the rest. Assumes nothing.
use mathlib.Core.Path.{◌≡◌, sym, ap, ◌∙◌}
use Rattle.std.specs.Prelude.{Ok}
use Rattle.std.proofs.lemmas.Result.{err_from_is_err_and}
use Rattle.tariff.specs.Tariff.{charged}
use Rattle.tariff.specs.Hours.{bill_from}
use Rattle.tariff.proofs.Hours.{long-bill, late-bill, bought-bill, promised-from}
use Rattle.tariff.proofs.charge_from.Goals as goal

pub returns-in_err-check_length-clause-value : goal.returns-in_err-check_length-clause-value
returns-in_err-check_length-clause-value c = let p = err_from_is_err_and c.from_residual.result c.from_residual.ensures.1 in let h = c.in_err-check_length.ensures in
    rw (p.1, p.2, h.1) (sym (long-bill c.args.ms c.args.start h.0))

pub returns-then-start-ge-WEEK_SECONDS-clause-value : goal.returns-then-start-ge-WEEK_SECONDS-clause-value
returns-then-start-ge-WEEK_SECONDS-clause-value c = sym (late-bill c.args.ms c.args.start c.in_ok-check_length.ensures c.if-start-ge-WEEK_SECONDS.true)

pub returns : goal.returns
returns c = let ms = c.args.ms in let start = c.args.start in
    let v : Ok c.charged.result ≡ bill_from ms start = ap Ok (c.charged.ensures ∙ ap charged c.buy.ensures.value) ∙ sym (bought-bill ms start c.in_ok-check_length.ensures c.if-start-ge-WEEK_SECONDS.false) in
    let p = promised-from ms start _ v in record { value = p.0; bought = p.1.0; by_index = p.1.1.0; value_2 = p.1.1.1 }
