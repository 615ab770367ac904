-- `charge` meets its contract: above the longest call it declines, else it is the units begun; the laws of the plain tariff give the rest. Assumes nothing.
use mathlib.Core.Path.{◌≡◌, sym, ap, ◌∙◌}
use Rattle.std.specs.Prelude.{Ok}
use Rattle.std.proofs.lemmas.Result.{err_from_is_err_and}
use Rattle.tariff.specs.Tariff.{charged, bill_of}
use Rattle.tariff.proofs.Plain.{begun-ceiling, charged-bill, declined-bill, promised}
use Rattle.tariff.proofs.charge.Goals as goal

pub returns-in_err-check_length-clause-value : goal.returns-in_err-check_length-clause-value
returns-in_err-check_length-clause-value c = let p = err_from_is_err_and c.from_residual.result c.from_residual.ensures.1 in let h = c.in_err-check_length.ensures in
    rw (p.1, p.2, h.1) (sym (declined-bill c.args.ms h.0))

pub returns : goal.returns
returns c = let ms = c.args.ms in
    let v : Ok c.charged.result ≡ bill_of ms = ap Ok (c.charged.ensures ∙ ap charged (c.div_ceil.ensures ∙ begun-ceiling ms)) ∙ sym (charged-bill ms c.in_ok-check_length.ensures) in
    let p = promised ms _ v in record { value = p.0; least = p.1.0; by_index = p.1.1 }
