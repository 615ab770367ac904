-- `command::decimal` meets its contract: what is read so far, with what is left, is the number. Assumes nothing.
use mathlib.Core.Path.{◌∙◌}
use native.Mathlib.Omega.{arith}
use Rattle.command.proofs.Digits.{stopped, passed, again, ended}
use Rattle.command.proofs.decimal.Goals as goal

pub returns-in_err-checked_mul : goal.returns-in_err-checked_mul
returns-in_err-checked_mul c = c.from_residual.ensures ∙ passed _ _ _ c.loop-byte.invariant c.loop-byte-test.true (omega (arith, c.in_err-checked_mul.ensures))

pub returns-in_err-digit : goal.returns-in_err-digit
returns-in_err-digit c = c.from_residual-in_err-digit.ensures ∙ stopped _ _ _ c.loop-byte.invariant c.loop-byte-test.true c.in_err-digit.ensures

pub returns-in_err-value : goal.returns-in_err-value
returns-in_err-value c =
    let (_, ten) = c.in_ok-checked_mul.ensures in
    let (_, one) = c.in_ok-digit.ensures in
    c.from_residual-in_err-value.ensures ∙ passed _ _ _ c.loop-byte.invariant c.loop-byte-test.true (omega (arith, c.in_err-value.ensures))

pub loop-byte-preserved : goal.loop-byte-preserved
loop-byte-preserved c =
    let (_, ten) = c.in_ok-checked_mul.ensures in
    let (known, one) = c.in_ok-digit.ensures in
    let (small, sum) = c.in_ok-value.ensures in
    again _ _ _ c.loop-byte.invariant c.loop-byte-test.true known _ (omega arith) (omega arith)

pub returns : goal.returns
returns c = ended _ _ _ c.loop-byte.invariant c.loop-byte-test.false
