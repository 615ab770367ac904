-- `double` meets its contract: the pattern's fields say whether the value is below a half, in range, too large, negative or no number. Assumes nothing.
use mathlib.Core.Path.{sym, ◌∙◌}
use Rattle.math.proofs.Whole.{cut_small, cut-middle, cut-large, cut-negative, cut-nan}
use Rattle.std.proofs.lemmas.Float.{T_from_true}
use Rattle.math.proofs.double.Goals as goal

pub returns-then-e-lt1022 : goal.returns-then-e-lt1022
returns-then-e-lt1022 c = cut_small c.args.x (T_from_true _ c.well_formed.0.1) c.if-b-lt9223372036854775808.true c.if-e-lt1022.true

pub returns-then-e-lt1074 : goal.returns-then-e-lt1074
returns-then-e-lt1074 c = cut-middle c.args.x (T_from_true _ c.well_formed.0.1) c.if-b-lt9223372036854775808.true c.if-e-lt1022.false c.if-e-lt1074.true

pub returns-else-e-lt1074 : goal.returns-else-e-lt1074
returns-else-e-lt1074 c = cut-large c.args.x (T_from_true _ c.well_formed.0.1) c.if-b-lt9223372036854775808.true c.if-e-lt1074.false

pub returns-else-b-lt9223372036854775808 : goal.returns-else-b-lt9223372036854775808
returns-else-b-lt9223372036854775808 c = cut-negative c.args.x (T_from_true _ c.well_formed.0.1) c.if-b-lt9223372036854775808.false

pub returns-else-not-is_nan : goal.returns-else-not-is_nan
returns-else-not-is_nan c = cut-nan c.args.x (sym c.is_nan.ensures.value ∙ c.if-not-is_nan.false)
