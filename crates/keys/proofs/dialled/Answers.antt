-- `dialled` meets its contract: it begins with no digits. Assumes nothing.
use mathlib.Core.Path.{◌∙◌}
use Rattle.keys.proofs.Line.{none_yet}
use Rattle.keys.proofs.dialled.Goals as goal

pub loop-b-init : goal.loop-b-init
loop-b-init c = c.new-digits.ensures ∙ none_yet c.args.line.now
