-- `shown::framed` meets its contract: by whether the string has ten bytes. Assumes nothing.
use mathlib.Core.Bool.{true}
use mathlib.Core.Path.{ap, ◌∙◌}
use borrow.Author.Tests.{eq-eqb, ne_eqb}
use Rattle.deframe.specs.Unframe.{unframe_of}
use Rattle.panel.specs.Wall.{frame_shown}
use Rattle.panel.proofs.shown.framed.Goals as goal

pub returns-then-string-eq10 : goal.returns-then-string-eq10
returns-then-string-eq10 c = rw (eq-eqb _ _ c.if-string-eq10.true)
    (c.unframed.ensures ∙ ap (frame_shown true c.args.set) (c.unframe.ensures.value ∙ ap unframe_of c.ten.ensures))

pub returns : goal.returns
returns c = rw (ne_eqb _ _ c.if-string-eq10.false) c.nothing.ensures
