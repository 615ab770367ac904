-- 01's example of what `wall` prints: a fresh set, and one that has told OK. By computing. Assumes nothing.
use mathlib.Core.Bool.{true}
use mathlib.Core.Path.{◌≡◌, refl}
use Rattle.ascii.specs.Ascii.{ascii}
use Rattle.text.specs.Digits.{decimal_of, decimal_from, decimal_if, glyph_of, glyph_if}
use Rattle.report.specs.Report.{report_line, mode_text}

pub fresh-line : report_line (record { refusal = 0; in_command_mode = true; state = 0; stage = 0; m = 0; first = 0; second = 0 }) ≡ ascii "0,C,0,0,0,0,0\n"
unfolding report_line mode_text decimal_of decimal_from decimal_if glyph_of glyph_if
fresh-line = refl

pub told_line : report_line (record { refusal = 0; in_command_mode = true; state = 0; stage = 0; m = 0; first = 1; second = 0 }) ≡ ascii "0,C,0,0,0,1,0\n"
unfolding report_line mode_text decimal_of decimal_from decimal_if glyph_of glyph_if
told_line = refl
