-- 01, "Proving cases": the program `wall` "prints for each line refusal (0 none), mode C or D, state, stage, m, two codes (0 none)".
-- As in 01's example, the fields are in decimal, with commas between them, and a line feed ends the line.
use Rattle.std.specs.Prelude.{ℕ, Bool, true, false, List, ◌++◌}
use Rattle.ascii.specs.Ascii.{ascii}
use Rattle.text.specs.Digits.{decimal_of}
use Rattle.report.specs.declared.Report.{Report}

-- mode C or D: command or data
unfoldable pub mode_text : Bool → List ℕ
mode_text true = ascii "C"
mode_text false = ascii "D"

unfoldable pub report_line : Report → List ℕ
report_line r =
    decimal_of r.refusal
    ++ ascii ","
    ++ mode_text r.in_command_mode
    ++ ascii ","
    ++ decimal_of r.state
    ++ ascii ","
    ++ decimal_of r.stage
    ++ ascii ","
    ++ decimal_of r.m
    ++ ascii ","
    ++ decimal_of r.first
    ++ ascii ","
    ++ decimal_of r.second
    ++ ascii "\n"
