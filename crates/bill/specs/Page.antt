-- What the program `bill` prints for a line: `refusal,units,pence`, in decimal, or nothing.
use Rattle.std.specs.Prelude.{Result, Option, None, Some}
use Rattle.refusal.specs.declared.Refusal.{Refusal}
use Rattle.refusal.specs.Refusal.{answer_number}
use Rattle.ascii.specs.Ascii.{ascii}
use Rattle.text.specs.Page.{Page, add_of}
use Rattle.text.specs.Digits.{decimal_of}
use Rattle.text.specs.Fields.{numbered}
use Rattle.tariff.specs.declared.Bill.{Bill}
use Rattle.tariff.specs.Tariff.{told, bill_of}
use Rattle.tariff.specs.Hours.{bill_from}
use Rattle.bill.specs.declared.lines.Asked.{Asked}
use Rattle.bill.specs.declared.lines.Asked.TheVariants.{Time, From}

-- 02, E11: an answer that is declined has "zeros" (`told`)
unfoldable pub billed : Page → Result Bill Refusal → Page
billed p answer = add_of (add_of (numbered (numbered p (answer_number answer)) (told answer).units) (decimal_of (told answer).pence)) (ascii "\n")

abbrev pub answered : Page → Option Asked → Page
answered p (Some (Time ms)) = billed p (bill_of ms)
answered p (Some (From ms start)) = billed p (bill_from ms start)
answered p None = p
