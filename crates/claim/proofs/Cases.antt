-- 01, "Proving cases": all of them in one table, over the definitions that the set's calls are proved to equal. Each stands in the crate
-- whose definition it computes, and is cited here. Assumes nothing.
use mathlib.Core.Path.{◌≡◌}
use mathlib.Core.List.{[]}
use Rattle.ascii.specs.Ascii.{ascii}
use Rattle.math.specs.Float.{f64, one}
use Rattle.math.specs.Narrow.{narrowed}
use Rattle.math.proofs.Constants.{tie_down, tie_up}
use Rattle.keys.specs.Keys.{digits_of}
use Rattle.keys.proofs.Line.{dials-12, dials-abcd}
use Rattle.schedule.specs.Time.{samples_in}
use Rattle.schedule.specs.Length.{click_time, dialling_length}
use Rattle.schedule.proofs.Cases.{click-at-8000, no-digits-at-8000, two-digits-at-8000, three-digits-at-8000}
use Rattle.reply.specs.declared.Code.TheVariants.{NoCarrier, Error}
use Rattle.reply.specs.declared.Reply.TheVariants.{None, One}
use Rattle.std.specs.Prelude.{Some}
use Rattle.at.specs.declared.Control.TheVariants.{Dial}
use Rattle.at.specs.Processor.{fresh, online}
use Rattle.at.specs.At.{after_atdt}
use Rattle.at.proofs.Cases.{answer_to, atdt12, atdtabcdef, atdp1, at-dt1, sent_after, plus_after, first-plus, second-plus, fourth-plus, down_reply, down}

pub record ProvingCases : Type 0 where
  -- ATDT12: digits 12
  pub dial-12 : ((answer_to "ATDT12").outcome.control ≡ Some Dial) × (digits_of (after_atdt (answer_to "ATDT12")) ≡ ascii "12")
  -- atdtabcdef: ABCD
  pub dial-abcd : ((answer_to "atdtabcdef").outcome.control ≡ Some Dial) × (digits_of (after_atdt (answer_to "atdtabcdef")) ≡ ascii "ABCD")
  -- ATDP1, AT DT1: ERROR
  pub no-dial : ((answer_to "ATDP1").outcome.reply ≡ One Error) × ((answer_to "AT DT1").outcome.reply ≡ One Error)
  -- plus at idle 1 s withheld, at 999,999,999 ns sent
  pub plus : (sent_after 1_000_000_000 (online fresh) ≡ []) × (sent_after 999_999_999 (online fresh) ≡ ascii "+")
  -- second plus 1,000,000,001 ns later: two sent
  pub late-plus : sent_after 1_000_000_001 (plus_after 1_000_000_000 (online fresh)) ≡ ascii "++"
  -- fourth plus: four sent
  pub four-pluses : sent_after 0 (plus_after 0 (plus_after 0 (plus_after 1_000_000_000 (online fresh)))) ≡ ascii "++++"
  -- down 699,999,999 ns: none; 700,000,000: NO CARRIER
  pub carrier-down : (down_reply 699_999_999 ≡ None) × (down_reply 700_000_000 ≡ One NoCarrier)
  -- at 8,000: R(0.05) = 400
  pub click : samples_in click_time 8000 ≡ 400
  -- Dialling 1, 3,200, 4,801 for 0, 2, 3 digits
  pub dialling : (dialling_length 8000 0 ≡ 1) × (dialling_length 8000 2 ≡ 3200) × (dialling_length 8000 3 ≡ 4801)
  -- 1 + 2^-24 narrows to 1; 1 + 3 × 2^-24 to 1 + 2^-22
  pub narrowing : (narrowed (f64 0x3ff0_0000_1000_0000) ≡ one) × (narrowed (f64 0x3ff0_0000_3000_0000) ≡ f64 0x3ff0_0000_4000_0000)

pub proving-cases : ProvingCases
proving-cases =
    record {
      dial-12 = (atdt12.0, rw atdt12.1 dials-12);
      dial-abcd = (atdtabcdef.0, rw atdtabcdef.1 dials-abcd);
      no-dial = (atdp1, at-dt1);
      plus = first-plus;
      late-plus = second-plus.0;
      four-pluses = fourth-plus;
      carrier-down = down;
      click = click-at-8000;
      dialling = (no-digits-at-8000, two-digits-at-8000, three-digits-at-8000);
      narrowing = (tie_down, tie_up);
    }
