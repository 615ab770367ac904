-- What the definitions of texts give, computed. Assumes nothing.
use mathlib.Core.Path.{◌≡◌, refl}
use Rattle.ascii.specs.Ascii.{ascii}
use Rattle.text.specs.Digits.{glyph_of, glyph_if, last_digits, decimal_of, decimal_from, decimal_if}
use Rattle.text.specs.Seconds.{parts_of, seconds_of, seconds_if}
use Rattle.text.specs.Text.{page_of, add_of, add_if}
use Rattle.text.specs.Page.{add_of as on_page, add_if as on_page_if}

zero_is : decimal_of 0 ≡ ascii "0"
unfolding decimal_of decimal_from decimal_if glyph_of glyph_if
zero_is = refl

largest-is : decimal_of 18446744073709551615 ≡ ascii "18446744073709551615"
unfolding decimal_of decimal_from decimal_if glyph_of glyph_if
largest-is = refl

byte-is : last_digits 16 2 171 ≡ ascii "AB"
unfolding last_digits glyph_of glyph_if
byte-is = refl

-- three digits at 8,000 samples a second, one whose nearest is above it, and no rate
seconds-are : seconds_of 4801 8000 ≡ ascii "0.6001"
unfolding decimal_of decimal_from decimal_if last_digits glyph_of glyph_if parts_of seconds_of seconds_if
seconds-are = refl

seconds-round : seconds_of 12801 48000 ≡ ascii "0.2667"
unfolding decimal_of decimal_from decimal_if last_digits glyph_of glyph_if parts_of seconds_of seconds_if
seconds-round = refl

no-seconds : seconds_of 4801 0 ≡ ascii ""
unfolding seconds_of seconds_if
no-seconds = refl

-- a text that fits in a buffer, and one that does not
fits-is : add_of (page_of (ascii "......") 1) (ascii "AT") ≡ page_of (ascii ".AT...") 3
unfolding add_of add_if
fits-is = refl

cut-is : add_of (page_of (ascii "......") 5) (ascii "AT") ≡ page_of (ascii "......") 5
unfolding add_of add_if
cut-is = refl

-- and on a page
page-fits-is : on_page (record { room = 3; text = ascii "." }) (ascii "AT") ≡ record { room = 3; text = ascii ".AT" }
unfolding on_page on_page_if
page-fits-is = refl

page-cut-is : on_page (record { room = 2; text = ascii "." }) (ascii "AT") ≡ record { room = 2; text = ascii "." }
unfolding on_page on_page_if
page-cut-is = refl
