-- What some lines ask for, computed: numbers at the edges of 64 bits, and lines that are none. Assumes nothing.
use Prim.Native.String.{String}
use mathlib.Core.List.{[], ◌∷◌, map}
use mathlib.Core.Path.{◌≡◌, refl}
use Rattle.std.specs.Prelude.{Option, None, Some}
use Rattle.ascii.specs.Ascii.{ascii}
use Rattle.bill.specs.declared.lines.Asked.{Asked}
use Rattle.bill.specs.declared.lines.Asked.TheVariants.{Time, From}
use Rattle.console.specs.Lines.{cut, fields_of, all_digits, value_from, number_if, number_of, also, numbers_of}
use Rattle.bill.specs.Lines.{numbers_asked, asked_of}

asks : String → Option Asked
asks s = asked_of (ascii s)

numbers : map asks ("0" ∷ "60000" ∷ "00060001" ∷ "18446744073709551615" ∷ "18446744073709551616" ∷ "99999999999999999999999" ∷ [])
    ≡ Some (Time 0) ∷ Some (Time 60000) ∷ Some (Time 60001) ∷ Some (Time 18446744073709551615) ∷ Some (Time 18446744073709551615) ∷ Some (Time 18446744073709551615) ∷ []
unfolding asks cut fields_of all_digits value_from number_if number_of also numbers_of numbers_asked asked_of
numbers = refl

starts : map asks ("60000,0" ∷ "1,604799" ∷ "0,99999999999999999999" ∷ []) ≡ Some (From 60000 0) ∷ Some (From 1 604799) ∷ Some (From 0 18446744073709551615) ∷ []
unfolding asks cut fields_of all_digits value_from number_if number_of also numbers_of numbers_asked asked_of
starts = refl

others : map asks ("" ∷ "-1" ∷ "60 000" ∷ "60000\r" ∷ "6e4" ∷ "60000/" ∷ "60000:" ∷ "," ∷ "1," ∷ ",1" ∷ "1,,2" ∷ "1,2,3" ∷ []) ≡ None ∷ None ∷ None ∷ None ∷ None ∷ None ∷ None ∷ None ∷ None ∷ None ∷ None ∷ None ∷ []
unfolding asks cut fields_of all_digits value_from number_if number_of also numbers_of numbers_asked asked_of
others = refl
