-- What some lines ask for, computed: each kind at the edges of its numbers, and lines that are none. Assumes nothing.
use Prim.Native.String.{String}
use mathlib.Core.Bool.{true, false}
use mathlib.Core.List.{[], ◌∷◌, map}
use mathlib.Core.Path.{◌≡◌, refl}
use Rattle.std.specs.Prelude.{Option, None, Some}
use Rattle.ascii.specs.Ascii.{ascii}
use Rattle.serial.specs.declared.lines.Asked.{Asked}
use Rattle.serial.specs.declared.lines.Asked.TheVariants.{Rate, Read, Write, Lapse, Fill}
use Rattle.console.specs.Lines.{cut, fields_of, all_digits, value_from, number_if, number_of, also, numbers_of}
use Rattle.serial.specs.Lines.{fill_asked, lapse_asked, write_of, one_asked, two_asked, write_asked, numbers_asked, asked_of}

asks : String → Option Asked
asks s = asked_of (ascii s)

registers : map asks ("R,8000" ∷ "R,99999999999999999999" ∷ "I,0" ∷ "I,007" ∷ "I,256" ∷ "O,0,65,1" ∷ "O,7,255,0,3" ∷ "O,99999999999999999999,0,0,16" ∷ [])
    ≡ Some (Rate 8000) ∷ Some (Rate 4294967295) ∷ Some (Read 0) ∷ Some (Read 7) ∷ Some (Read 255) ∷ Some (Write 0 65 true 16) ∷ Some (Write 7 255 false 3) ∷ Some (Write 255 0 false 16) ∷ []
unfolding asks cut fields_of all_digits value_from number_if number_of also numbers_of fill_asked lapse_asked write_of one_asked two_asked write_asked numbers_asked asked_of
registers = refl

between : map asks ("W,18446744073709551615,1" ∷ "W,0,0" ∷ "F,0" ∷ "F,16384" ∷ []) ≡ Some (Lapse 18446744073709551615 true) ∷ Some (Lapse 0 false) ∷ Some (Fill 0) ∷ Some (Fill 16384) ∷ []
unfolding asks cut fields_of all_digits value_from number_if number_of also numbers_of fill_asked lapse_asked write_of one_asked two_asked write_asked numbers_asked asked_of
between = refl

others : map asks ("" ∷ "R" ∷ "I," ∷ "I,-1" ∷ "I,1,2" ∷ "O,0,65" ∷ "O,0,256,1" ∷ "O,0,65,2" ∷ "O,0,65,1,17" ∷ "O,0,65,1,4,0" ∷ "W,18446744073709551616,1" ∷ "W,1" ∷ "F,16385" ∷ "T,65,1" ∷ "i,1" ∷ "II,1" ∷ "I,1\r" ∷ [])
    ≡ None ∷ None ∷ None ∷ None ∷ None ∷ None ∷ None ∷ None ∷ None ∷ None ∷ None ∷ None ∷ None ∷ None ∷ None ∷ None ∷ None ∷ []
unfolding asks cut fields_of all_digits value_from number_if number_of also numbers_of fill_asked lapse_asked write_of one_asked two_asked write_asked numbers_asked asked_of
others = refl
