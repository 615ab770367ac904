-- Which calls some lines are, computed: 01's own, and those at the edges of what a line may hold. Assumes nothing.
use Prim.Native.String.{String}
use mathlib.Core.Bool.{true, false}
use mathlib.Core.Path.{◌≡◌, refl}
use Rattle.std.specs.Prelude.{Option, None, Some}
use Rattle.console.specs.declared.lines.Call.{Call}
use Rattle.console.specs.declared.lines.Call.TheVariants.{Rate, Typed, Lapse, Fill, ForcedData, Cue, Kept, String as string, Bits, Frame, Key, Queued}
use Rattle.console.specs.Lines.{cut, fields_of, all_digits, value_from, number_if, number_of, also, numbers_of, fill_if, fill_call, typed_if, typed_call, lapse_if, lapse_call, call_if, cue_call, kept_call, bits_call, queue_call, string_if, string_call, bare_call, added_call, one_call, two_call, three_call, numbers_call, call_of}
use Rattle.ascii.specs.Ascii.{ascii}

-- a line of `wall`, and of `tap --ext`
plain : String → Option Call
plain s = call_of false (ascii s)

extended : String → Option Call
extended s = call_of true (ascii s)

calls : (plain "R,8000" ≡ Some (Rate 8000))
    × (plain "T,65,0" ≡ Some (Typed 65 false 16))
    × (plain "T,0013,01" ≡ Some (Typed 13 true 16))
    × (plain "W,18446744073709551615,1" ≡ Some (Lapse 18446744073709551615 true))
    × (plain "F,16384" ≡ Some (Fill 16384))
    × (plain "D" ≡ Some ForcedData)
    × (extended "T,65,0,3" ≡ Some (Typed 65 false 3))
    × (extended "F,70000" ≡ Some (Fill 70000))
    × (extended "C,255" ≡ Some (Cue 255))
    × (extended "M,13" ≡ Some (Kept 13))
    × (extended "S,1,1200,0" ≡ Some (string true 1200 0))
    × (extended "B,64" ≡ Some (Bits 64))
    × (extended "U" ≡ Some Frame)
    × (extended "K" ≡ Some Key)
    × (extended "Q,255" ≡ Some (Queued 255))
    × (plain "R,99999999999999999999999" ≡ Some (Rate 4294967295))
unfolding plain extended cut fields_of all_digits value_from number_if number_of also numbers_of fill_if fill_call typed_if typed_call lapse_if lapse_call call_if cue_call kept_call bits_call queue_call string_if string_call bare_call added_call one_call two_call three_call numbers_call call_of
calls = (refl, refl, refl, refl, refl, refl, refl, refl, refl, refl, refl, refl, refl, refl, refl, refl)

others : (plain "" ≡ None)
    × (plain "R," ≡ None)
    × (plain "R,8000," ≡ None)
    × (plain "R,8 000" ≡ None)
    × (plain "R,8000\r" ≡ None)
    × (plain "r,8000" ≡ None)
    × (plain "T,256,0" ≡ None)
    × (plain "T,65,2" ≡ None)
    × (plain "T,65,0,3" ≡ None)
    × (plain "W,18446744073709551616,0" ≡ None)
    × (plain "F,16385" ≡ None)
    × (plain "D,0" ≡ None)
    × (extended "T,65,0,17" ≡ None)
    × (extended "T,65,0,3,0" ≡ None)
    × (extended "F,70001" ≡ None)
    × (plain "C,0" ≡ None)
    × (extended "C,256" ≡ None)
    × (extended "C" ≡ None)
    × (plain "M,13" ≡ None)
    × (extended "M,256" ≡ None)
    × (plain "S,0,4,2" ≡ None)
    × (extended "S,2,4,2" ≡ None)
    × (extended "S,0,1201,2" ≡ None)
    × (extended "S,0,4,1201" ≡ None)
    × (plain "B,64" ≡ None)
    × (extended "B,65" ≡ None)
    × (plain "U" ≡ None)
    × (extended "U,0" ≡ None)
    × (plain "K" ≡ None)
    × (extended "K,0" ≡ None)
    × (plain "Q,65" ≡ None)
    × (extended "Q,256" ≡ None)
    × (extended "Q" ≡ None)
unfolding plain extended cut fields_of all_digits value_from number_if number_of also numbers_of fill_if fill_call typed_if typed_call lapse_if lapse_call call_if cue_call kept_call bits_call queue_call string_if string_call bare_call added_call one_call two_call three_call numbers_call call_of
others = (refl, refl, refl, refl, refl, refl, refl, refl, refl, refl, refl, refl, refl, refl, refl, refl, refl, refl, refl, refl, refl, refl, refl, refl, refl, refl, refl, refl, refl, refl, refl, refl, refl)
