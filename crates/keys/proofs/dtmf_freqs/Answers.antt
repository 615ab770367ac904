-- `dtmf_freqs` meets its contract: the place found gives row and column, and the constants are their frequencies. Assumes nothing.
use Prim.Native.Nat.{◌/◌, ◌%◌, ◌<◌}
use mathlib.Core.Path.{◌∙◌, ap₂}
use lib.Ieee.{Float, nan, of_int, of_bits}
use Rattle.std.proofs.lemmas.List.{get_or-map}
use native.Mathlib.Omega.{arith}
use Rattle.std.specs.Prelude.{Some}
use Rattle.keys.specs.Keys.{rows, columns, hertz}
use Rattle.keys.proofs.Keypad.{placed, place-within, unplaced}
use Rattle.keys.proofs.dtmf_freqs.Goals as goal

pub returns-in_err-place-clause-value : goal.returns-in_err-place-clause-value
returns-in_err-place-clause-value c = c.from_residual.ensures ∙ unplaced _ c.in_err-place.ensures

pub returns-clause-value : goal.returns-clause-value
unfolding of_int of_bits
returns-clause-value c = let place = c.in_ok-place.place in
    let few : place < 16 = place-within _ place c.in_ok-place.ensures in
    let row : place / 4 < 4 = omega arith in
    let column : place % 4 < 4 = omega arith in
    ap₂ (λ (low high : Float). Some (record { low = low; high = high; key = record { row = place / 4; column = place % 4 } })) (get_or-map hertz rows _ 0 nan row) (get_or-map hertz columns _ 0 nan column)
    ∙ placed _ place c.in_ok-place.ensures
