-- What sounds by the gate: in Dialling, where the digits are all keys, each in tone has its key; in Ringback the burst. Assumes nothing.
use Rattle.std.proofs.Common.{◌≡◌, ℕ, zero, suc, ◌<◌, ◌≤◌, Bool, true, false, not, ◌&&◌, leb, List, [], ◌∷◌, length, get_or, refl, ap, ◌∙◌, le_of_suc-le-suc, not-suc-le-zero, leb-false, leb-true}
use mathlib.Core.Bool.{and-eq-true_iff}
use lib.ListN.{get_or-eq_default}
use Rattle.keys.specs.Keys.{is_key, tones_at, tones_of, all_keys, key_row, key_column}
use Rattle.tones.specs.Dial.{tones_for, digit_tones, dialled_key}
use Rattle.handset.specs.Sound.{key_sound, ring_sound}
use Rattle.handset.specs.Float.{is_sounding}

key-at : (digits : List ℕ) → all_keys digits ≡ true → (i : ℕ) → i < length digits → is_key (get_or digits i 0) ≡ true
unfolding all_keys
key-at [] e i h = absurd (not-suc-le-zero h)
key-at (b ∷ bs) e zero h = ((and-eq-true_iff (is_key b) (all_keys bs)).0 e).0
key-at (b ∷ bs) e (suc i) h = key-at bs ((and-eq-true_iff (is_key b) (all_keys bs)).0 e).1 i (le_of_suc-le-suc h)

by_key : (t : Bool) (row column : ℕ) → is_sounding (key_sound (tones_for (tones_at t row column)).key) ≡ t
by_key true row column = refl
by_key false row column = refl

in-tone : (digits : List ℕ) (i : ℕ) → is_sounding (key_sound (dialled_key digits i true)) ≡ is_key (get_or digits i 0)
unfolding dialled_key digit_tones tones_of
in-tone digits i = by_key (is_key (get_or digits i 0)) (key_row (get_or digits i 0)) (key_column (get_or digits i 0))

no_digit : (digits : List ℕ) (i : ℕ) → length digits ≤ i → is_key (get_or digits i 0) ≡ false
unfolding is_key
no_digit digits i h = ap is_key (get_or-eq_default digits 0 h)

in-gap : (digits : List ℕ) (i : ℕ) → is_sounding (key_sound (dialled_key digits i false)) ≡ false
unfolding dialled_key
in-gap digits i = refl

pub dial-sounds : (digits : List ℕ) → all_keys digits ≡ true → (i : ℕ) (on : Bool) → is_sounding (key_sound (dialled_key digits i on)) ≡ not (leb (length digits) i) && on
dial-sounds digits keys i on = go on (leb (length digits) i) refl
  where
    go : (on c : Bool) → leb (length digits) i ≡ c → is_sounding (key_sound (dialled_key digits i on)) ≡ not c && on
    go true true e = in-tone digits i ∙ no_digit digits i (leb-true (length digits) i e)
    go true false e = in-tone digits i ∙ key-at digits keys i (leb-false (length digits) i e)
    go false true e = in-gap digits i
    go false false e = in-gap digits i

pub ring-gate : (on : Bool) → is_sounding (ring_sound on) ≡ on
ring-gate true = refl
ring-gate false = refl
