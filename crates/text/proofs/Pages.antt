-- Texts on a page, and the digits of a number. Assumes nothing.
use Prim.Native.Nat.{ℕ, zero, suc, ◌+◌, ◌-◌, ◌*◌, ◌/◌, ◌%◌, ◌^◌, ◌<◌, ◌≤◌, zero-le}
use mathlib.Core.Bool.{Bool, true, false}
use mathlib.Core.List.{List, [], ◌∷◌, ◌++◌, append_assoc, append-nil}
use mathlib.Core.Path.{◌≡◌, refl, ap, sym, ◌∙◌}
use native.Mathlib.Nat.{pow-suc}
use native.Mathlib.Numerals.{add-one}
use native.Mathlib.Omega.{arith}
use borrow.Author.Tests.{le-leb, lt-leb, lt-ltb, le-ltb}
use lib.Dec.{leb, ltb}
use lib.ListN.{length, take, drop, set, length-append, length-take, length-drop}
use lib.Seq.{length-take-le, drop_at, set_split}
use borrow.Rule.Slice.PartMut.{put_mid}
use Rattle.std.proofs.lemmas.Slice.{take-put_mid}
use Rattle.ascii.specs.Ascii.{ascii}
use Rattle.text.specs.Seconds.{seconds_if}
use Rattle.text.specs.Page.{Page, add_of, add_if}
use Rattle.text.specs.Digits.{glyph_of, last_digits, decimal_from, decimal_if, decimal_of, places_of}

-- ---- a text that fits, and one that does not
module _ (p : Page) (text : List ℕ) where
  pub add_whole : length p.text + length text ≤ p.room → add_of p text ≡ record { room = p.room; text = p.text ++ text }
  unfolding add_of add_if
  add_whole h = rw (le-leb _ _ h)

  pub add_none : p.room < length p.text + length text → add_of p text ≡ p
  unfolding add_of add_if
  add_none h = rw (lt-leb _ _ h)

-- ---- the digits of a number
pub digits_long : (base k n : ℕ) → length (last_digits base k n) ≡ k
unfolding last_digits
digits_long base zero n = refl
digits_long base (suc k) n = rw (length-append, digits_long base k (n / base)) (add-one k)

pub drop-stored : (out : List ℕ) (place digit : ℕ) → place < length out → drop place (set out place digit) ≡ digit ∷ drop (suc place) out
drop-stored out place digit h =
    rw (set_split out place digit) (drop_at (take place out) _ place (length-take-le place out (omega arith)))

longer : (before : List ℕ) (d : ℕ) → length (before ++ d ∷ []) ≡ suc (length before)
longer before d = length-append before (d ∷ []) ∙ add-one (length before)

decimal_digit : (t : Bool) (n : ℕ) (before : List ℕ) → before ≡ last_digits 10 (length before) (n / 10) → decimal_if t before (glyph_of (n % 10)) ≡ last_digits 10 (length (decimal_if t before (glyph_of (n % 10)))) n
unfolding decimal_if last_digits
decimal_digit true n before h = refl
decimal_digit false n before h =
    ap (λ (l : List ℕ). l ++ glyph_of (n % 10) ∷ []) h ∙ sym (ap (λ (k : ℕ). last_digits 10 k n) (longer before (glyph_of (n % 10))))

decimal-from : (k n : ℕ) → decimal_from k n ≡ last_digits 10 (length (decimal_from k n)) n
unfolding decimal_from last_digits
decimal-from zero n = refl
decimal-from (suc k) n = decimal_digit (ltb n 10) n (decimal_from k (n / 10)) (decimal-from k (n / 10))

pub decimal-last : (n : ℕ) → decimal_of n ≡ last_digits 10 (places_of n) n
unfolding decimal_of places_of
decimal-last n = decimal-from 20 n

shorter : (t : Bool) (before : List ℕ) (d k : ℕ) → length before ≤ k → length (decimal_if t before d) ≤ k + 1
unfolding decimal_if
shorter true before d k h = omega arith
shorter false before d k h = rw (longer before d) (omega arith)

few-digits : (k n : ℕ) → length (decimal_from k n) ≤ k
unfolding decimal_from
few-digits zero n = zero-le
few-digits (suc k) n = rw (← (add-one k)) (shorter (ltb n 10) (decimal_from k (n / 10)) (glyph_of (n % 10)) k (few-digits k (n / 10)))

pub few-places : (n : ℕ) → places_of n ≤ 20
unfolding places_of decimal_of
few-places n = few-digits 20 n

-- ---- and how many they are, by the power of ten that the number reaches
long-between : (k j n : ℕ) → k ≤ j → 10 ^ k ≤ n → n < 10 * 10 ^ k → length (decimal_from (suc j) n) ≡ k + 1
unfolding decimal_from decimal_if
long-between zero j n f h l = rw (lt-ltb n 10 (omega arith)) refl
long-between (suc k) zero n f h l = absurd (omega arith)
long-between (suc k) (suc j) n f h l =
    let p : 10 ^ suc k ≡ 10 ^ k * 10 = pow-suc 10 k in
    let e : length (decimal_from (suc j) (n / 10)) ≡ k + 1 = long-between k j (n / 10) (omega arith) (omega arith) (omega arith) in
    rw (le-ltb n 10 (omega arith)) (longer (decimal_from (suc j) (n / 10)) (glyph_of (n % 10)) ∙ omega arith)

pub places-between : (k n : ℕ) → k < 20 → 10 ^ k ≤ n → n < 10 * 10 ^ k → k + 1 ≡ places_of n
unfolding places_of decimal_of
places-between k n f h l = sym (long-between k 19 n (omega arith) h l)

-- ---- the page's bytes
pub put-view : (room end : ℕ) (bytes text : List ℕ) → end ≤ room → length bytes ≡ room → length text ≤ room - end → record { room = room; text = take (end + length text) (put_mid end (end + length text - end) bytes text) } ≡ add_of (record { room = room; text = take end bytes }) text
put-view room end bytes text h e l =
    let f : length (take end bytes) ≡ end = length-take-le end bytes (omega arith) in
    rw (add_whole (record { room = room; text = take end bytes }) text (omega arith), take-put_mid end (end + length text - end) bytes text (end + length text) (omega arith) (omega arith)) refl

pub put-none : (room end : ℕ) (bytes text : List ℕ) → end ≤ room → length bytes ≡ room → room - end < length text → add_of (record { room = room; text = take end bytes }) text ≡ record { room = room; text = take end bytes }
put-none room end bytes text h e l =
    let f : length (take end bytes) ≡ end = length-take-le end bytes (omega arith) in
    add_none (record { room = room; text = take end bytes }) text (omega arith)

module _ (room end : ℕ) (bytes : List ℕ) (base count number : ℕ) (h : end ≤ room) (e : length bytes ≡ room) where
  pub digits-view : {spelt : List ℕ} → count ≤ room - end → spelt ≡ last_digits base (length (take (end + count - end) (drop end bytes))) number → record { room = room; text = take (end + count) (put_mid end (end + count - end) bytes spelt) } ≡ add_of (record { room = room; text = take end bytes }) (last_digits base count number)
  digits-view l s =
      let q : length (take (end + count - end) (drop end bytes)) ≡ count = simp (length-take, length-drop) (omega arith) in
      let d : length (last_digits base count number) ≡ count = digits_long base count number in
      rw (s, q) (rw d at (put-view room end bytes (last_digits base count number) h e (omega arith)))

  pub digits_none : room - end < count → add_of (record { room = room; text = take end bytes }) (last_digits base count number) ≡ record { room = room; text = take end bytes }
  digits_none l = let d : length (last_digits base count number) ≡ count = digits_long base count number in put-none room end bytes (last_digits base count number) h e (omega arith)

-- ---- from the last digit to the first
pub spelt_more : {all : List ℕ} {digit : ℕ} (out : List ℕ) (i rest base : ℕ) → 0 < i → i ≤ length out → digit ≡ glyph_of (rest % base) → last_digits base i rest ++ drop i out ≡ all → last_digits base (i - 1) (rest / base) ++ drop (i - 1) (set out (i - 1) digit) ≡ all
unfolding last_digits
spelt_more out zero rest base l h e k = absurd (omega arith)
spelt_more out (suc i) rest base l h e k =
    let q : suc i - 1 ≡ i = omega arith in
    rw (q, e, drop-stored out i (glyph_of (rest % base)) (omega arith)) (rw append_assoc at k)

pub spelt_all : {all : List ℕ} (out : List ℕ) (i rest base : ℕ) → i ≤ 0 → last_digits base i rest ++ drop i out ≡ all → out ≡ all
unfolding last_digits
spelt_all out i rest base l k = let q : i ≡ 0 = omega arith in rw q at k

-- ---- two texts in a row are one, where both fit
add-if-nothing : (t : Bool) (p : Page) → add_if t p [] ≡ p
unfolding add_if
add-if-nothing true p = rw (append-nil p.text) refl
add-if-nothing false p = refl

pub add_nothing : (p : Page) → add_of p [] ≡ p
unfolding add_of
add_nothing p = add-if-nothing (leb (length p.text + 0) p.room) p

pub add-join : (p : Page) (s t : List ℕ) → length p.text + (length s + length t) ≤ p.room → add_of (add_of p s) t ≡ add_of p (s ++ t)
add-join p s t h =
    let e = length-append p.text s in
    let f = length-append s t in
    rw (add_whole p s (omega arith), add_whole p (s ++ t) (omega arith), add_whole (record { room = p.room; text = p.text ++ s }) t (omega arith), append_assoc) refl

-- ---- whole seconds, a point and the fraction
module _ (p : Page) (parts : ℕ) where
  seconds-long : length (seconds_if false parts) ≡ places_of (parts / 10000) + 5
  unfolding seconds_if places_of
  seconds-long = simp (length-append, digits_long) (omega arith)

  pub seconds-whole : length p.text + (places_of (parts / 10000) + 5) ≤ p.room → add_of (add_of (add_of p (decimal_of (parts / 10000))) (ascii ".")) (last_digits 10 4 parts) ≡ add_of p (seconds_if false parts)
  unfolding seconds_if places_of
  seconds-whole h =
      let w : List ℕ = decimal_of (parts / 10000) in
      let m = length-append w (ascii ".") in
      let n : length (last_digits 10 4 parts) ≡ 4 = digits_long 10 4 parts in
      ap (λ (q : Page). add_of q (last_digits 10 4 parts)) (add-join p w (ascii ".") (omega arith)) ∙ add-join p (w ++ ascii ".") (last_digits 10 4 parts) (omega arith)

  pub seconds-none : p.room < length p.text + (places_of (parts / 10000) + 5) → add_of p (seconds_if false parts) ≡ p
  seconds-none h = let e = seconds-long in add_none p (seconds_if false parts) (omega arith)
