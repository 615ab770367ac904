-- Texts written at a place of a buffer that is lent, and what a page shows of its buffer. Assumes nothing.
use Prim.Native.Nat.{ℕ, ◌+◌, ◌-◌, ◌/◌, ◌≤◌, ◌<◌}
use mathlib.Core.Bool.{Bool, true, false}
use mathlib.Core.List.{List, [], ◌++◌, append_assoc, append-nil}
use mathlib.Core.Path.{◌≡◌, refl, ap, sym, ◌∙◌}
use native.Mathlib.Nat.{add-zero}
use native.Mathlib.Omega.{arith}
use borrow.Author.Tests.{leb-true, leb-false, le-leb, lt-leb}
use lib.Dec.{leb}
use lib.ListN.{length, take, drop, take-append-drop, length-append, length-take, length-drop}
use lib.Seq.{take_at, drop_at, drop-drop, length-take-le}
use borrow.Rule.Slice.PartMut.{put_mid}
use Rattle.ascii.specs.Ascii.{ascii}
use Rattle.text.specs.Seconds.{seconds_if}
use Rattle.text.specs.Page.{add_of as added}
use Rattle.text.specs.Text.{Page, page_of, add_of, add_if}
use Rattle.text.specs.Digits.{last_digits, decimal_of, places_of}
use Rattle.text.proofs.Pages.{digits_long, add_whole as page-whole, add_none as page-none}

-- ---- a text that fits, and one that does not
pub add-whole : (out : List ℕ) (at : ℕ) (text : List ℕ) → at + length text ≤ length out → add_of (page_of out at) text ≡ page_of (take at out ++ text ++ drop (at + length text) out) (at + length text)
unfolding add_of add_if
add-whole out at text h = rw (le-leb _ _ h)

pub add_none : (out : List ℕ) (at : ℕ) (text : List ℕ) → length out < at + length text → add_of (page_of out at) text ≡ page_of out at
unfolding add_of add_if
add_none out at text h = rw (lt-leb _ _ h)

add-if-nothing : (t : Bool) (out : List ℕ) (at : ℕ) → add_if t (page_of out at) [] ≡ page_of out at
unfolding add_if
add-if-nothing true out at = rw (add-zero at, append-nil (take at out), take-append-drop at out)
add-if-nothing false out at = refl

pub add_nothing : (out : List ℕ) (at : ℕ) → add_of (page_of out at) [] ≡ page_of out at
unfolding add_of
add_nothing out at = add-if-nothing (leb (at + 0) (length out)) out at

-- ---- what is copied to the part that is lent
pub put-lent : (out : List ℕ) (at : ℕ) (text : List ℕ) → at + length text ≤ length out → page_of (put_mid at (at + length text - at) out text) (at + length text) ≡ add_of (page_of out at) text
put-lent out at text h =
    let q : at + length text - at ≡ length text = omega arith in
    rw (add-whole out at text h, q, drop-drop (length text) at out, append_assoc (take at out) text (drop (at + length text) out)) refl

pub digits-lent : {spelt : List ℕ} (out : List ℕ) (at base count number : ℕ) → at + count ≤ length out → spelt ≡ last_digits base (length (take (at + count - at) (drop at out))) number → page_of (put_mid at (at + count - at) out spelt) (at + count) ≡ add_of (page_of out at) (last_digits base count number)
digits-lent out at base count number h s =
    let q : length (take (at + count - at) (drop at out)) ≡ count = simp (length-take, length-drop) (omega arith) in
    let d : length (last_digits base count number) ≡ count = digits_long base count number in
    rw (s, q) (rw d at (put-lent out at (last_digits base count number) (omega arith)))

pub digits-none : (out : List ℕ) (at base count number : ℕ) → length out < at + count → add_of (page_of out at) (last_digits base count number) ≡ page_of out at
digits-none out at base count number h = let e = digits_long base count number in add_none out at (last_digits base count number) (omega arith)

-- ---- two texts in a row are one, where both fit
pub add-join : (out : List ℕ) (at : ℕ) (s t : List ℕ) → at + (length s + length t) ≤ length out → add_of (add_of (page_of out at) s) t ≡ add_of (page_of out at) (s ++ t)
add-join out at s t h =
    let head : List ℕ = take at out ++ s in
    let rest : List ℕ = drop (at + length s) out in
    let long : length head ≡ at + length s = simp (length-append, length-take) (omega arith) in
    let whole : length (head ++ rest) ≡ length out = simp (length-append, length-take, length-drop) (omega arith) in
    let back : drop (at + length s + length t) (head ++ rest) ≡ drop (at + length s + length t) out =
    sym (drop-drop (length t) (at + length s) (head ++ rest))
    ∙ (ap (drop (length t)) (drop_at head rest (at + length s) long) ∙ drop-drop (length t) (at + length s) out) in
    let both : at + length (s ++ t) ≡ at + length s + length t = simp length-append (omega arith) in
    ap (λ (p : Page). add_of p t) (add-whole out at s (omega arith))
    ∙ (add-whole (head ++ rest) (at + length s) t (omega arith)
    ∙ ((rw (take_at head rest (at + length s) long, back, both, append_assoc (take at out) s t))
    ∙ sym (add-whole out at (s ++ t) (omega arith))))

-- ---- whole seconds, a point and the fraction
module _ (out : List ℕ) (at parts : ℕ) where
  seconds-long : length (seconds_if false parts) ≡ places_of (parts / 10000) + 5
  unfolding seconds_if places_of
  seconds-long = simp (length-append, digits_long) (omega arith)

  pub seconds-whole : at + (places_of (parts / 10000) + 5) ≤ length out → add_of (add_of (add_of (page_of out at) (decimal_of (parts / 10000))) (ascii ".")) (last_digits 10 4 parts) ≡ add_of (page_of out at) (seconds_if false parts)
  unfolding seconds_if places_of
  seconds-whole h =
      let w : List ℕ = decimal_of (parts / 10000) in
      let m = length-append w (ascii ".") in
      let n : length (last_digits 10 4 parts) ≡ 4 = digits_long 10 4 parts in
      ap (λ (p : Page). add_of p (last_digits 10 4 parts)) (add-join out at w (ascii ".") (omega arith)) ∙ add-join out at (w ++ ascii ".") (last_digits 10 4 parts) (omega arith)

  pub seconds-none : length out < at + (places_of (parts / 10000) + 5) → add_of (page_of out at) (seconds_if false parts) ≡ page_of out at
  seconds-none h = let e = seconds-long in add_none out at (seconds_if false parts) (omega arith)

-- ---- what a page of so much room shows of its buffer: the front, up to the place
module _ (room end : ℕ) (bytes text out : List ℕ) (place : ℕ) (h : end ≤ room) (e : length bytes ≡ room) (k : page_of out place ≡ add_of (page_of bytes end) text) where
  front : length (take end bytes) ≡ end
  front = length-take-le end bytes (omega arith)

  shown-if : (t : Bool) → leb (end + length text) (length bytes) ≡ t → record { room = room; text = take place out } ≡ added (record { room = room; text = take end bytes }) text
  shown-if true l =
      let fits : end + length text ≤ length bytes = leb-true _ _ l in
      let f = front in
      let w = k ∙ add-whole bytes end text fits in
      let head : List ℕ = take end bytes ++ text in
      let long : length head ≡ end + length text = length-append (take end bytes) text ∙ ap (λ (n : ℕ). n + length text) f in
      let ahead = take_at head (drop (end + length text) bytes) (end + length text) long in
      rw (ap (λ (p : Page). p.bytes) w, ap (λ (p : Page). p.place) w, ahead) (sym (page-whole (record { room = room; text = take end bytes }) text (omega arith)))
  shown-if false l =
      let short : length bytes < end + length text = leb-false _ _ l in
      let f = front in
      let w = k ∙ add_none bytes end text short in
      rw (ap (λ (p : Page). p.bytes) w, ap (λ (p : Page). p.place) w) (sym (page-none (record { room = room; text = take end bytes }) text (omega arith)))

  pub shown : record { room = room; text = take place out } ≡ added (record { room = room; text = take end bytes }) text
  shown = shown-if (leb (end + length text) (length bytes)) refl

  within-if : (t : Bool) → leb (end + length text) (length bytes) ≡ t → place ≤ room
  within-if true l =
      let fits : end + length text ≤ length bytes = leb-true _ _ l in
      let w : place ≡ end + length text = ap (λ (p : Page). p.place) (k ∙ add-whole bytes end text fits) in
      omega arith
  within-if false l =
      let w : place ≡ end = ap (λ (p : Page). p.place) (k ∙ add_none bytes end text (leb-false _ _ l)) in
      omega arith

  pub within : place ≤ room
  within = within-if (leb (end + length text) (length bytes)) refl
