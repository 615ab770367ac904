-- Bytes that come one after the other: a part and then the rest, and one more of a slice. Assumes nothing.
use Prim.Native.Nat.{ℕ, ◌+◌, ◌≤◌, ◌<◌}
use native.Mathlib.Omega.{arith}
use borrow.Author.Tests.{le-leb}
use native.Mathlib.Numerals.{add-one}
use mathlib.Core.Path.{◌≡◌, refl, sym, ap, ◌∙◌}
use mathlib.Core.List.{List, [], ◌∷◌, ◌++◌}
use lib.Dec.{lit≤}
use lib.ListN.{length, take, drop, get_or, length-append, drop_of_length-le}
use lib.Seq.{drop-cons, take-append_seam}
use Rattle.ascii.specs.Front.{put, put_length}
use Rattle.ascii.proofs.Front.{put-fits}
use Rattle.reply.specs.declared.Code.{Code}
use Rattle.reply.specs.declared.Code.TheVariants.{Ok, Connect, NoCarrier, Error, Identification, S12}
use Rattle.reply.specs.Codes.{number_of}
use Rattle.reply.specs.Texts.{three_digits, text_of}
use Rattle.uart.specs.declared.Inbox.{Inbox}
use Rattle.uart.specs.Inbox.{closed, came, received}

pub received-append : (x : Inbox) (a b : List ℕ) → received x (a ++ b) ≡ received (received x a) b
unfolding received
received-append x [] b = refl
received-append x (byte ∷ a) b = received-append (came x byte) a b

pub next-byte : (x y : Inbox) (text : List ℕ) (at : ℕ) → at < length text → y ≡ came x (get_or text at 0) → received y (drop (at + 1) text) ≡ received x (drop at text)
unfolding received
next-byte x y text at l e = rw (e, add-one, drop-cons text at 0 l)

pub no_more : (x : Inbox) (text : List ℕ) (at : ℕ) → length text ≤ at → received x (drop at text) ≡ x
unfolding received
no_more x text at l = rw (drop_of_length-le text {i = at} l)

-- CR and LF
pub closes : (x : Inbox) → received x (13 ∷ 10 ∷ []) ≡ came (came x 13) 10
unfolding received
closes x = refl

-- no line has more than 26 bytes
pub short-line : (code : Code) (s12 : ℕ) → length (text_of (number_of code) s12) ≤ 32
unfolding text_of three_digits
short-line Ok s12 = lit≤ tt
short-line Connect s12 = lit≤ tt
short-line NoCarrier s12 = lit≤ tt
short-line Error s12 = lit≤ tt
short-line Identification s12 = lit≤ tt
short-line S12 s12 = lit≤ tt

-- a line that the writer of replies put at the front of 32 bytes
module _ (code : Code) (s12 number n : ℕ) (was left : List ℕ) (known : number ≡ number_of code) (room : length was ≡ 32)
    (length-is : n ≡ put_length (text_of number s12) (length was)) (left_is : left ≡ put (text_of number s12) was) where
  fits : length (text_of number s12) ≤ length was
  fits = rw (known, room) (short-line code s12)

  n-is : n ≡ length (text_of number s12)
  unfolding put_length
  n-is = length-is ∙ rw (le-leb _ _ fits)

  whole : left ≡ text_of number s12 ++ drop (length (text_of number s12)) was
  whole = left_is ∙ put-fits (text_of number s12) was fits

  pub line-within : n ≤ length left
  line-within = rw (n-is, whole, length-append) (omega arith)

  pub line-text : take n left ≡ text_of number s12
  line-text = rw (n-is, whole) (take-append_seam (text_of number s12) _)

  pub line-comes : (x y z w : Inbox) → y ≡ received x (take n left) → z ≡ came y 13 → w ≡ came z 10 → w ≡ received x (closed code s12)
  line-comes x y z w e f g =
      let text : y ≡ received x (text_of (number_of code) s12) = e ∙ ap (received x) (line-text ∙ ap (λ (k : ℕ). text_of k s12) known) in
      g ∙ ap (λ (i : Inbox). came i 10) (f ∙ ap (λ (i : Inbox). came i 13) text)
      ∙ sym (closes (received x (text_of (number_of code) s12)))
      ∙ sym (received-append x (text_of (number_of code) s12) (13 ∷ 10 ∷ []))
