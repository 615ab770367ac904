-- A frame and its byte are each other's, both ways: computed once for all bytes and once for all eight data bits. Assumes nothing.
use Prim.Native.Nat.{ℕ, zero, suc, ◌<◌}
use native.Mathlib.Omega.{arith}
use mathlib.Core.Bool.{Bool, beq, true, false, ◌&&◌, and-eq-true_iff}
use mathlib.Core.List.{List, [], ◌∷◌}
use mathlib.Core.Path.{◌≡◌, refl, sym, ap, ◌∙◌}
use borrow.Author.Tests.{eqb-true}
use lib.Dec.{eqb}
use lib.ListN.{length, take, drop}
use lib.Pointwise.{pointwise, pointwise_decides}
use Rattle.std.specs.Cmp.{booleans_Decides}
use Rattle.std.proofs.lemmas.Bool.{agree_below, agree_below_at}
use Rattle.frame.specs.Frame.{frame_of, data_bit}
use Rattle.std.specs.Prelude.{Result, Ok, fold}
use Rattle.refusal.specs.declared.Refusal.{Refusal}
use Rattle.deframe.specs.Unframe.{data_of, unframe_of, unframe_by, bit_of}
use Rattle.deframe.specs.Read.{shifted}

-- ---- tests of all bytes and of all bits
abbrev always : ℕ → Bool
always n = true

-- every list of n bits
abbrev all_bits : ℕ → (List Bool → Bool) → Bool
all_bits zero f = f []
all_bits (suc n) f = all_bits n (λ l. f (false ∷ l)) && all_bits n (λ l. f (true ∷ l))

of-bits : (n : ℕ) (f : List Bool → Bool) → all_bits n f ≡ true → (l : List Bool) → length l ≡ n → f l ≡ true
of-bits zero f e [] h = e
of-bits zero f e (b ∷ l) h = absurd (omega (arith, h))
of-bits (suc n) f e [] h = absurd (omega (arith, h))
of-bits (suc n) f e (false ∷ l) h = of-bits n (λ l. f (false ∷ l)) ((and-eq-true_iff (all_bits n (λ l. f (false ∷ l))) (all_bits n (λ l. f (true ∷ l)))).0 e).0 l (omega (arith, h))
of-bits (suc n) f e (true ∷ l) h = of-bits n (λ l. f (true ∷ l)) ((and-eq-true_iff (all_bits n (λ l. f (false ∷ l))) (all_bits n (λ l. f (true ∷ l)))).0 e).1 l (omega (arith, h))

-- ---- the byte of a frame
abbrev back_to : ℕ → Bool
back_to b = eqb (data_of (frame_of b)) b

all-bytes : agree_below back_to always 256 ≡ true
unfolding data_of frame_of
all-bytes = refl

pub data-of-frame : (b : ℕ) → b < 256 → data_of (frame_of b) ≡ b
data-of-frame b h = eqb-true (data_of (frame_of b)) b (agree_below_at back_to always 256 b all-bytes h)

pub frame-unframed : (b : ℕ) → b < 256 → unframe_of (frame_of b) ≡ Ok b
unfolding unframe_of frame_of
frame-unframed b h = ap Ok (data-of-frame b h)

-- ---- the frame of a byte
-- ten bits that are a frame are the one of their byte
abbrev fits : (start stop : Bool) → List Bool → Bool
fits true stop bits = true
fits false false bits = true
fits false true bits = pointwise beq (frame_of (data_of bits)) bits

abbrev frames_back : List Bool → Bool
frames_back bits = fits (bit_of bits 0) (bit_of bits 9) bits

all-ten : all_bits 10 frames_back ≡ true
unfolding data_of frame_of
all-ten = refl

pub unframed-frame : (bits : List Bool) → length bits ≡ 10 → (b : ℕ) → unframe_of bits ≡ Ok b → frame_of b ≡ bits
unfolding unframe_of
unframed-frame bits ten b e = go (bit_of bits 0) (bit_of bits 9) (of-bits 10 frames_back all-ten bits ten) e
  where
    go : (start stop : Bool) → fits start stop bits ≡ true → unframe_by start stop (data_of bits) ≡ Ok b → frame_of b ≡ bits
    go true stop f e = cc
    go false false f e = cc
    go false true f e = (let same_byte : b ≡ data_of bits = cc in ap frame_of same_byte) ∙ (pointwise_decides booleans_Decides (frame_of (data_of bits)) bits).0 f

-- both, of an answer
pub both_ways : (bits : List Bool) → length bits ≡ 10 → (r : Result ℕ Refusal) → r ≡ unframe_of bits
    → (r ≡ unframe_of bits) × (((b : ℕ) → b < 256 → bits ≡ frame_of b → r ≡ Ok b) × ((b : ℕ) → r ≡ Ok b → frame_of b ≡ bits))
both_ways bits ten r e =
    (e, (λ b h f. e ∙ ap unframe_of f ∙ frame-unframed b h, λ b f. unframed-frame bits ten b (sym e ∙ f)))

-- ---- the data bits of ten, shifted in one after another
abbrev shifts_in : List Bool → Bool
shifts_in bits = eqb (fold shifted 0 (take 8 (drop 1 bits))) (data_of bits)

all-shift-in : all_bits 10 shifts_in ≡ true
unfolding data_of
all-shift-in = refl

pub data-shifted-in : (bits : List Bool) → length bits ≡ 10 → fold shifted 0 (take 8 (drop 1 bits)) ≡ data_of bits
data-shifted-in bits ten = eqb-true _ (data_of bits) (of-bits 10 shifts_in all-shift-in bits ten)

-- a frame's own
pub shifted-data : (b : ℕ) → b < 256
    → shifted (shifted (shifted (shifted (shifted (shifted (shifted (shifted 0 (data_bit b 0)) (data_bit b 1)) (data_bit b 2)) (data_bit b 3)) (data_bit b 4)) (data_bit b 5)) (data_bit b 6)) (data_bit b 7) ≡ b
unfolding frame_of
shifted-data b h = data-shifted-in (frame_of b) refl ∙ data-of-frame b h
