-- 01, "Keys and frames": a frame. 01, "Stages": the four payloads, whose frames are the bits of Ci, CmJm, Cj and Training.
use Prim.Native.Char.{code}
use Rattle.std.specs.Prelude.{ℕ, ◌/◌, ◌%◌, ◌^◌, Bool, true, false, List, [], ◌∷◌, ◌++◌, eqb, get_or, replicate}

-- bit i of a byte, from 0, the lowest
abbrev pub data_bit : ℕ → ℕ → Bool
data_bit b i = eqb (b / 2 ^ i % 2) 1

-- a frame is ten bits: 0, eight data bits lowest first, 1
unfoldable pub frame_of : ℕ → List Bool
frame_of b =
    false
    ∷ data_bit b 0
    ∷ data_bit b 1
    ∷ data_bit b 2
    ∷ data_bit b 3
    ∷ data_bit b 4
    ∷ data_bit b 5
    ∷ data_bit b 6
    ∷ data_bit b 7
    ∷ true
    ∷ []

-- the frames of a payload, joined
unfoldable pub framed : List ℕ → List Bool
framed [] = []
framed (b ∷ bs) = frame_of b ++ framed bs

-- bit k of a payload's frames, from 0; where there is none it reads as 1
unfoldable pub bit_at : List ℕ → ℕ → Bool
bit_at payload k = get_or (framed payload) k true

-- CICICI
abbrev pub ci_payload : List ℕ
ci_payload = code "C" ∷ code "I" ∷ code "C" ∷ code "I" ∷ code "C" ∷ code "I" ∷ []

-- CMJMCMJM
abbrev pub cm_jm_payload : List ℕ
cm_jm_payload = code "C" ∷ code "M" ∷ code "J" ∷ code "M" ∷ code "C" ∷ code "M" ∷ code "J" ∷ code "M" ∷ []

-- CJCJCJ
abbrev pub cj_payload : List ℕ
cj_payload = code "C" ∷ code "J" ∷ code "C" ∷ code "J" ∷ code "C" ∷ code "J" ∷ []

-- thirty bytes 55 hexadecimal
abbrev pub training_payload : List ℕ
training_payload = replicate 30 0x55
