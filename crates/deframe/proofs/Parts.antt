-- The reader over a list that is cut in two: what is taken of the first part is taken of the whole, and a part that is taken whole is read on from its
-- place (`read-on`). By induction on the list, a bit at a time. Assumes nothing.
use Prim.Native.Nat.{ℕ, zero, suc, ◌+◌, ◌-◌, ◌≤◌}
use native.Mathlib.Nat.{not-suc-le-zero, le_of_suc-le-suc}
use native.Mathlib.Omega.{arith}
use mathlib.Core.Bool.{Bool}
use mathlib.Core.List.{List, [], ◌∷◌, ◌++◌, append_assoc}
use mathlib.Core.Path.{◌≡◌, refl, sym, ap, ◌∙◌}
use lib.ListN.{length, take}
use Rattle.deframe.specs.declared.Deframer.{Deframer}
use Rattle.std.specs.Prelude.{Option, None, Some}
use Rattle.deframe.specs.Read.{Read, step_of, one_bit, onward, read_of}

-- no more bits are taken than there are
few-step : (marks : List Bool) (p q : Deframer) (room : ℕ) (byte : Option ℕ) → ((r : ℕ) (q : Deframer) → (read_of r q marks).taken ≤ length marks)
    → (onward room p q byte (λ r q. read_of r q marks)).taken ≤ suc (length marks)
few-step marks p q room None ih = omega (arith, ih room q)
few-step marks p q zero (Some b) ih = omega arith
few-step marks p q (suc room) (Some b) ih = omega (arith, ih room q)

pub taken-few : (room : ℕ) (p : Deframer) (marks : List Bool) → (read_of room p marks).taken ≤ length marks
unfolding read_of
taken-few room p [] = omega arith
taken-few room p (mark ∷ marks) = few-step marks p (step_of p mark).place room (step_of p mark).byte (λ r q. taken-few r q marks)

-- with a place for each bit all are taken
all-step : (marks : List Bool) (p q : Deframer) (room : ℕ) (byte : Option ℕ) → suc (length marks) ≤ room
    → ((r : ℕ) (q : Deframer) → length marks ≤ r → (read_of r q marks).taken ≡ length marks)
    → (onward room p q byte (λ r q. read_of r q marks)).taken ≡ suc (length marks)
all-step marks p q room None l ih = omega (arith, ih room q (omega arith))
all-step marks p q zero (Some b) l ih = absurd (not-suc-le-zero l)
all-step marks p q (suc room) (Some b) l ih = omega (arith, ih room q (le_of_suc-le-suc l))

pub taken-all : (room : ℕ) (p : Deframer) (marks : List Bool) → length marks ≤ room → (read_of room p marks).taken ≡ length marks
unfolding read_of
taken-all room p [] h = refl
taken-all room p (mark ∷ marks) h = all-step marks p (step_of p mark).place room (step_of p mark).byte h (λ r q. taken-all r q marks)

-- the bits that were taken, again, with room for their bytes
abbrev again : (room more : ℕ) (p : Deframer) (marks : List Bool) → Read
again room more p marks = read_of more p (take (read_of room p marks).taken marks)

again-step : (mark : Bool) (marks : List Bool) (p : Deframer) (room more : ℕ) (byte : Option ℕ) → (step_of p mark).byte ≡ byte
    → length (onward room p (step_of p mark).place byte (λ r q. read_of r q marks)).bytes ≤ more
    → ((r m : ℕ) (q : Deframer) → length (read_of r q marks).bytes ≤ m → again r m q marks ≡ read_of r q marks)
    → read_of more p (take (onward room p (step_of p mark).place byte (λ r q. read_of r q marks)).taken (mark ∷ marks)) ≡ onward room p (step_of p mark).place byte (λ r q. read_of r q marks)
unfolding read_of
again-step mark marks p room more None e l ih = rw e (ap (one_bit []) (ih room more (step_of p mark).place l))
again-step mark marks p zero more (Some b) e l ih = refl
again-step mark marks p (suc room) zero (Some b) e l ih = absurd (not-suc-le-zero l)
again-step mark marks p (suc room) (suc more) (Some b) e l ih = rw e (ap (one_bit (b ∷ [])) (ih room more (step_of p mark).place (le_of_suc-le-suc l)))

pub taken-again : (room more : ℕ) (p : Deframer) (marks : List Bool) → length (read_of room p marks).bytes ≤ more → again room more p marks ≡ read_of room p marks
unfolding read_of
taken-again room more p [] h = refl
taken-again room more p (mark ∷ marks) h = again-step mark marks p room more (step_of p mark).byte refl h (λ r m q. taken-again r m q marks)

-- ---- a part that is taken whole, and then the rest
-- so many bits that give these bytes, and then the rest
abbrev pub ahead : ℕ → List ℕ → Read → Read
ahead n xs r = record { place = r.place; taken = n + r.taken; bytes = xs ++ r.bytes }

abbrev pub told : Deframer → List ℕ → ℕ → Read
told p xs n = record { place = p; taken = n; bytes = xs }

pub none_ahead : (r : Read) → r ≡ ahead 0 [] r
none_ahead r = ap (told r.place r.bytes) (omega arith)

one-ahead : (xs ys : List ℕ) (n : ℕ) (r : Read) → one_bit xs (ahead n ys r) ≡ ahead (suc n) (xs ++ ys) r
one-ahead xs ys n r =
    ap (told r.place (xs ++ (ys ++ r.bytes))) (omega arith)
    ∙ ap (λ (l : List ℕ). told r.place l (suc n + r.taken)) (sym (append_assoc xs ys r.bytes))

abbrev afterwards : (room : ℕ) → Read → (n : ℕ) (rest : List Bool) → Read
afterwards room r n rest = ahead n r.bytes (read_of (room - length r.bytes) r.place rest)

on_step : (marks rest : List Bool) (p q : Deframer) (room : ℕ) (byte : Option ℕ) → (onward room p q byte (λ r q. read_of r q marks)).taken ≡ suc (length marks)
    → ((r : ℕ) (q : Deframer) → (read_of r q marks).taken ≡ length marks → read_of r q (marks ++ rest) ≡ afterwards r (read_of r q marks) (length marks) rest)
    → onward room p q byte (λ r q. read_of r q (marks ++ rest)) ≡ afterwards room (onward room p q byte (λ r q. read_of r q marks)) (suc (length marks)) rest
on_step marks rest p q room None t ih =
    ap (one_bit []) (ih room q (omega (arith, t)))
    ∙ one-ahead [] (read_of room q marks).bytes (length marks) (read_of (room - length (read_of room q marks).bytes) (read_of room q marks).place rest)
on_step marks rest p q zero (Some b) t ih = absurd (omega (arith, t))
on_step marks rest p q (suc room) (Some b) t ih =
    ap (one_bit (b ∷ [])) (ih room q (omega (arith, t)))
    ∙ one-ahead (b ∷ []) (read_of room q marks).bytes (length marks) (read_of (room - length (read_of room q marks).bytes) (read_of room q marks).place rest)
    ∙ ap (λ (k : ℕ). ahead (suc (length marks)) (b ∷ (read_of room q marks).bytes) (read_of k (read_of room q marks).place rest)) (omega arith)

pub read-on : (room : ℕ) (p : Deframer) (marks rest : List Bool) → (read_of room p marks).taken ≡ length marks
    → read_of room p (marks ++ rest) ≡ afterwards room (read_of room p marks) (length marks) rest
unfolding read_of
read-on room p [] rest e = none_ahead (read_of room p rest) ∙ ap (λ (n : ℕ). ahead 0 [] (read_of n p rest)) (omega arith)
read-on room p (mark ∷ marks) rest e = on_step marks rest p (step_of p mark).place room (step_of p mark).byte e (λ r q. read-on r q marks rest)
