-- The law of the reader of lines: what a program makes of the numbers that are told at the end of any line is what the line's fields ask for (`numbers-asked`,
-- and `letter-asked` where it begins with a letter). From where the reader stands it comes to the fields that are left, byte by byte (`ends`). Assumes nothing.
use Prim.Native.Nat.{ℕ, zero, suc, ◌+◌, ◌-◌, ◌*◌, ◌^◌, ◌<◌, ◌≤◌, min, zero-le}
use mathlib.Core.Bool.{Bool, true, false, and-eq-true_iff}
use mathlib.Core.List.{List, [], ◌∷◌, ◌++◌, append_assoc, foldl, map}
use mathlib.Core.Path.{◌≡◌, refl, ap, sym, ◌∙◌}
use native.Mathlib.Omega.{arith}
use borrow.Author.Tests.{leb-true, leb-false, ltb-true, ltb-false, lt-leb, le-leb, lt-ltb, le-ltb, ne_eqb}
use lib.Dec.{leb, ltb}
use lib.ListN.{length, take, set, get_or, length-append}
use lib.Seq.{length-take-le}
use Rattle.std.proofs.lemmas.List.{take_more_set}
use Rattle.std.specs.Prelude.{Option, None, Some, option_map}
use Rattle.std.specs.Option.{option_zip}
use Rattle.console.specs.declared.fields.Place.{Place}
use Rattle.console.specs.declared.fields.Place.TheVariants.{Letter, Empty, Digit}
use Rattle.console.specs.Lines.{is, Fields, cut, fields_of, is_digit, all_digits, value_from, number_if, number_of, numbers_of, also, of_numbers, of_letter, numbers_line, letter_line}
use Rattle.console.specs.Fields.{in_64, in_64_if, least, Read, grown, last_grown, first_if, next_if, pushed, pushed_at, letter_if, behind_if, numbers, numbered, lettered, read_of, by_told, asked_by_letter, by_told_numbers, asked_by_numbers}

-- the last of the numbers, by its place
grown_last : (k : ℕ) (ns : List (Option ℕ)) (d : ℕ) → k < length ns → take (suc k) (set ns k (grown (get_or ns k None) d)) ≡ last_grown (take (suc k) ns) d
unfolding last_grown
grown_last k [] d h = absurd (omega arith)
grown_last zero (n ∷ ns) d h = refl
grown_last (suc k) (n ∷ []) d h = absurd (omega arith)
grown_last (suc k) (n ∷ m ∷ ns) d h = ap (λ (l : List (Option ℕ)). n ∷ l) (grown_last k (m ∷ ns) d (omega arith))

pub grown-at : (count : ℕ) (ns : List (Option ℕ)) (d : ℕ) → 0 < count → count ≤ length ns → take count (set ns (count - 1) (grown (get_or ns (count - 1) None) d)) ≡ last_grown (take count ns) d
grown-at zero ns d p h = absurd (omega arith)
grown-at (suc k) ns d p h = let e : suc k - 1 ≡ k = omega arith in rw e (grown_last k ns d (omega arith))

-- one number more
pub one-more : (count : ℕ) (ns : List (Option ℕ)) (n : Option ℕ) → count < length ns → take (count + 1) (set ns count n) ≡ take count ns ++ n ∷ []
one-more count ns n h = take_more_set ns count n h

-- and how many there are
pub counted : (room count : ℕ) (ns : List (Option ℕ)) → count ≤ room → length ns ≡ room → length (take count ns) ≡ count
counted room count ns h e = length-take-le count ns (omega arith)

-- ---- the law of the reader: at the end of a line its numbers are those of the line's fields, from the field where it stands on
number_from : ℕ → List ℕ → Option ℕ
number_from v f = number_if (all_digits f) (value_from v f)

joined_if : Bool → List (Option ℕ) → Option (List (Option ℕ))
joined_if true ns = Some ns
joined_if false ns = None

-- numbers before the others
joined : (room : ℕ) → List (Option ℕ) → Option (List ℕ) → Option (List (Option ℕ))
joined room vs None = None
joined room vs (Some ns) = joined_if (leb (length vs + length ns) room) (vs ++ map in_64 ns)

joined-also : (room : ℕ) (vs : List (Option ℕ)) (v : ℕ) (m : Option (List ℕ)) → joined room (vs ++ in_64 v ∷ []) m ≡ joined room vs (also (Some v) m)
unfolding joined also
joined-also room vs v None = refl
joined-also room vs v (Some ns) =
    let h = length-append vs (in_64 v ∷ []) in
    let e : length (vs ++ in_64 v ∷ []) + length ns ≡ length vs + length (v ∷ ns) = omega arith in
    rw (e, append_assoc)

full : (room : ℕ) (vs : List (Option ℕ)) (n : Option ℕ) (m : Option (List ℕ)) → room ≤ length vs → None ≡ joined room vs (also n m)
unfolding joined also joined_if
full room vs None m h = refl
full room vs (Some n) None h = refl
full room vs (Some n) (Some ns) h = rw (lt-leb (length vs + length (n ∷ ns)) room (omega arith))

within : (n : ℕ) → n < 2 ^ 64 → in_64 n ≡ Some n
unfolding in_64 in_64_if
within n h = rw (lt-ltb n (2 ^ 64) h)

grown-told : (v d : ℕ) → grown (in_64 v) d ≡ in_64 (v * 10 + d)
unfolding grown in_64 in_64_if
grown-told v d = go (ltb v (2 ^ 64)) refl
  where
    go : (t : Bool) → ltb v (2 ^ 64) ≡ t → grown (in_64_if t v) d ≡ in_64 (v * 10 + d)
    go true e = refl
    go false e = let h : 2 ^ 64 ≤ v = ltb-false v (2 ^ 64) e in rw (le-ltb (v * 10 + d) (2 ^ 64) (omega arith))

last-told : (vs : List (Option ℕ)) (v d : ℕ) → last_grown (vs ++ in_64 v ∷ []) d ≡ vs ++ in_64 (v * 10 + d) ∷ []
unfolding last_grown
last-told [] v d = rw (grown-told v d)
last-told (n ∷ []) v d = rw (grown-told v d)
last-told (n ∷ m ∷ vs) v d = ap (λ (l : List (Option ℕ)). n ∷ l) (last-told (m ∷ vs) v d)

digit-no_comma : (b : ℕ) → is_digit b ≡ true → is "," b ≡ false
digit-no_comma b e = let h : 48 ≤ b = leb-true 48 b ((and-eq-true_iff (leb 48 b) _).0 e).0 in ne_eqb b 44 (λ q. absurd (omega arith))

digit-small : (b : ℕ) → is_digit b ≡ true → b - 48 < 2 ^ 64
digit-small b e = let h : b ≤ 57 = leb-true b 57 ((and-eq-true_iff (leb 48 b) _).0 e).1 in omega arith

number-starts : (b : ℕ) (f : List ℕ) → is_digit b ≡ true → number_of (b ∷ f) ≡ number_from (b - 48) f
unfolding number_of number_from all_digits value_from
number-starts b f e = let z : 0 * 10 + (b - 48) ≡ b - 48 = omega arith in rw e (ap (λ (v : ℕ). number_if (all_digits f) (value_from v f)) z)

number-stops : (v : ℕ) → number_from v [] ≡ Some v
unfolding number_from all_digits value_from number_if
number-stops v = refl

number-goes : (v b : ℕ) (f : List ℕ) → is_digit b ≡ true → number_from v (b ∷ f) ≡ number_from (v * 10 + (b - 48)) f
unfolding number_from all_digits value_from
number-goes v b f e = rw e

-- what the reader answers at a line's end
ended : Read → Option (Option ℕ × List (Option ℕ))
ended r = option_map (λ (ns : List (Option ℕ)). (r.letter, ns)) (numbers r)

with_letter : Option ℕ → Option (List (Option ℕ)) → Option (Option ℕ × List (Option ℕ))
with_letter letter ns = option_map (λ (l : List (Option ℕ)). (letter, l)) ns

module _ (room : ℕ) (letter : Option ℕ) where
  abbrev at : Option Place → List (Option ℕ) → Read
  at place ns = record { letter = letter; numbers = ns; place = place }

  spoiled : (l : List ℕ) (ns : List (Option ℕ)) → ended (foldl (pushed room) (at None ns) l) ≡ None
  unfolding ended pushed pushed_at
  spoiled [] ns = refl
  spoiled (b ∷ l) ns = spoiled l ns

  record Ends (l : List ℕ) : Type 0 where
    empty : (vs : List (Option ℕ)) → length vs ≤ room → ended (foldl (pushed room) (at (Some Empty) vs) l) ≡ with_letter letter (joined room vs (numbers_of ((fields_of l).first ∷ (fields_of l).later)))
    number : (vs : List (Option ℕ)) (v : ℕ) → length vs + 1 ≤ room → ended (foldl (pushed room) (at (Some Digit) (vs ++ in_64 v ∷ [])) l) ≡ with_letter letter (joined room vs (also (number_from v (fields_of l).first) (numbers_of (fields_of l).later)))

  no_number : (t : Bool) (b : ℕ) (f : Fields) (vs : List (Option ℕ)) → is_digit b ≡ false → None ≡ with_letter letter (joined room vs (numbers_of ((cut t b f).first ∷ (cut t b f).later)))
  unfolding with_letter joined numbers_of number_of number_if all_digits also cut
  no_number true b f vs e = refl
  no_number false b f vs e = rw e

  not_on : (v : ℕ) (t : Bool) (b : ℕ) (f : Fields) (vs : List (Option ℕ)) → t ≡ false → is_digit b ≡ false → None ≡ with_letter letter (joined room vs (also (number_from v (cut t b f).first) (numbers_of (cut t b f).later)))
  unfolding with_letter joined number_from number_if all_digits also cut
  not_on v t b f vs c e = rw (c, e)

  -- a byte where a number begins
  begun : (b : ℕ) (l : List ℕ) (vs : List (Option ℕ)) → Ends l → length vs ≤ room → (digit : Bool) → is_digit b ≡ digit
      → ended (foldl (pushed room) (first_if digit (ltb (length vs) room) (at (Some Empty) vs) (b - 48)) l) ≡ with_letter letter (joined room vs (numbers_of ((cut (is "," b) b (fields_of l)).first ∷ (cut (is "," b) b (fields_of l)).later)))
  unfolding first_if cut numbers_of with_letter
  begun b l vs ih h false e = spoiled l vs ∙ no_number (is "," b) b (fields_of l) vs e
  begun b l vs ih h true e = rw (digit-no_comma b e) (go (ltb (length vs) room) refl)
    where
      go : (t : Bool) → ltb (length vs) room ≡ t → ended (foldl (pushed room) (first_if true t (at (Some Empty) vs) (b - 48)) l) ≡ with_letter letter (joined room vs (also (number_of (b ∷ (fields_of l).first)) (numbers_of (fields_of l).later)))
      go true q = let k : length vs < room = ltb-true _ _ q in
          rw (number-starts b (fields_of l).first e, ← (within (b - 48) (digit-small b e))) (ih.number vs (b - 48) (omega arith))
      go false q = spoiled l vs ∙ ap (with_letter letter) (full room vs (number_of (b ∷ (fields_of l).first)) (numbers_of (fields_of l).later) (ltb-false _ _ q))

  -- a byte in a number
  gone_on : (b : ℕ) (l : List ℕ) (vs : List (Option ℕ)) (v : ℕ) → Ends l → length vs + 1 ≤ room → (comma digit : Bool) → is "," b ≡ comma → is_digit b ≡ digit
      → ended (foldl (pushed room) (next_if comma digit (at (Some Digit) (vs ++ in_64 v ∷ [])) (b - 48)) l) ≡ with_letter letter (joined room vs (also (number_from v (cut (is "," b) b (fields_of l)).first) (numbers_of (cut (is "," b) b (fields_of l)).later)))
  unfolding next_if cut numbers_of
  gone_on b l vs v ih h true digit c e = let k = length-append vs (in_64 v ∷ []) in
      rw (c, number-stops v) (ih.empty (vs ++ in_64 v ∷ []) (omega arith) ∙ ap (with_letter letter) (joined-also room vs v (also (number_of (fields_of l).first) (numbers_of (fields_of l).later))))
  gone_on b l vs v ih h false true c e = rw (c, last-told vs v (b - 48), number-goes v b (fields_of l).first e) (ih.number vs (v * 10 + (b - 48)) h)
  gone_on b l vs v ih h false false c e = spoiled l (vs ++ in_64 v ∷ []) ∙ not_on v (is "," b) b (fields_of l) vs c e

  ends : (l : List ℕ) → Ends l
  unfolding pushed pushed_at ended with_letter numbers_of number_of also fields_of number_from joined joined_if all_digits value_from number_if
  ends [] = record {
    empty = λ vs h. refl;
    number = λ vs v h. rw (le-leb (length vs + 1) room h);
  }
  ends (b ∷ l) = record {
    empty = λ vs h. begun b l vs (ends l) h (is_digit b) refl;
    number = λ vs v h. gone_on b l vs v (ends l) h (is "," b) (is_digit b) refl refl;
  }

-- ---- a whole line
-- all numbers of a line, as they are told: at most `room` of them
told_if : Bool → List ℕ → Option (List (Option ℕ))
told_if true ns = Some (map in_64 ns)
told_if false ns = None

told : (room : ℕ) → Option (List ℕ) → Option (List (Option ℕ))
told room None = None
told room (Some ns) = told_if (leb (length ns) room) ns

joined-told : (room : ℕ) (m : Option (List ℕ)) → joined room [] m ≡ told room m
unfolding joined joined_if told told_if
joined-told room None = refl
joined-told room (Some ns) =
    let z : length {A = Option ℕ} [] + length ns ≡ length ns = omega arith in
    ap (λ (k : ℕ). joined_if (leb k room) (map in_64 ns)) z ∙ go (leb (length ns) room)
  where
    go : (t : Bool) → joined_if t (map in_64 ns) ≡ told_if t ns
    go true = refl
    go false = refl

-- the numbers, by what the reader answers
second : Option (Option ℕ × List (Option ℕ)) → Option (List (Option ℕ))
second None = None
second (Some (letter, ns)) = Some ns

by-second : (r : Read) → numbers r ≡ second (ended r)
unfolding ended second
by-second r = go (numbers r)
  where
    go : (ns : Option (List (Option ℕ))) → ns ≡ second (option_map (λ (x : List (Option ℕ)). (r.letter, x)) ns)
    go None = refl
    go (Some ns) = refl

second-with : (letter : Option ℕ) (ns : Option (List (Option ℕ))) → second (with_letter letter ns) ≡ ns
unfolding second with_letter
second-with letter None = refl
second-with letter (Some ns) = refl

numbered-told : (room : ℕ) (line : List ℕ) → numbers (read_of room numbered line) ≡ told room (numbers_of ((fields_of line).first ∷ (fields_of line).later))
numbered-told room line =
    by-second (read_of room numbered line)
    ∙ ap second ((ends room None line).empty [] zero-le)
    ∙ second-with None (joined room [] (numbers_of ((fields_of line).first ∷ (fields_of line).later)))
    ∙ joined-told room (numbers_of ((fields_of line).first ∷ (fields_of line).later))

letter_told : (room : ℕ) → List ℕ → List (List ℕ) → Option (ℕ × List (Option ℕ))
letter_told room [] fs = None
letter_told room (letter ∷ []) fs = option_zip (Some letter) (told room (numbers_of fs))
letter_told room (letter ∷ b ∷ bs) fs = None

-- the letter and the numbers, by what the reader answers
zipped : Option (Option ℕ × List (Option ℕ)) → Option (ℕ × List (Option ℕ))
zipped None = None
zipped (Some (None, ns)) = None
zipped (Some (Some letter, ns)) = Some (letter, ns)

by-zipped : (r : Read) → option_zip r.letter (numbers r) ≡ zipped (ended r)
unfolding ended zipped
by-zipped r = go r.letter (numbers r)
  where
    go : (l : Option ℕ) (ns : Option (List (Option ℕ))) → option_zip l ns ≡ zipped (option_map (λ (x : List (Option ℕ)). (l, x)) ns)
    go None None = refl
    go None (Some ns) = refl
    go (Some letter) None = refl
    go (Some letter) (Some ns) = refl

zipped_with : (letter : ℕ) (ns : Option (List (Option ℕ))) → zipped (with_letter (Some letter) ns) ≡ option_zip (Some letter) ns
unfolding zipped with_letter
zipped_with letter None = refl
zipped_with letter (Some ns) = refl

module _ (room : ℕ) where
  -- behind the letter
  behind : (letter : ℕ) (l : List ℕ) → zipped (ended (foldl (pushed room) (at room (Some letter) (Some Letter) []) l)) ≡ letter_told room (letter ∷ (fields_of l).first) (fields_of l).later
  unfolding pushed pushed_at behind_if cut fields_of zipped ended letter_told told told_if numbers_of
  behind letter [] = rw (le-leb 0 room zero-le)
  behind letter (b ∷ l) = go (is "," b)
    where
      go : (t : Bool) → zipped (ended (foldl (pushed room) (behind_if t (at room (Some letter) (Some Letter) [])) l)) ≡ letter_told room (letter ∷ (cut t b (fields_of l)).first) (cut t b (fields_of l)).later
      go true =
          ap zipped ((ends room (Some letter) l).empty [] zero-le)
          ∙ zipped_with letter (joined room [] (numbers_of ((fields_of l).first ∷ (fields_of l).later)))
          ∙ ap (option_zip (Some letter)) (joined-told room (numbers_of ((fields_of l).first ∷ (fields_of l).later)))
      go false = ap zipped (spoiled room (Some letter) l [])

  from_start : (line : List ℕ) → zipped (ended (foldl (pushed room) lettered line)) ≡ letter_told room (fields_of line).first (fields_of line).later
  unfolding pushed pushed_at letter_if cut fields_of zipped ended letter_told
  from_start [] = refl
  from_start (b ∷ l) = go (is "," b)
    where
      go : (t : Bool) → zipped (ended (foldl (pushed room) (letter_if t lettered b) l)) ≡ letter_told room (cut t b (fields_of l)).first (cut t b (fields_of l)).later
      go true = ap zipped (spoiled room None l [])
      go false = behind b l

lettered-told : (room : ℕ) (line : List ℕ) → option_zip (read_of room lettered line).letter (numbers (read_of room lettered line)) ≡ letter_told room (fields_of line).first (fields_of line).later
lettered-told room line = by-zipped (read_of room lettered line) ∙ from_start room line

-- ---- so what a line asks for is what its reader is told to, where no answer is lost by how numbers are told
pub record Told {A : Type 0} (room : ℕ) (asks : List ℕ → Option A) : Type 0 where
  pub same : (ns : List ℕ) → asks (map least (map in_64 ns)) ≡ asks ns
  pub many : (ns : List ℕ) → room < length ns → asks ns ≡ None

module _ {A : Type 0} (room : ℕ) where
  by-numbers : (asks : List ℕ → Option A) → Told room asks → (m : Option (List ℕ)) → by_told_numbers asks (told room m) ≡ of_numbers asks m
  unfolding told told_if
  by-numbers asks t None = refl
  by-numbers asks t (Some ns) = go (leb (length ns) room) refl
    where
      go : (few : Bool) → leb (length ns) room ≡ few → by_told_numbers asks (told_if few ns) ≡ asks ns
      go true e = t.same ns
      go false e = sym (t.many ns (leb-false (length ns) room e))

  pub numbers-asked : (asks : List ℕ → Option A) → Told room asks → (line : List ℕ) → asked_by_numbers asks (read_of room numbered line) ≡ numbers_line asks line
  numbers-asked asks t line =
      ap (by_told_numbers asks) (numbered-told room line)
      ∙ by-numbers asks t (numbers_of ((fields_of line).first ∷ (fields_of line).later))

  by-zip : (asks : ℕ → List ℕ → Option A) (letter : ℕ) (ns : Option (List (Option ℕ))) → by_told asks (option_zip (Some letter) ns) ≡ by_told_numbers (asks letter) ns
  by-zip asks letter None = refl
  by-zip asks letter (Some ns) = refl

  by-letter : (asks : ℕ → List ℕ → Option A) → ((letter : ℕ) → Told room (asks letter)) → (first : List ℕ) (later : List (List ℕ)) → by_told asks (letter_told room first later) ≡ of_letter asks first later
  unfolding letter_told
  by-letter asks t [] later = refl
  by-letter asks t (letter ∷ []) later = by-zip asks letter (told room (numbers_of later)) ∙ by-numbers (asks letter) (t letter) (numbers_of later)
  by-letter asks t (letter ∷ b ∷ bs) later = refl

  pub letter-asked : (asks : ℕ → List ℕ → Option A) → ((letter : ℕ) → Told room (asks letter)) → (line : List ℕ) → asked_by_letter asks (read_of room lettered line) ≡ letter_line asks line
  letter-asked asks t line = ap (by_told asks) (lettered-told room line) ∙ by-letter asks t (fields_of line).first (fields_of line).later

-- ---- a number as it is told: no answer is lost by that, if it is the same for all numbers beyond a limit
told-within : (n : ℕ) → n < 2 ^ 64 → least (in_64 n) ≡ n
unfolding in_64 in_64_if
told-within n h = rw (lt-ltb n (2 ^ 64) h)

told-past : (n : ℕ) → 2 ^ 64 ≤ n → least (in_64 n) ≡ 2 ^ 64
unfolding in_64 in_64_if
told-past n h = rw (le-ltb n (2 ^ 64) h)

pub limited : {A : Type 0} (none : A) (answer : ℕ → A) (limit : ℕ) → limit < 2 ^ 64 → ((n : ℕ) → limit < n → answer n ≡ none) → (n : ℕ) → answer (least (in_64 n)) ≡ answer n
limited none answer limit small past n = go (ltb n (2 ^ 64)) refl
  where
    go : (t : Bool) → ltb n (2 ^ 64) ≡ t → answer (least (in_64 n)) ≡ answer n
    go true e = ap answer (told-within n (ltb-true n (2 ^ 64) e))
    go false e =
        let h : 2 ^ 64 ≤ n = ltb-false n (2 ^ 64) e in
        ap answer (told-past n h) ∙ past (2 ^ 64) small ∙ sym (past n (omega arith))

pub saturated : (n : ℕ) → min (least (in_64 n)) (2 ^ 32 - 1) ≡ min n (2 ^ 32 - 1)
saturated n = limited (2 ^ 32 - 1) (λ (k : ℕ). min k (2 ^ 32 - 1)) (2 ^ 32 - 1) (omega arith) (λ k h. omega arith) n
