-- A string is its bytes typed singly: on a sound set no byte is declined, and with an outbox of four or more the length changes nothing. Then what
-- holds at each turn of the loop that types them, the outbox lent on from its first unused byte. By induction on the bytes. Assumes nothing.
use Prim.Native.Nat.{ℕ, suc, ◌+◌, ◌-◌, ◌*◌, ◌≤◌, ◌<◌}
use native.Mathlib.Numerals.{add-one}
use native.Mathlib.Omega.{arith}
use mathlib.Core.Path.{◌≡◌, refl, sym, ap, ◌∙◌}
use mathlib.Core.Bool.{Bool, true, false, ◌||◌, true≢false}
use mathlib.Core.List.{List, [], ◌∷◌, ◌++◌, append_assoc, append-nil}
use lib.ListN.{length, take, drop, set, get_or, length-drop, length-append, length-set, drop_of_length-le}
use lib.Seq.{length-take-le, take-suc, take_at, drop_at, take_all, drop-drop, drop-cons, set_at}
use lib.Dec.{ltb}
use Rattle.std.specs.Prelude.{Result, Ok, Err}
use Rattle.refusal.specs.declared.Refusal.{Refusal}
use borrow.Author.Tests.{le-leb, ltb-false}
use Rattle.ascii.specs.Front.{put}
use Rattle.reply.specs.Codes.{first_of, second_of}
use Rattle.at.specs.declared.Fed.{Fed}
use Rattle.at.specs.Processor as processor
use Rattle.at.specs.At.{sent, after_atdt}
use Rattle.at.proofs.Outbox.{at-most-four, sent-count, sent-first, room-alike}
use Rattle.control.specs.Control.{heard}
use Rattle.set.specs.declared.Set.{Set}
use Rattle.set.specs.declared.Typed.{Typed}
use Rattle.set.specs.Refusals.{Checked, cause_of_string, accepted, checked}
use Rattle.set.specs.Sound.{sound}
use Rattle.set.specs.Set.{s12_of, obeyed, typing_cause, byte_typed, typed, outbox, set_typed, reply_typed, sent_typed}
use Rattle.set.specs.String.{four, set_by, put_by, sent_by, codes_by, string_cause, at_front}
use Rattle.set.proofs.Ranges.{ranges}
use Rattle.set.proofs.Soundness.{byte-sound}

-- ---- a byte on a sound set
module _ (s : Set) (ok : sound s ≡ true) (byte : ℕ) (carrier : Bool) where
  good : processor.sound s.processor ≡ true
  good = (ranges s ok).processor

  abbrev typed_of : Fed → Typed
  typed_of fed = record { set = obeyed s fed.outcome (after_atdt fed); reply = fed.outcome.reply; sent = fed.sent }

  pub taken-alike : (n : ℕ) → 4 ≤ n → byte_typed s byte carrier n ≡ byte_typed s byte carrier 4
  taken-alike n l = ap typed_of (room-alike s.processor good byte (heard s.session carrier) n l)

  -- with an outbox of four bytes or more it is taken
  typed-taken : (n : ℕ) → 4 ≤ n → typed s byte carrier n ≡ Ok (byte_typed s byte carrier n)
  unfolding typed typing_cause
  typed-taken n l = rw (ok, le-leb 4 n l)

  -- and the length changes nothing
  pub typed-alike : (n : ℕ) → 4 ≤ n → typed s byte carrier n ≡ typed s byte carrier 4
  typed-alike n l = typed-taken n l ∙ ap Ok (taken-alike n l) ∙ sym (typed-taken 4 (omega arith))

  typed-four : typed s byte carrier 4 ≡ Ok (byte_typed s byte carrier 4)
  typed-four = typed-taken 4 (omega arith)

  pub typed-sound : sound (set_typed s (typed s byte carrier 4)) ≡ true
  typed-sound = rw typed-four (byte-sound s ok byte carrier 4)

  count-sent : (byte_typed s byte carrier 4).sent ≡ length (sent s.processor byte)
  count-sent = sent-count s.processor byte (heard s.session carrier) 4 good (omega arith)

  outbox-four : outbox s byte four ≡ put (sent s.processor byte) four
  unfolding outbox typing_cause accepted
  outbox-four = rw ok

  put-sent : put_by s byte carrier ≡ sent s.processor byte
  put-sent =
      rw (typed-four, count-sent, outbox-four, sent-first s.processor byte four good (omega arith))
      (take_at (sent s.processor byte) _ (length (sent s.processor byte)) refl)

  sent-few : length (sent s.processor byte) ≤ 4
  sent-few = at-most-four s.processor byte good

-- ---- a string, and a byte more
module _ (carrier : Bool) where
  pub set_by-sound : (s : Set) (bytes : List ℕ) → sound s ≡ true → sound (set_by s bytes carrier) ≡ true
  unfolding set_by
  set_by-sound s [] ok = ok
  set_by-sound s (byte ∷ bytes) ok = set_by-sound (set_typed s (typed s byte carrier 4)) bytes (typed-sound s ok byte carrier)

  -- nothing is declined half way
  pub never-half-way : (s : Set) (bytes : List ℕ) (byte : ℕ) → sound s ≡ true → checked (typed (set_by s bytes carrier) byte carrier 4) ≡ Ok tt
  never-half-way s bytes byte ok = ap checked (typed-four (set_by s bytes carrier) (set_by-sound s bytes ok) byte carrier)

  set_by-more : (s : Set) (bytes : List ℕ) (byte : ℕ) → set_by s (bytes ++ (byte ∷ [])) carrier ≡ set_typed (set_by s bytes carrier) (typed (set_by s bytes carrier) byte carrier 4)
  unfolding set_by
  set_by-more s [] byte = refl
  set_by-more s (b ∷ bytes) byte = set_by-more (set_typed s (typed s b carrier 4)) bytes byte

  sent_by-more : (s : Set) (bytes : List ℕ) (byte : ℕ)
      → sent_by s (bytes ++ (byte ∷ [])) carrier ≡ sent_by s bytes carrier ++ put_by (set_by s bytes carrier) byte carrier
  unfolding set_by sent_by
  sent_by-more s [] byte = append-nil (put_by s byte carrier)
  sent_by-more s (b ∷ bytes) byte = rw (sent_by-more (set_typed s (typed s b carrier 4)) bytes byte) (sym (append_assoc (put_by s b carrier) _ _))

  abbrev codes_of : Set → Result Typed Refusal → List ℕ
  codes_of s t = first_of (reply_typed t) ∷ second_of (reply_typed t) ∷ s12_of (set_typed s t) ∷ []

  codes_by-more : (s : Set) (bytes : List ℕ) (byte : ℕ)
      → codes_by s (bytes ++ (byte ∷ [])) carrier ≡ codes_by s bytes carrier ++ codes_of (set_by s bytes carrier) (typed (set_by s bytes carrier) byte carrier 4)
  unfolding set_by codes_by
  codes_by-more s [] byte = refl
  codes_by-more s (b ∷ bytes) byte =
      ap (λ (rest : List ℕ). first_of (reply_typed (typed s b carrier 4)) ∷ second_of (reply_typed (typed s b carrier 4)) ∷ s12_of (set_typed s (typed s b carrier 4)) ∷ rest) (codes_by-more (set_typed s (typed s b carrier 4)) bytes byte)

  pub codes-length : (s : Set) (bytes : List ℕ) → length (codes_by s bytes carrier) ≡ 3 * length bytes
  unfolding codes_by
  codes-length s [] = refl
  codes-length s (b ∷ bytes) = omega (arith, codes-length (set_typed s (typed s b carrier 4)) bytes)

-- ---- what an accepted string has: a sound set, at most 256 bytes, and room for all that they may send and answer
pub record Fits (s : Set) (n room places : ℕ) : Type 0 where
  pub sound : sound s ≡ true
  pub few : n ≤ 256
  pub outbox : 4 * n ≤ room
  pub codes : 3 * n ≤ places

pub fits : (s : Set) (n room places : ℕ) → accepted (string_cause s n room places) ≡ true → Fits s n room places
unfolding string_cause accepted
fits s n room places e = go (sound s) (ltb 256 n) (ltb room (4 * n)) (ltb places (3 * n)) refl refl refl refl e
  where
    go : (ok long short short₂ : Bool) → sound s ≡ ok → ltb 256 n ≡ long → ltb room (4 * n) ≡ short → ltb places (3 * n) ≡ short₂
        → accepted (cause_of_string ok long (short || short₂)) ≡ true → Fits s n room places
    go false long short short₂ o l r p e = absurd (true≢false (sym e))
    go true true short short₂ o l r p e = absurd (true≢false (sym e))
    go true false true short₂ o l r p e = absurd (true≢false (sym e))
    go true false false true o l r p e = absurd (true≢false (sym e))
    go true false false false o l r p e = record { sound = o; few = ltb-false _ _ l; outbox = ltb-false _ _ r; codes = ltb-false _ _ p }

-- ---- at each turn: i bytes of the string are typed, and they put `at` bytes into the outbox
pub record Typing (s₀ : Set) (bytes : List ℕ) (carrier : Bool) (out₀ codes₀ : List ℕ) (s : Set) (out codes : List ℕ) (at i : ℕ) : Type 0 where
  pub within : i ≤ length bytes
  pub set : s ≡ set_by s₀ (take i bytes) carrier
  pub sound : sound s ≡ true
  pub count : at ≡ length (sent_by s₀ (take i bytes) carrier)
  pub few : at ≤ 4 * i
  pub wrote : out ≡ sent_by s₀ (take i bytes) carrier ++ drop at out₀
  pub out-long : length out ≡ length out₀
  pub coded : codes ≡ codes_by s₀ (take i bytes) carrier ++ drop (3 * i) codes₀
  pub codes-long : length codes ≡ length codes₀

module _ (s₀ : Set) (bytes : List ℕ) (carrier : Bool) (out₀ codes₀ : List ℕ) where
  pub typing-start : sound s₀ ≡ true → Typing s₀ bytes carrier out₀ codes₀ s₀ out₀ codes₀ 0 0
  unfolding set_by sent_by codes_by
  typing-start ok =
      record { within = omega arith; set = refl; sound = ok; count = refl; few = omega arith; wrote = refl; out-long = refl; coded = refl; codes-long = refl }

  front_long : (front was : List ℕ) (n : ℕ) → length front ≡ n → n ≤ length was → length (front ++ drop n was) ≡ length was
  front_long front was n e l = simp (length-append, length-drop) (omega arith)

  two-set : (front rest : List ℕ) (n x y f g : ℕ) → length front ≡ n
      → set (set (front ++ (x ∷ y ∷ rest)) n f) (n + 1) g ≡ (front ++ (f ∷ g ∷ [])) ++ rest
  two-set front rest n x y f g e =
      let one : set (front ++ (x ∷ y ∷ rest)) n f ≡ (front ++ (f ∷ [])) ++ (y ∷ rest) = set_at front x (y ∷ rest) f n e ∙ sym (append_assoc front (f ∷ []) (y ∷ rest)) in
      let long : length (front ++ (f ∷ [])) ≡ n + 1 = length-append front (f ∷ []) ∙ ap (λ (k : ℕ). k + 1) e in
      rw one (set_at (front ++ (f ∷ [])) y rest g (n + 1) long ∙ append_assoc front (f ∷ []) (g ∷ rest) ∙ sym (append_assoc front (f ∷ g ∷ []) rest))

  three-set : (front rest : List ℕ) (n x y z f g h : ℕ) → length front ≡ n
      → set (set (set (front ++ (x ∷ y ∷ z ∷ rest)) n f) (n + 1) g) (n + 2) h ≡ (front ++ (f ∷ g ∷ h ∷ [])) ++ rest
  three-set front rest n x y z f g h e =
      let long : length (front ++ (f ∷ g ∷ [])) ≡ n + 2 = length-append front (f ∷ g ∷ []) ∙ ap (λ (k : ℕ). k + 2) e in
      rw (two-set front (z ∷ rest) n x y f g e)
      (set_at (front ++ (f ∷ g ∷ [])) z rest h (n + 2) long ∙ append_assoc front (f ∷ g ∷ []) (h ∷ rest) ∙ sym (append_assoc front (f ∷ g ∷ h ∷ []) rest))

  module _ (s : Set) (out codes : List ℕ) (at i : ℕ) (T : Typing s₀ bytes carrier out₀ codes₀ s out codes at i)
      (more : i < length bytes) (room : 4 * length bytes ≤ length out₀) (places : 3 * length bytes ≤ length codes₀) where
    abbrev byte : ℕ
    byte = get_or bytes i 0

    -- the part of the outbox that the byte is lent
    abbrev part : List ℕ
    part = take (length out - at) (drop at out)

    one_more : take (i + 1) bytes ≡ take i bytes ++ (byte ∷ [])
    one_more = rw add-one (take-suc bytes i 0 more)

    left-of : drop at out ≡ drop at out₀
    left-of = ap (drop at) T.wrote ∙ drop_at (sent_by s₀ (take i bytes) carrier) (drop at out₀) at (sym T.count)

    part-whole : part ≡ drop at out
    part-whole = take_all (length out - at) (drop at out) (omega (arith, length-drop at out))

    enough : 4 ≤ length part
    enough = rw part-whole (omega (arith, length-drop at out, T.few, T.out-long))

    abbrev here : List ℕ
    here = sent s.processor byte

    sent-all : sent_by s₀ (take (i + 1) bytes) carrier ≡ sent_by s₀ (take i bytes) carrier ++ here
    sent-all =
        ap (λ (l : List ℕ). sent_by s₀ l carrier) one_more
        ∙ sent_by-more carrier s₀ (take i bytes) byte
        ∙ ap (λ (x : Set). sent_by s₀ (take i bytes) carrier ++ put_by x byte carrier) (sym T.set)
        ∙ ap (λ (l : List ℕ). sent_by s₀ (take i bytes) carrier ++ l) (put-sent s T.sound byte carrier)

    set_all : set_by s₀ (take (i + 1) bytes) carrier ≡ (set_typed s (typed s byte carrier 4))
    set_all =
        ap (λ (l : List ℕ). set_by s₀ l carrier) one_more
        ∙ set_by-more carrier s₀ (take i bytes) byte
        ∙ ap (λ (x : Set). (set_typed x (typed x byte carrier 4))) (sym T.set)

    codes_all_lem : codes_by s₀ (take (i + 1) bytes) carrier ≡ codes_by s₀ (take i bytes) carrier ++ codes_of carrier s (typed s byte carrier 4)
    codes_all_lem =
        ap (λ (l : List ℕ). codes_by s₀ l carrier) one_more
        ∙ codes_by-more carrier s₀ (take i bytes) byte
        ∙ ap (λ (x : Set). codes_by s₀ (take i bytes) carrier ++ codes_of carrier x (typed x byte carrier 4)) (sym T.set)

    codes-so-far : length (codes_by s₀ (take i bytes) carrier) ≡ 3 * i
    codes-so-far = codes-length carrier s₀ (take i bytes) ∙ ap (λ (n : ℕ). 3 * n) (length-take-le i bytes T.within)

    abbrev place : ℕ → ℕ
    place n = get_or codes₀ n 0

    three-left : drop (3 * i) codes₀ ≡ place (3 * i) ∷ place (suc (3 * i)) ∷ place (suc (suc (3 * i))) ∷ drop (3 * (i + 1)) codes₀
    three-left =
        drop-cons codes₀ (3 * i) 0 (omega arith)
        ∙ ap (λ (l : List ℕ). place (3 * i) ∷ l) (drop-cons codes₀ (suc (3 * i)) 0 (omega arith))
        ∙ ap (λ (l : List ℕ). place (3 * i) ∷ place (suc (3 * i)) ∷ l) (drop-cons codes₀ (suc (suc (3 * i))) 0 (omega arith))
        ∙ ap (λ (n : ℕ). place (3 * i) ∷ place (suc (3 * i)) ∷ place (suc (suc (3 * i))) ∷ drop n codes₀) (next i)
      where
        next : (i : ℕ) → suc (suc (suc (3 * i))) ≡ 3 * (i + 1)
        next i = omega arith

    pub typing-again : (t : Typed) (ys : List ℕ) (f g h : ℕ)
        → t ≡ byte_typed s byte carrier (length part)
        → ys ≡ put here part
        → f ≡ first_of t.reply
        → g ≡ second_of t.reply
        → h ≡ s12_of t.set
        → Typing s₀ bytes carrier out₀ codes₀ t.set (take at out ++ (ys ++ drop (length out - at) (drop at out))) (set (set (set codes (3 * i) f) (3 * i + 1) g) (3 * i + 2) h) (at + t.sent) (i + 1)
    typing-again t ys f g h e w ef eg eh =
        let told : t ≡ byte_typed s byte carrier 4 = e ∙ taken-alike s T.sound byte carrier (length part) enough in
        let single : Ok t ≡ typed s byte carrier 4 = ap Ok told ∙ sym (typed-four s T.sound byte carrier) in
        let count : t.sent ≡ length here = ap (λ (x : Typed). x.sent) told ∙ count-sent s T.sound byte carrier in
        let few : length here ≤ 4 = sent-few s T.sound byte carrier in
        let taken : take at out ≡ sent_by s₀ (take i bytes) carrier = ap (take at) T.wrote ∙ take_at (sent_by s₀ (take i bytes) carrier) (drop at out₀) at (sym T.count) in
        let none : drop (length out - at) (drop at out) ≡ [] = drop_of_length-le (drop at out) {i = length out - at} (omega (arith, length-drop at out)) in
        let long : 4 ≤ length (drop at out₀) = rw left-of at (rw part-whole at enough) in
        let wrote : ys ≡ at_front here (drop at out₀) = w ∙ ap (put here) (part-whole ∙ left-of) ∙ sent-first s.processor byte (drop at out₀) (good s T.sound byte carrier) long in
        let whole : take at out ++ (ys ++ drop (length out - at) (drop at out)) ≡ sent_by s₀ (take (i + 1) bytes) carrier ++ drop (at + t.sent) out₀ =
        rw (taken, none, wrote, append-nil, drop-drop, sent-all, append_assoc, count) in
        let now-coded : codes_by s₀ (take i bytes) carrier ++ (f ∷ g ∷ h ∷ []) ≡ codes_by s₀ (take (i + 1) bytes) carrier =
        rw (ef, eg, eh) (ap (λ (x : Result Typed Refusal). codes_by s₀ (take i bytes) carrier ++ codes_of carrier s x) single ∙ sym codes_all_lem) in
        let counted : at + t.sent ≡ length (sent_by s₀ (take (i + 1) bytes) carrier) = rw (sent-all, length-append, count) (ap (λ (n : ℕ). n + length here) T.count) in
        record {
          within = omega arith;
          set = ap (set_typed s) single ∙ sym set_all;
          sound = rw told (byte-sound s T.sound byte carrier 4);
          count = counted;
          few = omega (arith, T.few, count, few);
          wrote = whole;
          out-long = ap length whole ∙ front_long (sent_by s₀ (take (i + 1) bytes) carrier) out₀ (at + t.sent) (sym counted) (omega (arith, T.few, count, few));
          coded =
              ap (λ (l : List ℕ). set (set (set l (3 * i) f) (3 * i + 1) g) (3 * i + 2) h) (T.coded ∙ ap (λ (l : List ℕ). codes_by s₀ (take i bytes) carrier ++ l) three-left)
              ∙ three-set (codes_by s₀ (take i bytes) carrier) (drop (3 * (i + 1)) codes₀) (3 * i) _ _ _ f g h codes-so-far
              ∙ ap (λ (l : List ℕ). l ++ drop (3 * (i + 1)) codes₀) now-coded;
          codes-long = length-set (set (set codes (3 * i) f) (3 * i + 1) g) (3 * i + 2) h ∙ length-set (set codes (3 * i) f) (3 * i + 1) g ∙ length-set codes (3 * i) f ∙ T.codes-long;
        }

  -- all are typed
  pub record Ended (s : Set) (out codes : List ℕ) (at : ℕ) : Type 0 where
    pub set : s ≡ set_by s₀ bytes carrier
    pub count : at ≡ length (sent_by s₀ bytes carrier)
    pub wrote : out ≡ at_front (sent_by s₀ bytes carrier) out₀
    pub coded : codes ≡ at_front (codes_by s₀ bytes carrier) codes₀

  pub typing-end : (s : Set) (out codes : List ℕ) (at i : ℕ) → Typing s₀ bytes carrier out₀ codes₀ s out codes at i → length bytes ≤ i → Ended s out codes at
  typing-end s out codes at i T over =
      let e : i ≡ length bytes = omega (arith, T.within) in
      let whole : take i bytes ≡ bytes = take_all i bytes over in
      let count : at ≡ length (sent_by s₀ bytes carrier) = T.count ∙ ap (λ (l : List ℕ). length (sent_by s₀ l carrier)) whole in
      record {
        set = T.set ∙ rw whole;
        count = count;
        wrote = T.wrote ∙ rw (whole, count);
        coded = T.coded ∙ rw (whole, e, codes-length);
      }
