-- Samples that follow each other: two calls joined are one long call, a run is what its sound gives, and what begins where no call sounds any more is
-- all one. By induction on the samples. Assumes nothing.
use Rattle.std.proofs.Common.{◌≡◌, ℕ, zero, suc, ◌+◌, ◌-◌, ◌<◌, ◌≤◌, Bool, true, false, cond, ltb, List, ◌∷◌, ◌++◌, length, take, drop, ℤ, pos, sym, refl, ap, ◌∙◌, subst, append_assoc, append-nil, le_trans, le_of_eq, add-zero, add-suc, suc-add, zero-add, arith, length-append, length-drop, drop_of_length-le, length-take-le, drop-drop, take_at, drop_at, ltb-false}
use Rattle.schedule.proofs.Lengths.{click-range, dial-tone-range, dialling-range, ringback-range}
use Rattle.keys.specs.Keys.{digits_of}
use Rattle.stage.specs.declared.Stage.TheVariants as stage
use Rattle.passage.specs.Lengths.{samples_before}
use Rattle.std.specs.Prelude.{None}
use Rattle.handset.specs.Sound.{Sound}
use Rattle.handset.specs.declared.Run.{Run}
use Rattle.handset.specs.Sound.{steps_after, heard, sample_after, samples_after}
use Rattle.handset.specs.Call.{EarpieceIs}
use Rattle.handset.specs.Runs.{IsRun, heard_from, passed_of}
use Rattle.handset.proofs.Stages.{silent-after}
use Rattle.handset.proofs.Heard.{silence}

-- ---- two calls joined are one long call
pub joined : (digits : List ℕ) (r pass a b : ℕ) → samples_after digits r pass a ++ samples_after digits r (pass + a) b ≡ samples_after digits r pass (a + b)
unfolding samples_after
joined digits r pass zero b = ap (λ (p : ℕ). samples_after digits r p b) (add-zero pass) ∙ ap (samples_after digits r pass) (sym (zero-add b))
joined digits r pass (suc a) b =
    ap (λ (l : List ℤ). sample_after digits r pass ∷ l)
    (ap (λ (p : ℕ). samples_after digits r (suc pass) a ++ samples_after digits r p b) (sym (turn pass a)) ∙ joined digits r (suc pass) a b)
    ∙ ap (samples_after digits r pass) (sym (suc-add a b))
  where
    turn : (p a : ℕ) → suc p + a ≡ p + suc a
    turn p a = omega arith

-- so of two calls that were not declined, the second with as many passed over as the first has behind it
pub calls-joined : (bytes : List ℕ) (r pass : ℕ) (was is was' is' : List ℤ) → EarpieceIs bytes r pass was is 0 → EarpieceIs bytes r (pass + length was) was' is' 0
    → is ++ is' ≡ samples_after (digits_of bytes) r pass (length was + length was')
calls-joined bytes r pass was is was' is' f g = rw (f.buffer, g.buffer) (joined (digits_of bytes) r pass (length was) (length was'))

pub samples-length : (digits : List ℕ) (r pass n : ℕ) → length (samples_after digits r pass n) ≡ n
unfolding samples_after
samples-length digits r pass zero = refl
samples-length digits r pass (suc n) = ap suc (samples-length digits r (suc pass) n)

-- ---- a run
module _ (digits : List ℕ) (r k left : ℕ) (run : Run) (R : IsRun digits r k left run) where
  from-there : (j n : ℕ) → j + n ≤ run.count → samples_after digits r (k + j) n ≡ heard_from run.sound r (run.steps + j) n
  unfolding samples_after sample_after heard_from
  from-there j zero h = refl
  from-there j (suc n) h =
      let l : j < run.count = omega arith in
      ap (λ (x : ℤ). x ∷ samples_after digits r (suc (k + j)) n) (ap (λ (s : Sound). heard s r (steps_after digits r (k + j))) (R.sound j l) ∙ R.heard-alike j l)
      ∙ ap (λ (l : List ℤ). heard run.sound r (run.steps + j) ∷ l)
      (ap (λ (p : ℕ). samples_after digits r p n) (sym (add-suc k j)) ∙ from-there (suc j) n (omega arith) ∙ ap (λ (s : ℕ). heard_from run.sound r s n) (add-suc run.steps j))

  pub run-samples : samples_after digits r k run.count ≡ heard_from run.sound r run.steps run.count
  run-samples =
      ap (λ (p : ℕ). samples_after digits r p run.count) (sym (add-zero k))
      ∙ from-there 0 run.count (le_of_eq (zero-add run.count))
      ∙ ap (λ (s : ℕ). heard_from run.sound r s run.count) (add-zero run.steps)

-- ---- a buffer of which the first places are written
pub record Filled (digits : List ℕ) (r from : ℕ) (was out : List ℤ) (at : ℕ) : Type 0 where
  pub count : at ≤ length was
  pub buffer : out ≡ samples_after digits r from at ++ drop at was

module _ (digits : List ℕ) (r from : ℕ) (was : List ℤ) where
  pub start : Filled digits r from was was 0
  unfolding samples_after
  start = record { count = omega arith; buffer = refl }

  pub same_length : (out : List ℤ) (at : ℕ) → Filled digits r from was out at → length out ≡ length was
  same_length out at F = ap length F.buffer ∙ simp (length-append, samples-length, length-drop) (left (length was) at F.count)
    where
      left : (n i : ℕ) → i ≤ n → i + (n - i) ≡ n
      left n i h = omega arith

  -- a part was lent for a run, and has come back
  module _ (out : List ℤ) (at : ℕ) (run : Run) (end : ℕ) (is : List ℤ) (F : Filled digits r from was out at)
      (R : IsRun digits r (from + at) (length out - at) run) (e : end ≡ at + run.count)
      (w : is ≡ heard_from run.sound r run.steps (length (take (end - at) (drop at out)))) where
    fits : end ≤ length out
    fits = omega (arith, R.room.fits, F.count, same_length out at F)

    lent : length (take (end - at) (drop at out)) ≡ run.count
    lent = length-take-le (end - at) (drop at out) (rw length-drop (part at end (length out) fits)) ∙ omega arith
      where
        part : (a e n : ℕ) → e ≤ n → e - a ≤ n - a
        part a e n h = omega arith

    written : is ≡ samples_after digits r (from + at) run.count
    written = w ∙ ap (heard_from run.sound r run.steps) lent ∙ sym (run-samples digits r (from + at) (length out - at) run R)

    pub again : Filled digits r from was (take at out ++ (is ++ drop (end - at) (drop at out))) end
    again = record {
      count = le_trans fits (le_of_eq (same_length out at F));
      buffer =
          ap (λ (l : List ℤ). take at l ++ (is ++ drop (end - at) (drop at l))) F.buffer
          ∙ rw (front, rest, drop-drop, back, written) (sym (append_assoc (samples_after digits r from at) (samples_after digits r (from + at) run.count) (drop end was)) ∙ ap (λ (l : List ℤ). l ++ drop end was) (joined digits r from at run.count ∙ ap (samples_after digits r from) (sym e)));
    }
      where
        front : take at (samples_after digits r from at ++ drop at was) ≡ samples_after digits r from at
        front = take_at (samples_after digits r from at) (drop at was) at (samples-length digits r from at)

        rest : drop at (samples_after digits r from at ++ drop at was) ≡ drop at was
        rest = drop_at (samples_after digits r from at) (drop at was) at (samples-length digits r from at)

        back : at + (end - at) ≡ end
        back = omega arith

  pub full : (out : List ℤ) (at : ℕ) → Filled digits r from was out at → length out ≤ at → out ≡ samples_after digits r from (length was)
  full out at F l =
      let e : at ≡ length was = same at (length out) (length was) F.count l (same_length out at F) in
      subst (λ (n : ℕ). out ≡ samples_after digits r from n) e (F.buffer ∙ rw (drop_of_length-le was {i = at} (past at (length was) e), append-nil))
    where
      same : (i m n : ℕ) → i ≤ n → m ≤ i → m ≡ n → i ≡ n
      same i m n h k e = omega arith

      past : (i n : ℕ) → i ≡ n → n ≤ i
      past i n e = omega arith

-- ---- where no call sounds any more
module _ (digits : List ℕ) (r : ℕ) (lo : 8000 ≤ r) (hi : r ≤ 192000) (few : length digits ≤ 76) where
  quiet : samples_before stage.Ci r (length digits) ≤ 0x1000_0000
  unfolding samples_before
  quiet =
      let a = click-range r lo hi in
      let b = dial-tone-range r lo hi in
      let c = dialling-range r lo hi (length digits) few in
      let e = ringback-range r lo hi in
      omega arith

  -- 0 past T: from Ringback's end on
  pub silence-after : (pass n : ℕ) → samples_before stage.Ci r (length digits) ≤ pass → samples_after digits r pass n ≡ heard_from None 0 0 n
  unfolding samples_after sample_after heard_from
  silence-after pass zero h = refl
  silence-after pass (suc n) h =
      ap (λ (x : ℤ). x ∷ samples_after digits r (suc pass) n) (ap (λ (s : Sound). heard s r (steps_after digits r pass)) (silent-after digits r lo hi few pass h))
      ∙ ap (λ (l : List ℤ). pos 0 ∷ l) (silence-after (suc pass) n (omega arith) ∙ sym (silence 0 1 n))

  pub passed_is : (pass n : ℕ) → samples_after digits r (passed_of pass) n ≡ samples_after digits r pass n
  passed_is pass n = go (ltb pass 0x1000_0000) refl
    where
      go : (b : Bool) → ltb pass 0x1000_0000 ≡ b → samples_after digits r (cond b pass 0x1000_0000) n ≡ samples_after digits r pass n
      go true e = refl
      go false e = silence-after 0x1000_0000 n quiet ∙ sym (silence-after pass n (le_trans quiet (ltb-false pass 0x1000_0000 e)))
