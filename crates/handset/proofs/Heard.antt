-- Samples that sound alike, written one after another over a buffer; a phase after many steps, at once. By induction on the samples. Assumes nothing.
use Rattle.std.proofs.Common.{◌≡◌, ℕ, zero, suc, ◌+◌, ◌*◌, ◌%◌, ◌^◌, ◌<◌, ◌≤◌, List, [], ◌∷◌, ◌++◌, length, drop, set, replicate, ℤ, pos, sym, refl, ap, ◌∙◌, subst, append_assoc, append-nil, add-zero, add-one, le_antisymm, arith, drop_of_length-le, drop-cons}
use native.Mathlib.Nat.{mod-add-mod}
use lib.Seq.{set_at}
use Rattle.std.specs.Prelude.{None}
use Rattle.handset.specs.Sound.{Sound}
use Rattle.handset.specs.Tone.{phase_after}
use Rattle.handset.specs.Sound.{heard}
use Rattle.handset.specs.Runs.{heard_from}

pub phase-is : (step n : ℕ) → phase_after step n ≡ n * step % 2 ^ 32
unfolding phase_after
phase-is step zero = sym (ap (λ (m : ℕ). m % 2 ^ 32) (none step))
  where
    none : (s : ℕ) → 0 * s ≡ 0
    none s = omega arith
phase-is step (suc n) =
    ap (λ (p : ℕ). (p + step) % 2 ^ 32) (phase-is step n) ∙ mod-add-mod (n * step) (2 ^ 32) step ∙ ap (λ (m : ℕ). m % 2 ^ 32) (sum n step)
  where
    sum : (n s : ℕ) → n * s + s ≡ suc n * s
    sum n s = omega arith

-- ---- a list of samples
pub heard-length : (sound : Sound) (r steps n : ℕ) → length (heard_from sound r steps n) ≡ n
unfolding heard_from
heard-length sound r steps zero = refl
heard-length sound r steps (suc n) = ap suc (heard-length sound r (suc steps) n)

heard-suc : (sound : Sound) (r steps n : ℕ) → heard_from sound r steps (suc n) ≡ heard_from sound r steps n ++ (heard sound r (steps + n) ∷ [])
unfolding heard_from
heard-suc sound r steps zero = ap (λ (k : ℕ). heard sound r k ∷ []) (sym (add-zero steps))
heard-suc sound r steps (suc n) =
    ap (λ (l : List ℤ). heard sound r steps ∷ l)
    (heard-suc sound r (suc steps) n ∙ ap (λ (k : ℕ). heard_from sound r (suc steps) n ++ (heard sound r k ∷ [])) (turn steps n))
  where
    turn : (a n : ℕ) → suc a + n ≡ a + suc n
    turn a n = omega arith

-- silence is the same at every rate and after any steps
pub silence : (r steps n : ℕ) → heard_from None r steps n ≡ heard_from None 0 0 n
unfolding heard_from
silence r steps n = same r steps 0 n
  where
    same : (r a b n : ℕ) → heard_from None r a n ≡ heard_from None 0 b n
    same r a b zero = refl
    same r a b (suc n) = ap (λ (l : List ℤ). pos 0 ∷ l) (same r (suc a) (suc b) n)

pub zeros : (n : ℕ) → heard_from None 0 0 n ≡ replicate n (pos 0)
unfolding heard_from
zeros zero = refl
zeros (suc n) = ap (λ (l : List ℤ). pos 0 ∷ l) (silence 0 1 n ∙ zeros n)

-- ---- a buffer of which the first i places are written
pub record Written (sound : Sound) (r steps : ℕ) (was out : List ℤ) (i : ℕ) : Type 0 where
  pub count : i ≤ length was
  pub buffer : out ≡ heard_from sound r steps i ++ drop i was

module _ (sound : Sound) (r steps : ℕ) (was : List ℤ) where
  pub start : Written sound r steps was was 0
  unfolding heard_from
  start = record { count = omega arith; buffer = refl }

  pub again : (out : List ℤ) (i : ℕ) (v : ℤ) → Written sound r steps was out i → i < length was → v ≡ heard sound r (steps + i)
      → Written sound r steps was (set out i v) (i + 1)
  again out i v W l e = record {
    count = omega arith;
    buffer =
        rw (W.buffer, add-one, drop-cons was i (pos 0), e, heard-suc, append_assoc)
        (set_at (heard_from sound r steps i) _ _ _ i (heard-length sound r steps i));
  }

  pub full : (out : List ℤ) (i : ℕ) → Written sound r steps was out i → length was ≤ i → out ≡ heard_from sound r steps (length was)
  full out i W l =
      let e : i ≡ length was = le_antisymm W.count l in
      subst (λ (n : ℕ). out ≡ heard_from sound r steps n) e (W.buffer ∙ rw (drop_of_length-le was {i = i} l, append-nil))
