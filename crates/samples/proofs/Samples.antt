-- The bytes of samples, one sample after another, in a buffer or on a page. Assumes nothing.
use Rattle.std.proofs.Common.{◌≡◌, ℕ, ◌+◌, ◌*◌, ◌<◌, ◌≤◌, List, [], ◌∷◌, ◌++◌, length, get_or, take, sym, ap, ◌∙◌, arith, append-nil, length-append, take_all}
use Rattle.std.specs.List.{flat_map}
use Rattle.std.proofs.lemmas.List.{take_more}
use Rattle.std.proofs.lemmas.List.Folds.{length-flat_map-take}
use Rattle.std.proofs.lemmas.Grind.{flat_map-append}

pub each-long : {S : Type 0} (bytes : S → List ℕ) {k : ℕ} → ((x : S) → length (bytes x) ≡ k) → (xs : List S) → length (flat_map bytes xs) ≡ length xs * k
each-long bytes h [] = omega arith
each-long bytes h (x ∷ xs) = rw (length-append, h x, each-long bytes h xs) (omega arith)

each-more : {S : Type 0} (bytes : S → List ℕ) (xs : List S) (i : ℕ) (d : S) → i < length xs → flat_map bytes (take (i + 1) xs) ≡ flat_map bytes (take i xs) ++ bytes (get_or xs i d)
each-more bytes xs i d h = rw (take_more xs i d h, flat_map-append) (ap (λ l. flat_map bytes (take i xs) ++ l) (append-nil _))

-- after i samples, what was put is their bytes, where one text behind another is one
pub record Written {P S : Type 0} (add : P → List ℕ → P) (bytes : S → List ℕ) (was : P) (samples : List S) (page : P) (i : ℕ) : Type 0 where
  pub joins : (s t : List ℕ) → length s + length t ≤ length (flat_map bytes samples) → add (add was s) t ≡ add was (s ++ t)
  pub added : page ≡ add was (flat_map bytes (take i samples))

module _ {P S : Type 0} {add : P → List ℕ → P} {bytes : S → List ℕ} {was : P} {samples : List S} where
  pub written_none : ((s t : List ℕ) → length s + length t ≤ length (flat_map bytes samples) → add (add was s) t ≡ add was (s ++ t)) → add was [] ≡ was → Written add bytes was samples was 0
  written_none joins nothing = record { joins = joins; added = sym nothing }

  pub written-more : {page next : P} {i : ℕ} (d : S) → i < length samples → Written add bytes was samples page i → next ≡ add page (bytes (get_or samples i d)) → Written add bytes was samples next (i + 1)
  written-more {page} {next} {i} d l k e =
      let n = length-flat_map-take bytes samples i d l in
      record {
        joins = k.joins;
        added = e ∙ (ap (λ (p : P). add p (bytes (get_or samples i d))) k.added ∙ (k.joins (flat_map bytes (take i samples)) (bytes (get_or samples i d)) (omega arith) ∙ ap (add was) (sym (each-more bytes samples i d l))));
      }

  pub written_all : {page : P} {i : ℕ} → length samples ≤ i → Written add bytes was samples page i → page ≡ add was (flat_map bytes samples)
  written_all {page} {i} l k = k.added ∙ ap (λ xs. add was (flat_map bytes xs)) (take_all i samples l)
