-- The symbol clock, sample by sample: a sample more leaves the count of bits or adds one, and where it is N first, that is the length of N bits.
-- That it gets there, and before a count is too large, by the schedule's law on how early bits are done. Assumes nothing.
use Rattle.std.proofs.Common.{◌≡◌, ℕ, zero, suc, ◌+◌, ◌<◌, ◌≤◌, Bool, true, false, sym, ap, ◌∙◌, le_trans, le_refl, lt_of_lt_of_le, zero-lt-suc, below_more, add-one, add-zero, arith}
use Rattle.std.specs.Prelude.{Float}
use Rattle.std.specs.Int.{from_bool}
use Rattle.schedule.specs.Symbols.{symbol_step, symbol_ends, next_phase, phase_after, done_by, done_after}
use Rattle.schedule.specs.Length.{bits_length}
use Rattle.schedule.proofs.Symbols.{bits-early}
use Rattle.schedule.proofs.First.{reaches-once}
use Rattle.schedule.proofs.Lengths.{bits_after, bits-end, bits-before}
use Rattle.plan.specs.declared.Clock.{Clock}
use Rattle.plan.specs.Clock.{clock_after}

-- ---- one sample more
phase-then : (s : Float) (n : ℕ) → phase_after s (n + 1) ≡ next_phase s (phase_after s n)
unfolding phase_after
phase-then s n = rw add-one

done-then : (s : Float) (n : ℕ) → done_after s (n + 1) ≡ done_by (symbol_ends s (phase_after s n)) (done_after s n)
unfolding done_after
done-then s n = rw add-one

bit-added : (b : Bool) (d : ℕ) → d + from_bool b ≡ done_by b d
bit-added true d = add-one d
bit-added false d = add-zero d

pub clock-then : (r : ℕ) (c : Clock) → c ≡ clock_after r c.n → (phase : Float) (ends : Bool) → phase ≡ next_phase (symbol_step r) c.phase
    → ends ≡ symbol_ends (symbol_step r) c.phase → (bit : ℕ) → bit ≡ from_bool ends → record { n = c.n + 1; phase = phase; done = c.done + bit } ≡ clock_after r (c.n + 1)
clock-then r c at phase ends p e bit b =
    let s : Float = symbol_step r in
    let here : c.phase ≡ phase_after s c.n = ap (λ (k : Clock). k.phase) at in
    let count : c.done ≡ done_after s c.n = ap (λ (k : Clock). k.done) at in
    let next : phase ≡ phase_after s (c.n + 1) = p ∙ ap (next_phase s) here ∙ sym (phase-then s c.n) in
    let ended : ends ≡ symbol_ends s (phase_after s c.n) = e ∙ ap (symbol_ends s) here in
    let more : c.done + bit ≡ done_after s (c.n + 1) =
    ap (λ (x : ℕ). c.done + x) b ∙ bit-added ends c.done ∙ ap (done_by ends) count ∙ ap (λ (x : Bool). done_by x (done_after s c.n)) ended ∙ sym (done-then s c.n) in
    rw (next, more)

-- none of the first n samples has N bits done
abbrev pub Fewer : ℕ → ℕ → ℕ → Type 0
Fewer r N n = (j : ℕ) → j < n → done_after (symbol_step r) j < N

pub fewer-then : (r N n : ℕ) → done_after (symbol_step r) n < N → Fewer r N n → Fewer r N (n + 1)
fewer-then r N n here before = below_more (λ (j : ℕ). done_after (symbol_step r) j < N) n before here

-- ---- no count is too large while a bit is to be done
module _ (r : ℕ) (lo : 8000 ≤ r) (hi : r ≤ 192000) where
  pub early : (n : ℕ) → done_after (symbol_step r) n < 300 → n ≤ 192000
  early n h = let e = bits-early r lo hi 300 n (le_refl 300) h in omega arith

  -- ---- all bits
  module _ (N : ℕ) (P : 0 < N) (B : N ≤ 300) where
    pub all_done : (n : ℕ) → Fewer r N n → N ≤ done_after (symbol_step r) n → n ≡ bits_length r N
    unfolding done_after
    all_done n f h = reaches-once (bits_after r) N n (bits_length r N) (record { some = some n h; reached = h; before = λ j l m. f j m }) (bits-end r lo hi N B)
      where
        some : (n : ℕ) → N ≤ done_after (symbol_step r) n → 1 ≤ n
        some zero h = absurd (omega arith)
        some (suc n) h = zero-lt-suc n

    pub fewer-before : (M : ℕ) → 0 < M → M ≤ N → Fewer r N (bits_length r M)
    fewer-before M Q l j h = lt_of_lt_of_le (bits-before r lo hi M Q (le_trans l B) j h) l

-- ---- the clock where M bits are done
module _ (r M : ℕ) (c : Clock) (at : c ≡ clock_after r (bits_length r M)) where
  pub clock-number : c.n ≡ bits_length r M
  clock-number = ap (λ (k : Clock). k.n) at

  pub clock-whole : c ≡ clock_after r c.n
  clock-whole = at ∙ ap (clock_after r) (sym clock-number)
