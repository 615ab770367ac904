-- What one bit's samples are, and what holds while a fill goes from bit to bit: what is written so far is the iteration's, and no edge is
-- passed between. Assumes nothing.
use Prim.Native.Nat.{ℕ, zero, suc, ◌+◌, ◌-◌, ◌≤◌, ◌<◌}
use native.Mathlib.Nat.{not-suc-le-zero}
use native.Mathlib.Omega.{arith}
use mathlib.Core.Path.{◌≡◌, refl, sym, ap, subst, ◌∙◌}
use mathlib.Core.Bool.{false}
use mathlib.Core.List.{List, [], ◌∷◌, ◌++◌, append_assoc, append-nil}
use lib.ListN.{length, take, drop, length-append, length-take, length-drop, drop_of_length-le}
use lib.Seq.{take_at, drop_at, take_all, drop-drop}
use lib.Ieee.{Float}
use Rattle.math.specs.Narrow.{narrowed}
use Rattle.fsk.specs.Modulator.{modulator_sample}
use Rattle.fsk.specs.Played.{Source, left, made, keying, SoundedIs}
use Rattle.sender.specs.declared.Sender.{Sender}
use Rattle.sender.specs.declared.Sending.{Sending}
use Rattle.sender.specs.Sender.{ticked, ready, sample_next, next}
use Rattle.sender.specs.Wave.{after, samples, ticks, tone_samples, PlayedIs}
use Rattle.sender.proofs.Frames.{ready-rest}
use Rattle.sender.proofs.Iteration.{after-add, samples-add, samples-length}

ticks-suc : (k : ℕ) (s : Sender) → ticks (suc k) s ≡ ticked (ticks k s)
unfolding ticks
ticks-suc zero s = refl
ticks-suc (suc k) s = ticks-suc k (ticked s)

tones-suc : (k : ℕ) (s : Sender) → tone_samples (suc k) s ≡ tone_samples k s ++ (narrowed (modulator_sample (ticks k s).modulator) ∷ [])
unfolding tone_samples ticks
tones-suc zero s = refl
tones-suc (suc k) s = ap (λ (l : List Float). narrowed (modulator_sample s.modulator) ∷ l) (tones-suc k (ticked s))

-- ---- one bit: a sender as `play` of fsk has it is the wave's
abbrev keyed_sender : Source Sender
keyed_sender = keying (λ s. s.modulator) ticked

module _ (s : Sender) where
  left-ticks : (k : ℕ) → left keyed_sender k s ≡ ticks k s
  unfolding left ticks
  left-ticks zero = refl
  left-ticks (suc k) = ap ticked (left-ticks k) ∙ sym (ticks-suc k s)

  made-tones : (k : ℕ) → made keyed_sender k s ≡ tone_samples k s
  unfolding made tone_samples
  made-tones zero = refl
  made-tones (suc k) = rw (made-tones k, left-ticks k) (sym (tones-suc k s))

  pub bit-played : (was is : List Float) (last : Sender) (written : ℕ) → SoundedIs keyed_sender (λ x. x.edge) s was is last written → PlayedIs s last was is written
  bit-played was is last written S = record {
    count = S.fits;
    some = S.some;
    buffer = S.played.buffer ∙ rw (made-tones written);
    sender = S.played.rest ∙ left-ticks written;
    between = early;
  }
    where
      early : (j : ℕ) → 0 < j → j < written → (ticks j s).edge ≡ false
      early zero h l = absurd (not-suc-le-zero h)
      early (suc j) h l = ap (λ (x : Sender). x.edge) (sym (left-ticks (suc j))) ∙ S.early j l

-- ---- a fill
abbrev gone : ℕ → Sending → Sending
gone w y = record { sender = ticks w y.sender; queue = y.queue }

-- with no edge between, the samples that follow are those of the bit that is ready
run : (w : ℕ) (x : Sending) → ((j : ℕ) → 0 < j → j < suc w → (ticks j (ready x).sender).edge ≡ false)
    → (samples (suc w) x ≡ tone_samples (suc w) (ready x).sender) × (after (suc w) x ≡ gone (suc w) (ready x))
unfolding samples after tone_samples ticks sample_next next
run zero x h = (refl, refl)
run (suc w) x h =
    let e : (next x).sender.edge ≡ false = h 1 (omega arith) (omega arith) in
    let r = ready-rest (next x) e in
    let later : (j : ℕ) → 0 < j → j < suc w → (ticks j (next x).sender).edge ≡ false = λ j a b. h (suc j) (omega arith) (omega arith) in
    let q = run w (next x) (subst (λ (y : Sending). (j : ℕ) → 0 < j → j < suc w → (ticks j y.sender).edge ≡ false) (sym r) later) in
    (ap (λ (l : List Float). narrowed (sample_next x) ∷ l) (q.0 ∙ ap (λ (y : Sending). tone_samples (suc w) y.sender) r), q.1 ∙ ap (gone (suc w)) r)

ran : (w : ℕ) (x : Sending) → 0 < w → ((j : ℕ) → 0 < j → j < w → (ticks j (ready x).sender).edge ≡ false)
    → (samples w x ≡ tone_samples w (ready x).sender) × (after w x ≡ gone w (ready x))
ran zero x l h = absurd (not-suc-le-zero l)
ran (suc w) x l h = run w x h

-- `at` samples are written, and what follows them is x
pub record Filling (x₀ : Sending) (was out : List Float) (x : Sending) (at : ℕ) : Type 0 where
  pub count : at ≤ length was
  pub buffer : out ≡ samples at x₀ ++ drop at was
  pub state : x ≡ after at x₀

module _ (x₀ : Sending) (was : List Float) where
  pub fill_start : Filling x₀ was was x₀ 0
  unfolding samples after
  fill_start = record { count = omega arith; buffer = refl; state = refl }

  module _ (out : List Float) (x : Sending) (at : ℕ) (F : Filling x₀ was out x at) where
    pub fill-long : length out ≡ length was
    fill-long = ap length F.buffer ∙ simp (length-append, samples-length, length-drop) (omega (arith, F.count))

    -- the rest was lent for the bit that y is ready for
    module _ (y : Sending) (ys : List Float) (left : Sender) (w : ℕ) (l : at < length out) (ey : y ≡ ready x) (P : PlayedIs y.sender left (take (length out - at) (drop at out)) ys w) where
      rest : length (take (length out - at) (drop at out)) ≡ length was - at
      rest = let e = fill-long in simp (length-take, length-drop) (omega arith)

      pub moves : 0 < w
      moves = let e = fill-long in P.some (omega (arith, rest))

      pub fits_in : at + w ≤ length was
      fits_in = let e = fill-long in omega (arith, rest, P.count)

      bit : (samples w x ≡ tone_samples w y.sender) × (after w x ≡ gone w y)
      bit =
          subst (λ (z : Sending). (samples w x ≡ tone_samples w z.sender) × (after w x ≡ gone w z)) (sym ey)
          (ran w x moves (subst (λ (z : Sending). (j : ℕ) → 0 < j → j < w → (ticks j z.sender).edge ≡ false) ey P.between))

      pub fill-again : Filling x₀ was (take at out ++ (ys ++ drop (length out - at) (drop at out))) (record { sender = left; queue = y.queue }) (at + w)
      fill-again =
          let ed : drop at out ≡ drop at was = ap (drop at) F.buffer ∙ drop_at (samples at x₀) (drop at was) at (samples-length at x₀) in
          let et : take at out ≡ samples at x₀ = ap (take at) F.buffer ∙ take_at (samples at x₀) (drop at was) at (samples-length at x₀) in
          let el : length (drop at out) ≡ length out - at = length-drop at out in
          let en : drop (length out - at) (drop at out) ≡ [] = drop_of_length-le (drop at out) {i = length out - at} (omega arith) in
          let ea : take (length out - at) (drop at out) ≡ drop at out = take_all (length out - at) (drop at out) (omega arith) in
          let eb : samples w (after at x₀) ≡ tone_samples w y.sender = ap (samples w) (sym F.state) ∙ bit.0 in
          record {
            count = fits_in;
            buffer = rw (et, en, P.buffer, ea, ed, append-nil, drop-drop, samples-add, eb, append_assoc);
            state = rw P.sender (sym (after-add at w x₀ ∙ ap (after w) (sym F.state) ∙ bit.1));
          }

    pub fill-full : length out ≤ at → (out ≡ samples (length was) x₀) × (x ≡ after (length was) x₀)
    fill-full l =
        let e : at ≡ length was = omega (arith, fill-long, F.count) in
        let none : drop at was ≡ [] = drop_of_length-le was {i = at} (omega arith) in
        (rw (← e) (F.buffer ∙ rw (none, append-nil)), rw (← e) F.state)
