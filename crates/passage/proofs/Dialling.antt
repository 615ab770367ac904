-- Dialling: after n samples its count is n, its pair of digit and tone is that of t = n / r, and in tone its oscillators are the digit's key's.
-- So it ends at the first n at which i >= d, or with its one sample where there are no digits. Assumes nothing.
use mathlib.Core.Path.{◌≡◌, refl, sym, ap, subst, ◌∙◌}
use mathlib.Core.Bool.{Bool, true, false, beq, true≢false, and-eq-true_iff}
use mathlib.Core.List.{List, [], ◌∷◌}
use Prim.Native.Nat.{ℕ, zero, suc, ◌≤◌, ◌<◌}
use native.Mathlib.Nat.{le_trans, le_of_lt, zero-lt-suc, zero-mul}
use native.Mathlib.Omega.{arith}
use lib.Dec.{leb, eqb, lit≤}
use lib.ListN.{length}
use lib.Pow.{pow_pos}
use lib.Ieee.{Float, binary64, sub, mul, div, lt, of_int, of_bits}
use lib.Ieee.Scale.{round_same}
use borrow.Author.Tests.{eqb-true, lt-leb}
use Rattle.math.specs.Float as float
use Rattle.math.specs.Float.{of_nat}
use Rattle.math.specs.Whole.{floor_of}
use Rattle.math.proofs.Tests.{beq_same}
use Rattle.math.proofs.Values.{nat-value, div-by}
use Rattle.nco.specs.Nco.{step_of}
use Rattle.schedule.specs.Time.{time_at, saturating_inc}
use Rattle.schedule.specs.Dialling.{digit_at, in_tone}
use Rattle.schedule.specs.Length.{dialling_length}
use Rattle.schedule.proofs.Samples.{rate-value}
use Rattle.schedule.proofs.Lengths.{digit_after, dialling-none, dialling-ends, dialling-range}
use Rattle.tones.specs.declared.Dial.{Dial}
use Rattle.stage.specs.declared.Stage.TheVariants as stage
use Rattle.stage.specs.declared.StageState.{StageState}
use Rattle.stage.specs.Stage.{stage_of}
use Rattle.stage.specs.Enter.{enter_of}
use Rattle.stage.specs.Next.{dial_state, dialling_of, generate_of, state_next}
use Rattle.tones.specs.Mixed.{gated_of}
use Rattle.tones.specs.Dial.{digit_tones, pair_stays, taken_over, dialled_at, dial_step_of}
use Rattle.overture.specs.Iteration.{after}
use Rattle.passage.proofs.Lasting.{Lasts, LastsWith, StageInvariant, lasts-with}
use Rattle.passage.proofs.Counted.{saturating-inc}

-- ---- the first sample is at t = 0: digit 0, in tone
pub no-time : (r : ℕ) → 8000 ≤ r → r ≤ 192000 → time_at r 0 ≡ float.zero
unfolding of_int of_bits
no-time r lo hi =
    div-by binary64 (of_nat 0) (of_nat r) 0 r 1 (pow_pos 0) pos (nat-value 0 (lit≤ tt)) (rate-value r hi)
    ∙ round_same binary64 false 0 r 0 1 pos (pow_pos 0) (sym (zero-mul r))
  where
    pos : 0 < r
    pos = omega arith

pub digit-first : digit_at float.zero ≡ 0
unfolding digit_at floor_of div of_bits
digit-first = refl

pub tone-first : in_tone float.zero ≡ true
unfolding in_tone digit_at floor_of sub mul div lt of_int of_bits
tone-first = refl

-- ---- what is dialled: a digit's position, its tone or the gap after it, and in tone its key's oscillators
pub record Pair (digits : List ℕ) (r i : ℕ) (on : Bool) (dial : Dial) : Type 0 where
  pub digit : dial.digit ≡ i
  pub tone : dial.tone ≡ on
  pub low : on ≡ true → dial.a.step ≡ step_of (digit_tones digits i).low (of_nat r)
  pub high : on ≡ true → dial.b.step ≡ step_of (digit_tones digits i).high (of_nat r)

-- a sample of it leaves it as it is
gated-pair : (digits : List ℕ) (r i : ℕ) (on : Bool) (dial : Dial) → Pair digits r i on dial
    → (t : Bool) → Pair digits r i on (record { digit = dial.digit; tone = dial.tone; a = (gated_of t dial.a dial.b).a; b = (gated_of t dial.a dial.b).b })
unfolding gated_of
gated-pair digits r i on dial p true = record { digit = p.digit; tone = p.tone; low = p.low; high = p.high }
gated-pair digits r i on dial p false = record { digit = p.digit; tone = p.tone; low = p.low; high = p.high }

-- a changed pair is taken over
taken-pair : (digits : List ℕ) (r i : ℕ) (on stays : Bool) (dial : Dial) → (stays ≡ true → Pair digits r i on dial) → Pair digits r i on (taken_over stays i on dial digits r)
unfolding taken_over
taken-pair digits r i on true dial h = h refl
taken-pair digits r i true false dial h = record { digit = refl; tone = refl; low = λ e. refl; high = λ e. refl }
taken-pair digits r i false false dial h = record { digit = refl; tone = refl; low = λ e. absurd (true≢false (sym e)); high = λ e. absurd (true≢false (sym e)) }

-- one that stays before the end did not change
stays_same : (d i : ℕ) (on : Bool) (digit : ℕ) (tone : Bool) → i < d → pair_stays d i on digit tone ≡ true → (digit ≡ i) × (tone ≡ on)
unfolding pair_stays
stays_same d i on digit tone h e =
    let (digits, tones) = (and-eq-true_iff (eqb i digit) (beq on tone)).0 (rw (lt-leb d i h) at e) in
    (sym (eqb-true i digit digits), sym (beq_same on tone tones))

-- ---- the stage's state after n samples
pub record DiallingAfter (digits : List ℕ) (r n : ℕ) (s : StageState) : Type 0 where
  pub dial : Dial
  pub state : s ≡ dial_state dial n
  pub pair : Pair digits r (digit_at (time_at r n)) (in_tone (time_at r n)) dial

-- ---- one sample, before which n have been made
module _ (digits : List ℕ) (r : ℕ) (dial : Dial) (n : ℕ) (more : saturating_inc n ≡ suc n) (at : dial.digit < length digits) where
  abbrev t : Float
  t = time_at r (suc n)

  step_is : dial_step_of dial (saturating_inc n) digits r ≡ dialled_at dial (gated_of dial.tone dial.a dial.b) t digits r
  unfolding dial_step_of
  step_is = ap (λ (m : ℕ). dial_step_of dial m digits r) more ∙ rw (lt-leb (length digits) dial.digit at)

  dial-finishes : (dialling_of dial n digits r).finished ≡ leb (length digits) (digit_at t)
  unfolding dialling_of
  dial-finishes = rw step_is

  dial-moves : (i : ℕ) (on : Bool) → Pair digits r i on dial → digit_at t < length digits → DiallingAfter digits r (suc n) (dialling_of dial n digits r).state
  unfolding dialling_of
  dial-moves i on p l = record {
    dial = (dial_step_of dial (saturating_inc n) digits r).dial;
    state = rw more;
    pair = rw step_is (taken-pair digits r (digit_at t) (in_tone t) _ _ (λ e. gated-pair digits r (digit_at t) (in_tone t) dial (same e) dial.tone));
  }
    where
      same : pair_stays (length digits) (digit_at t) (in_tone t) dial.digit dial.tone ≡ true → Pair digits r (digit_at t) (in_tone t) dial
      same e =
          let two = stays_same (length digits) (digit_at t) (in_tone t) dial.digit dial.tone l e in
          subst (λ (x : ℕ). Pair digits r x (in_tone t) dial) (sym p.digit ∙ two.0)
          (subst (λ (x : Bool). Pair digits r i x dial) (sym p.tone ∙ two.1) p)

-- ---- the stage, of some digits
module _ (digits : List ℕ) (r : ℕ) (lo : 8000 ≤ r) (hi : r ≤ 192000) (some : 0 < length digits) (few : length digits ≤ 76) where
  abbrev L : ℕ
  L = dialling_length r (length digits)

  short : L ≤ 0xffff_ffff
  short = le_trans (dialling-range r lo hi (length digits) few).1 (lit≤ tt)

  digit-below : (j : ℕ) → j < L → digit_at (time_at r j) < length digits
  digit-below zero l = rw (no-time r lo hi, digit-first) some
  digit-below (suc j) l = (dialling-ends r lo hi (length digits) few some).before (suc j) (zero-lt-suc j) l

  dial-below : (j : ℕ) (s : StageState) (a : DiallingAfter digits r j s) → j < L → a.dial.digit < length digits
  dial-below j s a l = rw a.pair.digit (digit-below j l)

  invariant : StageInvariant digits r stage.Dialling (DiallingAfter digits r) (digit_after r) (length digits) L
  unfolding generate_of
  invariant = record {
    named = λ j s a. ap stage_of a.state;
    moves = λ j s a l. rw a.state (dial-moves digits r a.dial j (saturating-inc L short j (le_of_lt l)) (dial-below j s a (le_of_lt l)) _ _ a.pair (digit-below (suc j) l));
    finishes = λ j s a l. rw a.state (dial-finishes digits r a.dial j (saturating-inc L short j l) (dial-below j s a l));
  }

  start : DiallingAfter digits r 0 (enter_of stage.Dialling digits r)
  unfolding enter_of
  start = record {
    dial = _;
    state = refl;
    pair = rw (no-time r lo hi, digit-first, tone-first) (record { digit = refl; tone = refl; low = λ e. refl; high = λ e. refl });
  }

  pub some-digits-last : LastsWith digits r (enter_of stage.Dialling digits r) stage.Dialling (DiallingAfter digits r) L (enter_of stage.Ringback digits r)
  some-digits-last = lasts-with digits r stage.Dialling (DiallingAfter digits r) (digit_after r) (length digits) L invariant (dialling-ends r lo hi (length digits) few some) (enter_of stage.Dialling digits r) start

-- ---- and of none: one sample
no-digits-last : (r : ℕ) → Lasts [] r (enter_of stage.Dialling [] r) stage.Dialling 1 (enter_of stage.Ringback [] r)
unfolding after enter_of state_next generate_of dialling_of dial_step_of
no-digits-last r = record { stays = stays; ends = refl }
  where
    stays : (j : ℕ) → j < 1 → stage_of (after j (enter_of stage.Dialling [] r) [] r) ≡ stage.Dialling
    stays zero l = refl
    stays (suc j) l = absurd (omega arith)

pub dialling-lasts : (digits : List ℕ) (r : ℕ) → 8000 ≤ r → r ≤ 192000 → length digits ≤ 76
    → Lasts digits r (enter_of stage.Dialling digits r) stage.Dialling (dialling_length r (length digits)) (enter_of stage.Ringback digits r)
dialling-lasts [] r lo hi few = rw (dialling-none r) (no-digits-last r)
dialling-lasts (x ∷ xs) r lo hi few = (some-digits-last (x ∷ xs) r lo hi (zero-lt-suc (length xs)) few).lasts
