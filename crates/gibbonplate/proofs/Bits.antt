-- Bits done in memory. As many as 16 bits can hold are read back as they were; of more the set is unsound, since their largest is above
-- the end of every stage. Assumes nothing.
use Prim.Native.Nat.{ℕ, ◌≤◌, ◌<◌}
use mathlib.Core.Path.{◌≡◌, refl, sym, ap, subst, ◌∙◌}
use mathlib.Core.Bool.{Bool, true, false, ◌||◌, true≢false, and-false, and-eq-true_iff}
use mathlib.Core.List.{List, [], ◌∷◌}
use lib.Dec.{eqb, lit≤}
use lib.ListN.{length, get_or}
use borrow.Author.Tests.{ltb-true, eqb-true, le-leb, lt-leb, le-ltb}
use Rattle.std.proofs.lemmas.Bool.{false_from_ne_true}
use Rattle.fsk.specs.Channel.{most_done}
use Rattle.stage.specs.declared.StageState.{StageState}
use Rattle.stage.specs.declared.StageState.TheVariants as at
use Rattle.soundness.specs.Sound.{modulator_ok, bits_ok, cj_ok, state_ok}
use Rattle.soundness.proofs.States.{sound-parts}
use Rattle.session.specs.Session.{digits_held}
use Rattle.set.specs.Sound.{sound}
use Rattle.set.proofs.Ranges.{ranges}
use Rattle.gibbonplate.specs.declared.plain.PlainStage.{PlainStage}
use Rattle.gibbonplate.specs.declared.memory.Memory.{Memory}
use Rattle.gibbonplate.specs.Memory.{plain, done_in, bits_of, stages, staged, sends_bits, too_many_bits, plain_in, set_in}

pub done_held : (count : ℕ) → count ≤ most_done → done_in count ≡ count
unfolding done_in
done_held count h = rw (le-leb count most_done h)

pub done-over : (count : ℕ) → most_done < count → done_in count ≡ most_done
unfolding done_in
done-over count h = rw (lt-leb count most_done h)

-- the states whose bits done 16 bits can hold
abbrev pub Held : StageState → Type 0
Held (at.OffHook rng n) = Unit {0}
Held (at.DialTone a b n) = Unit {0}
Held (at.Dialling i on a b n) = Unit {0}
Held (at.Ringback a b n ring) = Unit {0}
Held (at.Ci f) = f.done ≤ most_done
Held (at.Ansam c e n) = Unit {0}
Held (at.CmJm f) = f.done ≤ most_done
Held (at.Cj f z) = f.done ≤ most_done
Held (at.Training f) = f.done ≤ most_done
Held at.Connected = Unit {0}

stage-back : (stage : StageState) → Held stage → staged (plain stage) ≡ stage
unfolding staged
stage-back (at.OffHook rng n) h = refl
stage-back (at.DialTone a b n) h = refl
stage-back (at.Dialling i on a b n) h = refl
stage-back (at.Ringback a b n ring) h = refl
stage-back (at.Ci f) h = rw (done_held f.done h)
stage-back (at.Ansam c e n) h = refl
stage-back (at.CmJm f) h = rw (done_held f.done h)
stage-back (at.Cj f z) h = rw (done_held f.done h)
stage-back (at.Training f) h = rw (done_held f.done h)
stage-back at.Connected h = refl

-- of a state's numbers, with the state's case
pub read_back : (p : PlainStage) (stage was : StageState) → was ≡ stage → Held stage → p ≡ plain stage → (p ≡ plain was) × (staged p ≡ was)
read_back p stage was e h is = (is ∙ ap plain (sym e), ap staged is ∙ stage-back stage h ∙ sym e)

module _ (p : PlainStage) (more : most_done < p.count) (d r : ℕ) where
  bits-over : (N : ℕ) → N ≤ most_done → bits_ok (bits_of p) N r ≡ false
  unfolding bits_ok
  bits-over N h = rw (done-over p.count more, le-ltb most_done N h) (and-false (modulator_ok (bits_of p).modulator r))

  cj-over : cj_ok (bits_of p) p.zeros r ≡ false
  unfolding cj_ok
  cj-over = rw (done-over p.count more) (and-false (modulator_ok (bits_of p).modulator r))

  abbrev Over : ℕ → Type 0
  Over number = state_ok (get_or (stages p) number at.Connected) d r ≡ false

  stage-over : (number : ℕ) → sends_bits number ≡ true → Over number
  unfolding state_ok
  stage-over number = by (eqb number 5) (eqb number 7) (eqb number 8) (eqb number 9) refl refl refl refl
    where
      by : (a b c e : Bool) → eqb number 5 ≡ a → eqb number 7 ≡ b → eqb number 8 ≡ c → eqb number 9 ≡ e → (a || (b || (c || e))) ≡ true → Over number
      by true b c e is5 is7 is8 is9 h = subst Over (sym (eqb-true number 5 is5)) (bits-over 60 (lit≤ tt))
      by false true c e is5 is7 is8 is9 h = subst Over (sym (eqb-true number 7 is7)) (bits-over 80 (lit≤ tt))
      by false false true e is5 is7 is8 is9 h = subst Over (sym (eqb-true number 8 is8)) cj-over
      by false false false true is5 is7 is8 is9 h = subst Over (sym (eqb-true number 9 is9)) (bits-over 300 (lit≤ tt))
      by false false false false is5 is7 is8 is9 h = absurd (true≢false (sym h))

pub too_many : (m : Memory) → too_many_bits m.counts m.marks ≡ true → sound (set_in m) ≡ false
unfolding set_in staged
too_many m h =
    false_from_ne_true _
    (λ (e : sound (set_in m) ≡ true).
    let (number, more) = (and-eq-true_iff (sends_bits (get_or m.marks 5 0)) _).0 h in
    let s = set_in m in
    let p = plain_in m.longs m.counts m.reals m.marks in
    let parts = sound-parts s.session.stage (digits_held s.session) s.rate (ranges s e).state in
    true≢false (sym parts.state ∙ stage-over p (ltb-true most_done p.count more) (length (digits_held s.session)) s.rate p.number number))

-- so are 65,536 in each of the four stages, and 65,535 are not too many to hold
abbrev in_stage : ℕ → List ℕ
in_stage number = 0 ∷ 0 ∷ 0 ∷ 0 ∷ 0 ∷ number ∷ 0 ∷ 0 ∷ 0 ∷ []

abbrev count_of : ℕ → List ℕ
count_of done = 0 ∷ 0 ∷ done ∷ 0 ∷ []

pub too-many-are :
    (too_many_bits (count_of 65536) (in_stage 5) ≡ true)
    × (too_many_bits (count_of 65536) (in_stage 7) ≡ true)
    × (too_many_bits (count_of 65536) (in_stage 8) ≡ true)
    × (too_many_bits (count_of 65536) (in_stage 9) ≡ true)
    × (too_many_bits (count_of 65535) (in_stage 9) ≡ false)
too-many-are = (refl, refl, refl, refl, refl)
