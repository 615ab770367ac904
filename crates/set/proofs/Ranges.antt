-- What soundness says of a set's numbers: the test, taken apart and put together. Assumes nothing.
use Prim.Native.Nat.{◌≤◌}
use mathlib.Core.Path.{◌≡◌}
use mathlib.Core.Bool.{true, and-eq-true_iff}
use lib.Dec.{leb}
use borrow.Author.Tests.{leb-true, le-leb}
use Rattle.at.specs.Processor as processor
use Rattle.soundness.specs.Sound.{sound_state}
use Rattle.soundness.specs.Sending.{sending_ok}
use Rattle.soundness.proofs.Limits.{rate-low, rate-high}
use Rattle.soundness.proofs.States.{sound-parts}
use Rattle.session.specs.Session.{digits_held}
use Rattle.set.specs.declared.Set.{Set}
use Rattle.set.specs.Sound.{sound}

-- the test's parts, in its order
pub record Ranges (s : Set) : Type 0 where
  pub digits : s.session.digits.len ≤ 76
  pub state : sound_state s.session.stage (digits_held s.session) s.rate ≡ true
  pub processor : processor.sound s.processor ≡ true
  pub count : s.session.m ≤ 5000000
  pub shown : s.session.shown ≤ 9
  pub sending : sending_ok s.sending s.rate ≡ true

pub ranges : (s : Set) → sound s ≡ true → Ranges s
unfolding sound
ranges s h =
    let (digits, rest) = (and-eq-true_iff (leb s.session.digits.len 76) _).0 h in
    let (state, rest₂) = (and-eq-true_iff (sound_state s.session.stage (digits_held s.session) s.rate) _).0 rest in
    let (good, rest₃) = (and-eq-true_iff (processor.sound s.processor) _).0 rest₂ in
    let (count, rest₄) = (and-eq-true_iff (leb s.session.m 5000000) _).0 rest₃ in
    let (shown, sending) = (and-eq-true_iff (leb s.session.shown 9) _).0 rest₄ in
    record { digits = leb-true _ _ digits; state = state; processor = good; count = leb-true _ _ count; shown = leb-true _ _ shown; sending = sending }

pub in-ranges : (s : Set) → Ranges s → sound s ≡ true
unfolding sound
in-ranges s p = rw (le-leb _ _ p.digits, p.state, p.processor, le-leb _ _ p.count, le-leb _ _ p.shown, p.sending)

module _ (s : Set) (h : sound s ≡ true) where
  pub sound-digits : s.session.digits.len ≤ 76
  sound-digits = (ranges s h).digits

  pub sound-rate : (8000 ≤ s.rate) × (s.rate ≤ 192000)
  sound-rate = let p = sound-parts _ _ _ (ranges s h).state in (rate-low s.rate p.rate, rate-high s.rate p.rate)
