-- The buffer of a fill that is not declined: in Dialling samples that follow the set's state, in Connected the sender's. They lie between -0.92 and
-- 0.92 whatever state and sender these are. Assumes nothing.
use Prim.Native.Nat.{ℕ, zero, suc}
use mathlib.Core.Path.{◌≡◌}
use mathlib.Core.Bool.{true}
use mathlib.Core.List.{List}
use lib.ListN.{length}
use lib.Ieee.{Float}
use Rattle.sender.specs.declared.Sending.{Sending}
use Rattle.sender.specs.Sender.{ready, sample_next, next}
use Rattle.sender.specs.Wave as sender
use Rattle.session.specs.declared.SessionState.TheVariants.{Dialling, Connected}
use Rattle.session.specs.Session.{state_number, digits_held, written}
use Rattle.set.specs.declared.Set.{Set}
use Rattle.std.specs.Prelude.{IsOk}
use Rattle.set.specs.Refusals.{accepted}
use Rattle.set.specs.Set.{fill_cause, fill, buffer}
use Rattle.set.proofs.Accepted.{taken}
use Rattle.accuracy.specs.Level.{AllInLevel}
use Rattle.accuracy.proofs.Level.{narrowed-level, bit-size}
use Rattle.accuracy.proofs.Overture.{InWord, samples-level}

sender-level : (k : ℕ) (x : Sending) → AllInLevel (sender.samples k x)
unfolding sender.samples sample_next AllInLevel
sender-level zero x = tt
sender-level (suc k) x = (narrowed-level (sample_next x) (bit-size (ready x).sender.modulator), sender-level k (next x))

module _ (s : Set) (was : List Float) (taken : accepted (fill_cause s (length was)) ≡ true) where
  pub fill-level : InWord s.session.stage → s.session.state ≡ Dialling → AllInLevel (buffer s was)
  unfolding buffer written state_number
  fill-level word dialling = rw (taken, dialling) (samples-level (digits_held s.session) s.rate (length was) s.session.stage word)

  pub up-level : s.session.state ≡ Connected → AllInLevel (buffer s was)
  unfolding buffer state_number
  up-level up = rw (taken, up) (sender-level (length was) s.sending)

pub fill-taken : (s : Set) (b : ℕ) → IsOk (fill s b) → accepted (fill_cause s b) ≡ true
unfolding fill
fill-taken s b ok = taken (fill_cause s b) _ ok
