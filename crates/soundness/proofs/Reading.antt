-- 02, E10: whether a sender is sound, and what waits for it, read off the two functions in full, so that one that says less is refused here. Assumes nothing.
use Prim.Native.Nat.{ℕ}
use mathlib.Core.Path.{◌≡◌}
use mathlib.Core.Bool.{Bool}
use Rattle.sender.specs.declared.Sender.{Sender}
use Rattle.sender.specs.declared.Sending.{Sending}
use Rattle.soundness.specs.Sending.{sender_ok, sending_ok}
use Rattle.soundness.proofs.sending.sender_ok.Reads as sender-ok
use Rattle.soundness.proofs.sending.sending_ok.Reads as sending-ok

module _ (rate : ℕ) (r : Bool) where
  pub reads-sender : (s : Sender) → sender-ok.Learnt tt (s, (rate, tt)) r (s, (rate, tt)) → r ≡ sender_ok s rate
  reads-sender s d = d

  pub reads-sending : (x : Sending) → sending-ok.Learnt tt (x, (rate, tt)) r (x, (rate, tt)) → r ≡ sending_ok x rate
  reads-sending x d = d
