-- A session whose line is up stays as it is in a fill, which lights no key. By cases of the state. Assumes nothing.
use Prim.Native.Nat.{ℕ}
use mathlib.Core.Path.{◌≡◌, refl, sym, ap}
use mathlib.Core.Bool.{true, true≢false}
use Rattle.std.specs.Prelude.{None}
use Rattle.session.specs.declared.Session.{Session}
use Rattle.session.specs.declared.SessionState.{SessionState}
use Rattle.session.specs.declared.SessionState.TheVariants.{Idle, Dialling, Answering, Connected}
use Rattle.session.specs.Session.{state_number, filled_in, filled, key_in, key_after}
use Rattle.set.specs.Set.{is_up_in, is_up}

connected : (state : SessionState) → is_up_in state ≡ true → state ≡ Connected
unfolding state_number
connected Idle e = absurd (true≢false (sym e))
connected Dialling e = absurd (true≢false (sym e))
connected Answering e = absurd (true≢false (sym e))
connected Connected e = refl

module _ (s : Session) (b r : ℕ) (up : is_up s ≡ true) where
  pub still : filled s b r ≡ s
  unfolding filled
  still = ap (λ (state : SessionState). filled_in state s b r) (connected s.state up)

  pub dark : key_after s b r ≡ None
  unfolding key_after
  dark = ap (λ (state : SessionState). key_in state s b r) (connected s.state up)
