-- 01, "Kept, and made new" and "The set": what a session lets the AT processor hear, and what the AT processor asks of it.
use Rattle.std.specs.Prelude.{ℕ, Bool, false, List, Option, Some, None}
use Rattle.at.specs.declared.Control.{Control}
use Rattle.at.specs.declared.Control.TheVariants.{Dial, Answer, Hangup}
use Rattle.session.specs.declared.Session.{Session}
use Rattle.session.specs.declared.SessionState.{SessionState}
use Rattle.session.specs.declared.SessionState.TheVariants as state
use Rattle.session.specs.Session.{idle, answering, dialling}

-- the carrier flag is read as false in Idle
abbrev pub heard_in : SessionState → Bool → Bool
heard_in state.Idle carrier = false
heard_in state.Dialling carrier = carrier
heard_in state.Answering carrier = carrier
heard_in state.Connected carrier = carrier

unfoldable pub heard : Session → Bool → Bool
heard s carrier = heard_in s.state carrier

-- what the AT processor asks of the call control; `line` is the dial line's bytes after ATDT
unfoldable pub controlled : Option Control → Session → List ℕ → ℕ → Session
controlled None s line r = s
controlled (Some Dial) s line r = dialling line r
controlled (Some Answer) s line r = answering
controlled (Some Hangup) s line r = idle
