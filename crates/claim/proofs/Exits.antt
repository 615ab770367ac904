-- A call of a list that did what its contract promises (Contracts.antt) has in its event the answer of that very call, and of what was lent to it what the
-- contract has at entry and at exit. An event made of what a definition says the call should have left is refused here. Assumes nothing.
use Rattle.std.proofs.Common.{ℕ, ◌≡◌, refl, Bool, List, Float, length}
use Rattle.std.specs.Prelude.{Result, Option, None}
use contract.Lifetimes.{Lfts}
use denote.MutBor.{MutBor}
use denote.Ref.{at_last}
use Rattle.reply.specs.declared.Reply.TheVariants as reply
use Rattle.refusal.specs.declared.Refusal.{Refusal}
use Rattle.set.specs.declared.Set.{Set}
use Rattle.set.specs.declared.Typed.{Typed}
use Rattle.set.specs.declared.Lapsed.{Lapsed}
use Rattle.set.specs.declared.Filled.{Filled}
use Rattle.set.specs.Refusals.{checked, told}
use Rattle.set.specs.Book.{typing, time, forcing, filling, queuing}
use Rattle.set.specs.Event.{Event}
use Rattle.set.proofs.Set.feed.Reads as feed
use Rattle.set.proofs.Set.advance_time.Reads as advance-time
use Rattle.set.proofs.Set.force_data_mode.Reads as force-data-mode
use Rattle.set.proofs.Set.process_out.Reads as process-out
use Rattle.set.proofs.Set.queue_byte.Reads as queue-byte
use Rattle.claim.proofs.Contracts.{Did, typed, lapsed, forced, filled, queued}

pub record TypedExits (s : Set) (e : Event) : Type 0 where
  pub byte : ℕ
  pub carrier : Bool
  pub κs : Lfts 1
  pub out : MutBor (List ℕ)
  pub answer : Result Typed Refusal
  pub call : e.call ≡ typing byte carrier (length out.now)
  pub entry : e.lent.bytes ≡ out.now
  pub exit : feed.Learnt κs (s, (byte, (carrier, (out, tt)))) answer (s, (byte, (carrier, (at_last out e.left.bytes, tt))))
  pub refusal : e.refusal ≡ checked answer
  pub set : e.set ≡ told (λ (t : Typed). t.set) s answer
  pub reply : e.reply ≡ told (λ (t : Typed). t.reply) reply.None answer
  pub sent : e.sent ≡ told (λ (t : Typed). t.sent) 0 answer
  pub key : e.key ≡ None

pub typed-exits : (s : Set) (e : Event) (byte : ℕ) (carrier : Bool) (room : ℕ) → Did s e → e.call ≡ typing byte carrier room → TypedExits s e
typed-exits s e _ _ _ (typed byte carrier κs out left answer asked learnt) is =
    record {
      byte = byte;
      carrier = carrier;
      κs = κs;
      out = out;
      answer = answer;
      call = refl;
      entry = refl;
      exit = learnt;
      refusal = refl;
      set = refl;
      reply = refl;
      sent = refl;
      key = refl;
    }
typed-exits s e _ _ _ (lapsed ns carrier answer asked learnt) is = absurd (cc)
typed-exits s e _ _ _ (forced answer asked learnt) is = absurd (cc)
typed-exits s e _ _ _ (filled κs out left answer asked learnt) is = absurd (cc)
typed-exits s e _ _ _ (queued byte answer asked learnt) is = absurd (cc)

pub record LapsedExits (s : Set) (e : Event) : Type 0 where
  pub ns : ℕ
  pub carrier : Bool
  pub answer : Result Lapsed Refusal
  pub call : e.call ≡ time ns carrier
  pub exit : advance-time.Learnt tt (s, (ns, (carrier, tt))) answer (s, (ns, (carrier, tt)))
  pub refusal : e.refusal ≡ checked answer
  pub set : e.set ≡ told (λ (l : Lapsed). l.set) s answer
  pub reply : e.reply ≡ told (λ (l : Lapsed). l.reply) reply.None answer
  pub sent : e.sent ≡ 0
  pub key : e.key ≡ None

pub lapsed-exits : (s : Set) (e : Event) (ns : ℕ) (carrier : Bool) → Did s e → e.call ≡ time ns carrier → LapsedExits s e
lapsed-exits s e _ _ (typed byte carrier κs out left answer asked learnt) is = absurd (cc)
lapsed-exits s e _ _ (lapsed ns carrier answer asked learnt) is =
    record { ns = ns; carrier = carrier; answer = answer; call = refl; exit = learnt; refusal = refl; set = refl; reply = refl; sent = refl; key = refl }
lapsed-exits s e _ _ (forced answer asked learnt) is = absurd (cc)
lapsed-exits s e _ _ (filled κs out left answer asked learnt) is = absurd (cc)
lapsed-exits s e _ _ (queued byte answer asked learnt) is = absurd (cc)

pub record ForcedExits (s : Set) (e : Event) : Type 0 where
  pub answer : Result Set Refusal
  pub exit : force-data-mode.Learnt tt (s, tt) answer (s, tt)
  pub refusal : e.refusal ≡ checked answer
  pub set : e.set ≡ told (λ (left : Set). left) s answer
  pub reply : e.reply ≡ reply.None
  pub sent : e.sent ≡ 0
  pub key : e.key ≡ None

pub forced-exits : (s : Set) (e : Event) → Did s e → e.call ≡ forcing → ForcedExits s e
forced-exits s e (typed byte carrier κs out left answer asked learnt) is = absurd (cc)
forced-exits s e (lapsed ns carrier answer asked learnt) is = absurd (cc)
forced-exits s e (forced answer asked learnt) is = record { answer = answer; exit = learnt; refusal = refl; set = refl; reply = refl; sent = refl; key = refl }
forced-exits s e (filled κs out left answer asked learnt) is = absurd (cc)
forced-exits s e (queued byte answer asked learnt) is = absurd (cc)

pub record FilledExits (s : Set) (e : Event) : Type 0 where
  pub κs : Lfts 1
  pub out : MutBor (List Float)
  pub answer : Result Filled Refusal
  pub call : e.call ≡ filling (length out.now)
  pub entry : e.lent.samples ≡ out.now
  pub exit : process-out.Learnt κs (s, (out, tt)) answer (s, (at_last out e.left.samples, tt))
  pub refusal : e.refusal ≡ checked answer
  pub set : e.set ≡ told (λ (f : Filled). f.set) s answer
  pub reply : e.reply ≡ reply.None
  pub sent : e.sent ≡ 0
  pub key : e.key ≡ told (λ (f : Filled). f.key) None answer

pub filled-exits : (s : Set) (e : Event) (b : ℕ) → Did s e → e.call ≡ filling b → FilledExits s e
filled-exits s e _ (typed byte carrier κs out left answer asked learnt) is = absurd (cc)
filled-exits s e _ (lapsed ns carrier answer asked learnt) is = absurd (cc)
filled-exits s e _ (forced answer asked learnt) is = absurd (cc)
filled-exits s e _ (filled κs out left answer asked learnt) is =
    record { κs = κs; out = out; answer = answer; call = refl; entry = refl; exit = learnt; refusal = refl; set = refl; reply = refl; sent = refl; key = refl }
filled-exits s e _ (queued byte answer asked learnt) is = absurd (cc)

pub record QueuedExits (s : Set) (e : Event) : Type 0 where
  pub byte : ℕ
  pub answer : Result Set Refusal
  pub call : e.call ≡ queuing byte
  pub exit : queue-byte.Learnt tt (s, (byte, tt)) answer (s, (byte, tt))
  pub refusal : e.refusal ≡ checked answer
  pub set : e.set ≡ told (λ (left : Set). left) s answer
  pub reply : e.reply ≡ reply.None
  pub sent : e.sent ≡ 0
  pub key : e.key ≡ None

pub queued-exits : (s : Set) (e : Event) (byte : ℕ) → Did s e → e.call ≡ queuing byte → QueuedExits s e
queued-exits s e _ (typed byte carrier κs out left answer asked learnt) is = absurd (cc)
queued-exits s e _ (lapsed ns carrier answer asked learnt) is = absurd (cc)
queued-exits s e _ (forced answer asked learnt) is = absurd (cc)
queued-exits s e _ (filled κs out left answer asked learnt) is = absurd (cc)
queued-exits s e _ (queued byte answer asked learnt) is =
    record { byte = byte; answer = answer; call = refl; exit = learnt; refusal = refl; set = refl; reply = refl; sent = refl; key = refl }
