-- Demand 1, of every set, sound or not: what the contract of each call tells. Its refusal is 01's cause, and where it is declined it hands no set out,
-- so that the caller has the one that it had, and lent buffers are as they were. `Learnt` is made by the toolchain from the call's own `ensures`, so that a contract that says less is refused
-- here. Assumes nothing.
use Prim.Native.Nat.{ℕ}
use mathlib.Core.Path.{◌≡◌, refl, ap}
use mathlib.Core.Bool.{Bool}
use mathlib.Core.List.{List}
use contract.Lifetimes.{Lfts}
use denote.Bor.{Bor}
use denote.Ref.{MutBor, at_last}
use lib.Ieee.{Float}
use lib.ListN.{length}
use Rattle.std.specs.Prelude.{Result}
use Rattle.refusal.specs.declared.Refusal.{Refusal}
use Rattle.keys.specs.declared.Digits.{Digits}
use Rattle.std.specs.declared.option.Option.TheVariants as option
use Rattle.reply.specs.declared.Reply.TheVariants.{None}
use Rattle.at.specs.Processor.{command_mode}
use Rattle.at.specs.At.{forced_data}
use Rattle.sender.specs.Sender.{queued}
use Rattle.session.specs.Session.{ring_number}
use Rattle.session.specs.declared.SessionState.{SessionState}
use Rattle.set.specs.declared.Set.{Set}
use Rattle.set.specs.declared.Made.{Made}
use Rattle.set.specs.declared.Typed.{Typed}
use Rattle.set.specs.declared.TypedAll.{TypedAll}
use Rattle.set.specs.declared.Lapsed.{Lapsed}
use Rattle.set.specs.declared.Filled.{Filled}
use Rattle.set.specs.Refusals.{Checked, Declined, answered, checked, told}
use Rattle.set.specs.Set.{s12_of, fresh_set, moved, set_left, creation_cause, made, typing_cause, byte_typed, typed, outbox, lapse_cause, time_lapsed, lapsed, forced_cause, forced, fill_cause, samples_filled, fill, buffer, queuing_cause, byte_queued, ring_cause, rung}
use Rattle.set.specs.String.{string_cause, bytes_typed, typed_all, outbox_all, codes_all}
use Rattle.set.specs.Event.{outbox_of, buffer_of, typed_event, lapsed_event, forced_event, filled_event, queued_event, ByCause, string_event, StringByCause}
use Rattle.set.specs.Promises.{IsTyped, IsTypedAll, IsFilled}
use Rattle.set.proofs.Unchanged.{unchanged, checked-is, untold}
use Rattle.set.proofs.Set.new.Reads as new
use Rattle.set.proofs.Set.feed.Reads as feed
use Rattle.set.proofs.Set.feed_all.Reads as feed-all
use Rattle.set.proofs.Set.advance_time.Reads as advance-time
use Rattle.set.proofs.Set.force_data_mode.Reads as force-data-mode
use Rattle.set.proofs.Set.process_out.Reads as process-out
use Rattle.set.proofs.Set.queue_byte.Reads as queue-byte
use Rattle.set.proofs.Set.ring_number.Reads as ring-number
use Rattle.set.proofs.Set.in_command_mode.Reads as in-command-mode
use Rattle.set.proofs.Set.state.Reads as state
use Rattle.set.proofs.Set.stage.Reads as stage
use Rattle.set.proofs.Set.m.Reads as m
use Rattle.set.proofs.Set.s12.Reads as s12
use Rattle.set.proofs.Set.rate.Reads as rate
use Rattle.set.proofs.Set.digits.Reads as digits

pub new-answers : (r : ℕ) (answer : Made) → new.Learnt tt (r, tt) answer (r, tt)
    → (answer.checked ≡ creation_cause r) × (Declined answer.checked → answer.set ≡ fresh_set 8000)
unfolding made
new-answers r answer d = let told : answer ≡ made r = d in rw told (refl, λ declined. ap fresh_set (unchanged _ declined r 8000))

module _ (s : Set) where
  pub typed-answers : (byte : ℕ) (carrier : Bool) (was left : List ℕ) (answer : Result Typed Refusal) → IsTyped s byte carrier was left answer
      → ByCause s (typing_cause s (length was)) (typed_event s byte carrier was left answer)
  unfolding typed outbox
  typed-answers byte carrier was left answer d =
      let is : answer ≡ typed s byte carrier (length was) = d.0 in
      let wrote : left ≡ outbox s byte was = d.1 in
      let cause : Checked = typing_cause s (length was) in
      let refused = checked-is cause (byte_typed s byte carrier (length was)) in
      rw (is, wrote) (record {
        refusal = refused;
        unchanged = λ no.
            let declined : Declined cause = rw (← refused) no in
            record {
              set = untold cause declined _ s _;
              lent = ap outbox_of (unchanged cause declined _ was);
              reply = untold cause declined _ None _;
              sent = untold cause declined _ 0 _;
              key = refl;
            };
      })

  pub feed-answers : (byte : ℕ) (carrier : Bool) (κs : Lfts 1) (out : MutBor (List ℕ)) (left : List ℕ) (answer : Result Typed Refusal)
      → feed.Learnt κs (s, (byte, (carrier, (out, tt)))) answer (s, (byte, (carrier, (at_last out left, tt))))
      → ByCause s (typing_cause s (length out.now)) (typed_event s byte carrier out.now left answer)
  feed-answers byte carrier κs out left answer d = typed-answers byte carrier out.now left answer d

  pub typed-all-answers : (bytes : List ℕ) (carrier : Bool) (was left codes codes_left : List ℕ) (answer : Result TypedAll Refusal)
      → IsTypedAll s bytes carrier was left codes codes_left answer
      → StringByCause s (string_cause s (length bytes) (length was) (length codes)) (string_event s bytes carrier was left codes codes_left answer)
  unfolding typed_all outbox_all codes_all
  typed-all-answers bytes carrier was left codes codes_left answer d =
      let is : answer ≡ typed_all s bytes carrier (length was) (length codes) = d.0 in
      let wrote : left ≡ outbox_all s bytes carrier was (length codes) = d.1.0 in
      let coded : codes_left ≡ codes_all s bytes carrier (length was) codes = d.1.1 in
      let cause : Checked = string_cause s (length bytes) (length was) (length codes) in
      let refused = checked-is cause (bytes_typed s bytes carrier) in
      rw (is, wrote, coded) (record {
        refusal = refused;
        unchanged = λ no.
            let declined : Declined cause = rw (← refused) no in
            record {
              set = untold cause declined _ s _;
              outbox = unchanged cause declined _ was;
              codes = unchanged cause declined _ codes;
              sent = untold cause declined _ 0 _;
            };
      })

  pub feed-all-answers : (κs : Lfts 3) (bytes : Bor (List ℕ)) (carrier : Bool) (out codes : MutBor (List ℕ)) (left codes_left : List ℕ) (answer : Result TypedAll Refusal)
      → feed-all.Learnt κs (s, (bytes, (carrier, (out, (codes, tt))))) answer
      (s, (bytes, (carrier, (at_last out left, (at_last codes codes_left, tt)))))
      → StringByCause s (string_cause s (length bytes.now) (length out.now) (length codes.now))
      (string_event s bytes.now carrier out.now left codes.now codes_left answer)
  feed-all-answers κs bytes carrier out codes left codes_left answer d = typed-all-answers bytes.now carrier out.now left codes.now codes_left answer d

  pub advance-time-answers : (ns : ℕ) (carrier : Bool) (answer : Result Lapsed Refusal)
      → advance-time.Learnt tt (s, (ns, (carrier, tt))) answer (s, (ns, (carrier, tt)))
      → ByCause s (lapse_cause s) (lapsed_event s ns carrier answer)
  unfolding lapsed
  advance-time-answers ns carrier answer d =
      let is : answer ≡ lapsed s ns carrier = d in
      let cause : Checked = lapse_cause s in
      let refused = checked-is cause (time_lapsed s ns carrier) in
      rw is (record {
        refusal = refused;
        unchanged = λ no.
            let declined : Declined cause = rw (← refused) no in
            record { set = untold cause declined _ s _; lent = refl; reply = untold cause declined _ None _; sent = refl; key = refl };
      })

  -- a call that hands out a set and nothing else
  left-alone : (cause : Checked) (next : Set) → (checked (answered cause next) ≡ cause) × (Declined (checked (answered cause next)) → set_left s (answered cause next) ≡ s)
  left-alone cause next = let refused = checked-is cause next in (refused, λ no. untold cause (rw (← refused) no) _ s next)

  pub force-data-mode-answers : (answer : Result Set Refusal) → force-data-mode.Learnt tt (s, tt) answer (s, tt) → ByCause s (forced_cause s) (forced_event s answer)
  unfolding forced
  force-data-mode-answers answer d =
      let is : answer ≡ forced s = d in
      let q = left-alone (forced_cause s) (moved s (forced_data s.processor) s.session s.sending) in
      rw is (record { refusal = q.0; unchanged = λ no. record { set = q.1 no; lent = refl; reply = refl; sent = refl; key = refl } })

  pub filled-answers : (was left : List Float) (answer : Result Filled Refusal) → IsFilled s was left answer
      → ByCause s (fill_cause s (length was)) (filled_event s was left answer)
  unfolding fill buffer
  filled-answers was left answer d =
      let is : answer ≡ fill s (length was) = d.0 in
      let wrote : left ≡ buffer s was = d.1 in
      let cause : Checked = fill_cause s (length was) in
      let refused = checked-is cause (samples_filled s (length was)) in
      rw (is, wrote) (record {
        refusal = refused;
        unchanged = λ no.
            let declined : Declined cause = rw (← refused) no in
            record {
              set = untold cause declined _ s _;
              lent = ap buffer_of (unchanged cause declined _ was);
              reply = refl;
              sent = refl;
              key = untold cause declined _ option.None _;
            };
      })

  pub process-out-answers : (κs : Lfts 1) (out : MutBor (List Float)) (left : List Float) (answer : Result Filled Refusal)
      → process-out.Learnt κs (s, (out, tt)) answer (s, (at_last out left, tt))
      → ByCause s (fill_cause s (length out.now)) (filled_event s out.now left answer)
  process-out-answers κs out left answer d = filled-answers out.now left answer d

  pub queue-byte-answers : (byte : ℕ) (answer : Result Set Refusal) → queue-byte.Learnt tt (s, (byte, tt)) answer (s, (byte, tt))
      → ByCause s (queuing_cause s) (queued_event s byte answer)
  unfolding byte_queued
  queue-byte-answers byte answer d =
      let is : answer ≡ byte_queued s byte = d in
      let q = left-alone (queuing_cause s) (moved s s.processor s.session (queued s.sending byte)) in
      rw is (record { refusal = q.0; unchanged = λ no. record { set = q.1 no; lent = refl; reply = refl; sent = refl; key = refl } })

  -- a declined ring is no number, which is told as 0
  pub ring-number-answers : (answer : Result ℕ Refusal) → ring-number.Learnt tt (s, tt) answer (s, tt)
      → (checked answer ≡ ring_cause s) × (Declined (checked answer) → told (λ (ring : ℕ). ring) 0 answer ≡ 0)
  unfolding rung
  ring-number-answers answer d =
      let is : answer ≡ rung s = d in
      let refused = checked-is (ring_cause s) (ring_number s.session) in
      rw is (refused, λ no. untold (ring_cause s) (rw (← refused) no) _ 0 (ring_number s.session))

  -- the plain readers
  pub reads-mode : (answer : Bool) → in-command-mode.Learnt tt (s, tt) answer (s, tt) → answer ≡ command_mode s.processor
  reads-mode answer d = d

  pub reads-state : (answer : SessionState) → state.Learnt tt (s, tt) answer (s, tt) → answer ≡ s.session.state
  reads-state answer d = d

  pub reads-stage : (answer : ℕ) → stage.Learnt tt (s, tt) answer (s, tt) → answer ≡ s.session.shown
  reads-stage answer d = d

  pub reads-m : (answer : ℕ) → m.Learnt tt (s, tt) answer (s, tt) → answer ≡ s.session.m
  reads-m answer d = d

  pub reads-s12 : (answer : ℕ) → s12.Learnt tt (s, tt) answer (s, tt) → answer ≡ s12_of s
  reads-s12 answer d = d

  pub reads-rate : (answer : ℕ) → rate.Learnt tt (s, tt) answer (s, tt) → answer ≡ s.rate
  reads-rate answer d = d

  pub reads-digits : (answer : Digits) → digits.Learnt tt (s, tt) answer (s, tt) → answer ≡ s.session.digits
  reads-digits answer d = d
