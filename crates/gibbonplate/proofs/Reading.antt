-- What the exported functions promise, read off their contracts at its full strength, so that one that says less is refused here: of the set's calls
-- each number, memory and buffer; of 02, E4 the refusal, the counts and T; of E14 the refusal and the buffer. Assumes nothing.
use Prim.Native.Nat.{ℕ, ◌+◌, ◌*◌, ◌≤◌}
use mathlib.Core.Path.{◌≡◌}
use mathlib.Core.Bool.{Bool, cond}
use mathlib.Core.List.{List, [], ◌∷◌}
use contract.Lifetimes.{Lfts}
use denote.Bor.{Bor}
use denote.MutBor.{MutBor}
use denote.Ref.{at_last}
use lib.Dec.{eqb, leb}
use lib.Ieee.{Float}
use lib.IntN.{ℤ}
use lib.ListN.{length}
use Rattle.ascii.specs.Front.{put, put_length}
use Rattle.keys.specs.Keys.{digits_of}
use Rattle.reply.specs.Codes.{first_of, second_of}
use Rattle.reply.specs.Texts.{text_of}
use Rattle.at.specs.Processor.{command_mode}
use Rattle.session.specs.Session.{state_number}
use Rattle.set.specs.declared.Set.{Set}
use Rattle.refusal.specs.Refusal.{answer_number}
use Rattle.set.specs.declared.Typed.{Typed}
use Rattle.set.specs.declared.TypedAll.{TypedAll}
use Rattle.set.specs.declared.Lapsed.{Lapsed}
use Rattle.set.specs.declared.Filled.{Filled}
use Rattle.set.specs.Refusals.{told}
use Rattle.set.specs.Set.{s12_of, made, typed, outbox, lapsed, forced, byte_queued, fill, buffer, rung, reply_typed, sent_typed, reply_lapsed, key_filled}
use Rattle.set.specs.String.{typed_all, outbox_all, codes_all}
use Rattle.cue.specs.Cue.{cued, sample_cued, key_cued}
use Rattle.passage.specs.Overture.{HasLength}
use Rattle.plan.specs.Plan.{plan_refusal_number, plan_cause, stage_samples, total_samples}
use Rattle.handset.specs.Sound.{samples_after}
use Rattle.handset.specs.Call.{earpiece_refusal, EarpieceIs}
use Rattle.gibbonplate.specs.declared.memory.Memory.{Memory}
use Rattle.gibbonplate.specs.Memory.{memory, stored, loaded, kept}
use Rattle.gibbonplate.specs.Calls.{key_numbers}
use Rattle.gibbonplate.proofs.gibbonplate_new_in.Reads as new_in
use Rattle.gibbonplate.proofs.gibbonplate_feed_in.Reads as feed-in
use Rattle.gibbonplate.proofs.gibbonplate_feed_all_in.Reads as feed-all-in
use Rattle.gibbonplate.proofs.gibbonplate_advance_time_in.Reads as advance-time-in
use Rattle.gibbonplate.proofs.gibbonplate_force_data_mode_in.Reads as force-data-mode-in
use Rattle.gibbonplate.proofs.gibbonplate_queue_byte_in.Reads as queue-byte-in
use Rattle.gibbonplate.proofs.gibbonplate_process_out_in.Reads as process-out-in
use Rattle.gibbonplate.proofs.gibbonplate_ring_in.Reads as ring_in
use Rattle.gibbonplate.proofs.gibbonplate_cue_in.Reads as cue-in
use Rattle.gibbonplate.proofs.gibbonplate_mode_in.Reads as mode-in
use Rattle.gibbonplate.proofs.gibbonplate_state_in.Reads as state-in
use Rattle.gibbonplate.proofs.gibbonplate_stage_in.Reads as stage-in
use Rattle.gibbonplate.proofs.gibbonplate_m_in.Reads as m-in
use Rattle.gibbonplate.proofs.gibbonplate_s12_in.Reads as s12-in
use Rattle.gibbonplate.proofs.gibbonplate_rate_in.Reads as rate-in
use Rattle.gibbonplate.proofs.gibbonplate_digits_in.Reads as digits_in
use Rattle.gibbonplate.proofs.gibbonplate_write_reply.Reads as write-reply
use Rattle.gibbonplate.proofs.gibbonplate_plan_refusal.Reads as plan-refusal
use Rattle.gibbonplate.proofs.gibbonplate_stage_samples.Reads as stage-samples
use Rattle.gibbonplate.proofs.gibbonplate_total_samples.Reads as total-samples
use Rattle.gibbonplate.proofs.gibbonplate_earpiece.Reads as earpiece

-- ---- the set's calls: memory before and after, and what else is lent
module _ (longs counts : MutBor (List ℕ)) (reals : MutBor (List Float)) (marks line keys queue : MutBor (List ℕ)) where
  abbrev was : Memory
  was = memory longs.now counts.now reals.now marks.now line.now keys.now queue.now

  abbrev s : Set
  s = loaded was

  module _ (longs1 counts1 : List ℕ) (reals1 : List Float) (marks1 line1 keys1 queue1 : List ℕ) (number : ℕ) where
    abbrev is : Memory
    is = memory longs1 counts1 reals1 marks1 line1 keys1 queue1

    pub new-call : (κs : Lfts 7) (rate : ℕ)
        → new_in.Learnt κs (longs, (counts, (reals, (marks, (line, (keys, (queue, (rate, tt)))))))) number
        (at_last longs longs1, (at_last counts counts1, (at_last reals reals1, (at_last marks marks1, (at_last line line1, (at_last keys keys1, (at_last queue queue1, (rate, tt))))))))
        → (number ≡ answer_number (made rate).checked) × (is ≡ stored (made rate).set)
    new-call κs rate d = (d.refusal, d.memory)

    pub feed-call : (κs : Lfts 10) (byte : ℕ) (carrier : Bool) (out codes : MutBor (List ℕ)) (sent : MutBor ℕ) (left given : List ℕ) (count : ℕ)
        → feed-in.Learnt κs (longs, (counts, (reals, (marks, (line, (keys, (queue, (byte, (carrier, (out, (codes, (sent, tt)))))))))))) number
        (at_last longs longs1, (at_last counts counts1, (at_last reals reals1, (at_last marks marks1, (at_last line line1, (at_last keys keys1, (at_last queue queue1, (byte, (carrier, (at_last out left, (at_last codes given, (at_last sent count, tt))))))))))))
        → let answer = typed s byte carrier (length out.now) in
        (number ≡ answer_number answer) × (is ≡ kept (λ (a : Typed). a.set) answer was) × (left ≡ outbox s byte out.now)
        × (given ≡ first_of (reply_typed answer) ∷ second_of (reply_typed answer) ∷ []) × (count ≡ sent_typed answer)
    feed-call κs byte carrier out codes sent left given count d = (d.refusal, d.memory, d.outbox, d.codes, d.sent)

    pub string-call : (κs : Lfts 11) (bytes : Bor (List ℕ)) (carrier : Bool) (out codes : MutBor (List ℕ)) (sent : MutBor ℕ) (left given : List ℕ) (count : ℕ)
        → feed-all-in.Learnt κs (longs, (counts, (reals, (marks, (line, (keys, (queue, (bytes, (carrier, (out, (codes, (sent, tt)))))))))))) number
        (at_last longs longs1, (at_last counts counts1, (at_last reals reals1, (at_last marks marks1, (at_last line line1, (at_last keys keys1, (at_last queue queue1, (bytes, (carrier, (at_last out left, (at_last codes given, (at_last sent count, tt))))))))))))
        → let answer = typed_all s bytes.now carrier (length out.now) (length codes.now) in
        (number ≡ answer_number answer) × (is ≡ kept (λ (a : TypedAll). a.set) answer was)
        × (left ≡ outbox_all s bytes.now carrier out.now (length codes.now))
        × (given ≡ codes_all s bytes.now carrier (length out.now) codes.now) × (count ≡ told (λ (a : TypedAll). a.sent) 0 answer)
    string-call κs bytes carrier out codes sent left given count d = (d.refusal, d.memory, d.outbox, d.codes, d.sent)

    pub time-call : (κs : Lfts 8) (ns : ℕ) (carrier : Bool) (codes : MutBor (List ℕ)) (given : List ℕ)
        → advance-time-in.Learnt κs (longs, (counts, (reals, (marks, (line, (keys, (queue, (ns, (carrier, (codes, tt)))))))))) number
        (at_last longs longs1, (at_last counts counts1, (at_last reals reals1, (at_last marks marks1, (at_last line line1, (at_last keys keys1, (at_last queue queue1, (ns, (carrier, (at_last codes given, tt))))))))))
        → let answer = lapsed s ns carrier in
        (number ≡ answer_number answer) × (is ≡ kept (λ (a : Lapsed). a.set) answer was)
        × (given ≡ first_of (reply_lapsed answer) ∷ second_of (reply_lapsed answer) ∷ [])
    time-call κs ns carrier codes given d = (d.refusal, d.memory, d.codes)

    pub force-call : (κs : Lfts 7)
        → force-data-mode-in.Learnt κs (longs, (counts, (reals, (marks, (line, (keys, (queue, tt))))))) number
        (at_last longs longs1, (at_last counts counts1, (at_last reals reals1, (at_last marks marks1, (at_last line line1, (at_last keys keys1, (at_last queue queue1, tt)))))))
        → (number ≡ answer_number (forced s)) × (is ≡ kept (λ (a : Set). a) (forced s) was)
    force-call κs d = (d.refusal, d.memory)

    pub queue-call : (κs : Lfts 7) (byte : ℕ)
        → queue-byte-in.Learnt κs (longs, (counts, (reals, (marks, (line, (keys, (queue, (byte, tt)))))))) number
        (at_last longs longs1, (at_last counts counts1, (at_last reals reals1, (at_last marks marks1, (at_last line line1, (at_last keys keys1, (at_last queue queue1, (byte, tt))))))))
        → (number ≡ answer_number (byte_queued s byte)) × (is ≡ kept (λ (a : Set). a) (byte_queued s byte) was)
    queue-call κs byte d = (d.refusal, d.memory)

    pub fill-call : (κs : Lfts 9) (samples : MutBor (List Float)) (key : MutBor (List ℕ)) (left : List Float) (lights : List ℕ)
        → process-out-in.Learnt κs (longs, (counts, (reals, (marks, (line, (keys, (queue, (samples, (key, tt))))))))) number
        (at_last longs longs1, (at_last counts counts1, (at_last reals reals1, (at_last marks marks1, (at_last line line1, (at_last keys keys1, (at_last queue queue1, (at_last samples left, (at_last key lights, tt)))))))))
        → let answer = fill s (length samples.now) in
        (number ≡ answer_number answer) × (is ≡ kept (λ (a : Filled). a.set) answer was) × (left ≡ buffer s samples.now)
        × (lights ≡ key_numbers (key_filled answer))
    fill-call κs samples key left lights d = (d.refusal, d.memory, d.samples, d.key)

-- ---- those that only read it
module _ (longs counts : Bor (List ℕ)) (reals : Bor (List Float)) (marks line keys queue : Bor (List ℕ)) where
  abbrev u : Set
  u = loaded (memory longs.now counts.now reals.now marks.now line.now keys.now queue.now)

  pub ring-call : (κs : Lfts 8) (ring : MutBor ℕ) (value number : ℕ)
      → ring_in.Learnt κs (longs, (counts, (reals, (marks, (line, (keys, (queue, (ring, tt)))))))) number (longs, (counts, (reals, (marks, (line, (keys, (queue, (at_last ring value, tt))))))))
      → (number ≡ answer_number (rung u)) × (value ≡ told (λ (ring : ℕ). ring) 0 (rung u))
  ring-call κs ring value number d = (d.refusal, d.ring)

  pub cue-call : (κs : Lfts 9) (position : ℕ) (sample : MutBor ℕ) (key : MutBor (List ℕ)) (value : ℕ) (lights : List ℕ) (number : ℕ)
      → cue-in.Learnt κs (longs, (counts, (reals, (marks, (line, (keys, (queue, (position, (sample, (key, tt)))))))))) number
      (longs, (counts, (reals, (marks, (line, (keys, (queue, (position, (at_last sample value, (at_last key lights, tt))))))))))
      → (number ≡ answer_number (cued u position)) × (value ≡ sample_cued (cued u position)) × (lights ≡ key_numbers (key_cued (cued u position)))
  cue-call κs position sample key value lights number d = (d.refusal, d.sample, d.key)

  -- the plain readers
  pub mode-is : (κs : Lfts 7) (answer : ℕ) → mode-in.Learnt κs (longs, (counts, (reals, (marks, (line, (keys, (queue, tt))))))) answer (longs, (counts, (reals, (marks, (line, (keys, (queue, tt))))))) → answer ≡ cond (command_mode u.processor) 67 68
  mode-is κs answer d = d

  pub state-is : (κs : Lfts 7) (answer : ℕ) → state-in.Learnt κs (longs, (counts, (reals, (marks, (line, (keys, (queue, tt))))))) answer (longs, (counts, (reals, (marks, (line, (keys, (queue, tt))))))) → answer ≡ state_number u.session.state
  state-is κs answer d = d

  pub stage_is : (κs : Lfts 7) (answer : ℕ) → stage-in.Learnt κs (longs, (counts, (reals, (marks, (line, (keys, (queue, tt))))))) answer (longs, (counts, (reals, (marks, (line, (keys, (queue, tt))))))) → answer ≡ u.session.shown
  stage_is κs answer d = d

  pub m-is : (κs : Lfts 7) (answer : ℕ) → m-in.Learnt κs (longs, (counts, (reals, (marks, (line, (keys, (queue, tt))))))) answer (longs, (counts, (reals, (marks, (line, (keys, (queue, tt))))))) → answer ≡ u.session.m
  m-is κs answer d = d

  pub s12-is : (κs : Lfts 7) (answer : ℕ) → s12-in.Learnt κs (longs, (counts, (reals, (marks, (line, (keys, (queue, tt))))))) answer (longs, (counts, (reals, (marks, (line, (keys, (queue, tt))))))) → answer ≡ s12_of u
  s12-is κs answer d = d

  pub rate-is : (κs : Lfts 7) (answer : ℕ) → rate-in.Learnt κs (longs, (counts, (reals, (marks, (line, (keys, (queue, tt))))))) answer (longs, (counts, (reals, (marks, (line, (keys, (queue, tt))))))) → answer ≡ u.rate
  rate-is κs answer d = d

  pub digits_are : (κs : Lfts 8) (digits : MutBor (List ℕ)) (left : List ℕ) (answer : ℕ)
      → digits_in.Learnt κs (longs, (counts, (reals, (marks, (line, (keys, (queue, (digits, tt)))))))) answer (longs, (counts, (reals, (marks, (line, (keys, (queue, (at_last digits left, tt))))))))
      → (answer ≡ cond (leb u.session.digits.len 76) u.session.digits.len 0) × (left ≡ u.session.digits.keys)
  digits_are κs digits left answer d = (d.0, d.1)

-- ---- no call and no reader asks anything, whatever the memory holds
module _ (longs counts : MutBor (List ℕ)) (reals : MutBor (List Float)) (marks line keys queue : MutBor (List ℕ)) where
  module _ (longs' counts' : Bor (List ℕ)) (reals' : Bor (List Float)) (marks' line' keys' queue' : Bor (List ℕ))
      (κ7 : Lfts 7) (κ8 : Lfts 8) (κ9 : Lfts 9) (κ10 : Lfts 10) (κ11 : Lfts 11) (n position : ℕ) (carrier : Bool) (bytes : Bor (List ℕ)) (out codes key : MutBor (List ℕ)) (samples : MutBor (List Float)) (one : MutBor ℕ) where
    pub calls-ask-nothing : new_in.Asked κ7 (longs, (counts, (reals, (marks, (line, (keys, (queue, (n, tt))))))))
        × feed-in.Asked κ10 (longs, (counts, (reals, (marks, (line, (keys, (queue, (n, (carrier, (out, (codes, (one, tt))))))))))))
        × feed-all-in.Asked κ11 (longs, (counts, (reals, (marks, (line, (keys, (queue, (bytes, (carrier, (out, (codes, (one, tt))))))))))))
        × advance-time-in.Asked κ8 (longs, (counts, (reals, (marks, (line, (keys, (queue, (n, (carrier, (codes, tt))))))))))
        × force-data-mode-in.Asked κ7 (longs, (counts, (reals, (marks, (line, (keys, (queue, tt)))))))
        × queue-byte-in.Asked κ7 (longs, (counts, (reals, (marks, (line, (keys, (queue, (n, tt))))))))
        × process-out-in.Asked κ9 (longs, (counts, (reals, (marks, (line, (keys, (queue, (samples, (key, tt)))))))))
        × ring_in.Asked κ8 (longs', (counts', (reals', (marks', (line', (keys', (queue', (one, tt))))))))
        × cue-in.Asked κ9 (longs', (counts', (reals', (marks', (line', (keys', (queue', (position, (one, (key, tt))))))))))
    calls-ask-nothing = (tt, tt, tt, tt, tt, tt, tt, tt, tt)

    pub readers-ask-nothing : mode-in.Asked κ7 (longs', (counts', (reals', (marks', (line', (keys', (queue', tt)))))))
        × state-in.Asked κ7 (longs', (counts', (reals', (marks', (line', (keys', (queue', tt)))))))
        × stage-in.Asked κ7 (longs', (counts', (reals', (marks', (line', (keys', (queue', tt)))))))
        × m-in.Asked κ7 (longs', (counts', (reals', (marks', (line', (keys', (queue', tt)))))))
        × s12-in.Asked κ7 (longs', (counts', (reals', (marks', (line', (keys', (queue', tt)))))))
        × rate-in.Asked κ7 (longs', (counts', (reals', (marks', (line', (keys', (queue', tt)))))))
        × digits_in.Asked κ8 (longs', (counts', (reals', (marks', (line', (keys', (queue', (out, tt))))))))
    readers-ask-nothing = (tt, tt, tt, tt, tt, tt, tt)

-- 02, E6: the writer of replies is handed S12
pub writer-is : (κs : Lfts 1) (code s12 : ℕ) (out : MutBor (List ℕ)) (left : List ℕ) (n : ℕ)
    → write-reply.Learnt κs (code, (s12, (out, tt))) n (code, (s12, (at_last out left, tt)))
    → (n ≡ put_length (text_of code s12) (length out.now)) × (left ≡ put (text_of code s12) out.now)
writer-is κs code s12 out left n d = (d.0, d.1)

-- ---- 02, E4
module _ (κs : Lfts 1) (digits : Bor (List ℕ)) (rate : ℕ) where
  pub plan-asks-nothing : (stage : ℕ)
      → plan-refusal.Asked κs (digits, (rate, tt))
      × stage-samples.Asked κs (digits, (rate, (stage, tt)))
      × total-samples.Asked κs (digits, (rate, tt))
  plan-asks-nothing stage = (tt, tt, tt)

  pub refusal_is : (number : ℕ) → plan-refusal.Learnt κs (digits, (rate, tt)) number (digits, (rate, tt))
      → number ≡ plan_refusal_number (plan_cause (length digits.now) rate)
  refusal_is number d = d

  pub samples-are : (stage n : ℕ) → stage-samples.Learnt κs (digits, (rate, (stage, tt))) n (digits, (rate, (stage, tt)))
      → n ≡ stage_samples digits.now rate stage
  samples-are stage n d = d

  module _ (T : ℕ) (d : total-samples.Learnt κs (digits, (rate, tt)) T (digits, (rate, tt))) where
    pub total-is : T ≡ total_samples digits.now rate
    total-is = d.0

    module _ (slow : 8000 ≤ rate) (fast : rate ≤ 192000) (few : length digits.now ≤ 76) where
      pub is-the-length : HasLength (digits_of digits.now) rate T
      is-the-length = d.1.0 slow fast few

      pub least : 1175 * rate + 24 * length (digits_of digits.now) * rate ≤ 120 * T + 120
      least = (d.1.1 slow fast few).least

      pub most : 120 * T ≤ 1175 * rate + 24 * length (digits_of digits.now) * rate + 720
      most = (d.1.1 slow fast few).most

-- ---- 02, E14
module _ (κs : Lfts 2) (digits : Bor (List ℕ)) (rate pass : ℕ) (out : MutBor (List ℤ)) (left : List ℤ) (number : ℕ)
    (d : earpiece.Learnt κs (digits, (rate, (pass, (out, tt)))) number (digits, (rate, (pass, (at_last out left, tt))))) where
  earpiece-is : EarpieceIs digits.now rate pass out.now left number
  earpiece-is = d

  pub earpiece-declines : number ≡ earpiece_refusal (length digits.now) rate (length out.now)
  earpiece-declines = earpiece-is.refusal

  pub earpiece-writes : left ≡ cond (eqb number 0) (samples_after (digits_of digits.now) rate pass (length out.now)) out.now
  earpiece-writes = earpiece-is.buffer
