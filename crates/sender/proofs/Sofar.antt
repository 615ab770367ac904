-- What has been sent so far, kept from call to call for a history that grows at its end: whatever follows from here completes it. A fresh sender begins it, a queuing and a fill keep it, and at any time it gives the theorem. Assumes nothing.
use Prim.Native.Nat.{ℕ}
use mathlib.Core.Path.{◌≡◌, refl, sym, ap, ◌∙◌}
use mathlib.Core.Bool.{false, true≢false}
use mathlib.Core.List.{List, [], ◌∷◌, ◌++◌, append_assoc, append-nil}
use lib.Ieee.{Float}
use Rattle.queue.specs.declared.Queue.{Queue}
use Rattle.queue.specs.Queue.{waiting, is_full}
use Rattle.queue.proofs.Waiting.{Whole, pushed-newest, pushed_whole}
use Rattle.sender.specs.declared.Sending.{Sending}
use Rattle.sender.specs.Sender.{fresh_sender, queued}
use Rattle.sender.specs.Wave as wave
use Rattle.sender.specs.Wave.{after}
use Rattle.sender.specs.Symbols.{Symbol, bits_of, symbols, bytes}
use Rattle.sender.specs.Sounds.{Sounds, silence, fresh_keying}
use Rattle.sender.specs.Carries.{Carries}
use Rattle.sender.proofs.Bytes.{after-left}
use Rattle.sender.proofs.Bits.{free, cut, whole, From, at_rest, after-from}
use Rattle.sender.proofs.Waves.{keying_of, after-sounds}

-- since the line went up: `taken` the bytes that waited then and those queued since, `begun` those whose frames were begun, `sent` the symbols, `joined` the buffers
pub record Sofar (r : ℕ) (x : Sending) (taken begun : List ℕ) (sent : List Symbol) (joined : List Float) : Type 0 where
  pub whole : Whole x.queue
  pub bytes : taken ≡ begun ++ waiting x.queue
  pub bits : (following : List Symbol) (more : List ℕ) → From x following more → Carries (sent ++ following) (begun ++ more)
  pub samples : (following : List Symbol) (rest : List Float) → Sounds (keying_of x.sender) (bits_of following) rest → Sounds (fresh_keying r) (bits_of (sent ++ following)) (joined ++ rest)

-- no frame is begun in a fresh sender, so what follows is the grammar's
fresh-carries : (r : ℕ) (q : Queue) (following : List Symbol) (begun : List ℕ) → From (record { sender = fresh_sender r; queue = q }) following begun → Carries following begun
unfolding fresh_sender
fresh-carries r q following begun (free h c) = c
fresh-carries r q following begun (cut h n l e z) = absurd (true≢false (sym h))
fresh-carries r q following begun (whole h others rest j e c) = absurd (true≢false (sym h))

pub sofar-start : (r : ℕ) (q : Queue) → Whole q → Sofar r (record { sender = fresh_sender r; queue = q }) (waiting q) [] [] []
unfolding fresh_sender
sofar-start r q w = record { whole = w; bytes = refl; bits = λ following more h. fresh-carries r q following more h; samples = λ following rest h. h }

module _ (r : ℕ) (x : Sending) (taken begun : List ℕ) (sent : List Symbol) (joined : List Float) (S : Sofar r x taken begun sent joined) where
  -- a byte is queued for which there is room: it is the newest
  pub sofar-queued : (byte : ℕ) → is_full x.queue ≡ false → Sofar r (queued x byte) (taken ++ (byte ∷ [])) begun sent joined
  unfolding queued
  sofar-queued byte room =
      record {
        whole = pushed_whole x.queue byte S.whole;
        bytes = ap (λ (l : List ℕ). l ++ (byte ∷ [])) S.bytes ∙ append_assoc begun (waiting x.queue) (byte ∷ []) ∙ ap (λ (l : List ℕ). begun ++ l) (sym (pushed-newest x.queue byte S.whole.places room));
        bits = S.bits;
        samples = S.samples;
      }

  -- n samples are made
  pub sofar-filled : (n : ℕ) → Sofar r (after n x) taken (begun ++ bytes n x) (sent ++ symbols n x) (joined ++ wave.samples n x)
  sofar-filled n =
      let went = after-left n x S.whole in
      record {
        whole = went.whole;
        bytes = S.bytes ∙ ap (λ (l : List ℕ). begun ++ l) went.bytes ∙ sym (append_assoc begun (bytes n x) (waiting (after n x).queue));
        bits = λ following more h. rw (append_assoc sent (symbols n x) following, append_assoc begun (bytes n x) more) (S.bits _ _ (after-from n x following more h));
        samples = λ following rest h. rw (append_assoc sent (symbols n x) following, append_assoc joined (wave.samples n x) rest) (S.samples _ _ (after-sounds n x following rest h));
      }

  -- the theorem, wherever the list ends
  pub sofar-carries : Carries sent begun
  sofar-carries = rw (append-nil sent, append-nil begun) at (S.bits [] [] (at_rest x))

  pub sofar-sounds : Sounds (fresh_keying r) (bits_of sent) joined
  sofar-sounds = rw (append-nil sent, append-nil joined) at (S.samples [] [] silence)
