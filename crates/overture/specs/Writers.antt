-- 01, "The set": "where a stage ends, the rest of the buffer, from its first unwritten sample, is lent on to the next". What a stage's writer
-- promises of the part that is lent to it. It stops where its stage ends, so how much it wrote, and whether that is all of the stage, is its own to say.
use Rattle.std.specs.Prelude.{ℕ, suc, leb, ◌≤◌, ◌<◌, ◌≡◌, List, ◌++◌, length, drop, Float}
use Rattle.schedule.specs.Time.{time_at, saturating_inc}
use Rattle.nco.specs.declared.Nco.{Nco}
use Rattle.tones.specs.declared.Mixed.{Mixed}
use Rattle.tones.specs.Samples.{shifted, click_sample}
use Rattle.fsk.specs.declared.FskChannel.{FskChannel}
use Rattle.fsk.specs.Channel.{channel_sample, next_channel}
use Rattle.fsk.specs.Played.{Source, left, PlayedIs}
use Rattle.stage.specs.declared.StageState.{StageState}
use Rattle.stage.specs.Stage.{shown_of}
use Rattle.stage.specs.Next.{onward}
use Rattle.overture.specs.declared.Wrote.{Wrote}
use Rattle.overture.specs.declared.Sent.{Sent}
use Rattle.overture.specs.declared.Pair.{Pair}
use Rattle.overture.specs.declared.Click.{Click}
use Rattle.overture.specs.Iteration.{after, samples}

-- from the state s, over a part that held `was` and now holds `is`. Where there is no room nothing is written, and nothing is said of the state
pub record WroteIs (s : StageState) (digits : List ℕ) (r : ℕ) (was is : List Float) (w : Wrote) : Type 0 where
  pub some : 0 < length was → 0 < w.written
  pub fits : w.written ≤ length was
  pub buffer : is ≡ samples w.written s digits r ++ drop w.written was
  pub state : 0 < w.written → onward w.ended w.state digits r ≡ after w.written s digits r
  pub same : (k : ℕ) → k < w.written → shown_of (after k s digits r) digits ≡ shown_of s digits

-- two oscillators, mixed by f
abbrev pub mixing : (Nco → Nco → Mixed) → Source Pair
mixing f = record { sample = λ p. (f p.a p.b).sample; next = λ p. record { a = (f p.a p.b).a; b = (f p.a p.b).b } }

-- a payload's bits
abbrev pub sending : List ℕ → Source FskChannel
sending payload = record { sample = channel_sample; next = λ f. next_channel f payload }

-- the click's noise, at the rate r
abbrev pub clicking : ℕ → Source Click
clicking r = record {
  sample = λ c. click_sample (shifted c.rng) (time_at r c.n);
  next = λ c. record { rng = shifted c.rng; n = saturating_inc c.n };
}

-- bits until all `total` are done, or until the part is full
pub record SentIs (f : FskChannel) (payload : List ℕ) (total : ℕ) (was is : List Float) (w : Sent) : Type 0 where
  pub some : 0 < length was → 0 < w.written
  pub fits : w.written ≤ length was
  pub played : PlayedIs (sending payload) w.written f was is w.fsk
  pub early : (j : ℕ) → suc j < w.written → (left (sending payload) (suc j) f).done < total

-- bits as a stage that ends with them, in the state that `at` tells of the channel
pub record AllSent (f : FskChannel) (payload : List ℕ) (total : ℕ) (was is : List Float) (at : FskChannel → StageState → Type 0) (w : Sent) (v : Wrote) : Type 0 where
  pub sent : SentIs f payload total was is w
  pub state : at w.fsk v.state
  pub ended : v.ended ≡ leb total w.fsk.done
  pub written : v.written ≡ w.written
