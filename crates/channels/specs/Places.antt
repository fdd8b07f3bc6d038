-- Where a channel writes: the n-th element that it ever buffers goes n mod capacity cells after its base.
use Rattle.std.specs.Prelude.{◌≡◌, ℕ, ◌+◌, false, List, [], ◌∷◌, Ok, Err, Result}
use Rattle.rings.specs.Layouts.{Layout, fresh}
use Rattle.rings.specs.Laws.{placed}
use Rattle.waiting.specs.declared.wish.Entry.{Entry}
use Rattle.channels.specs.declared.channel.Sent.{Sent}
use Rattle.channels.specs.declared.channel.Sent.TheVariants.{Handed, Buffered}
use Rattle.channels.specs.declared.errors.SendError.{SendError}
use Rattle.channels.specs.declared.channel.Received.{Received}
use Rattle.channels.specs.declared.channel.Received.TheVariants.{Taken, Handed as Passed, Drained}
use Rattle.channels.specs.declared.errors.ReceiveError.{ReceiveError}
use Rattle.channels.specs.declared.channel.Channel.{Channel}
use Rattle.channels.specs.Seen.{Told, told, shut}
use Rattle.channels.specs.Rules.{sent, cells_sent, laid_sent}
use Rattle.channels.specs.Receives.{got, cells_got, laid_got}
use Rattle.channels.specs.Orders.{refill}

pub data Act (E : Type 0) : Type 0 where
  sending : E → Act E
  receiving : Act E
  shutting : Act E

-- an act, with the cells and the queues that it meets: others may have been at them since the act before
pub record Turn (E X : Type 0) : Type 0 where
  pub bank : List E
  pub receivers : List (Entry X)
  pub senders : List (Entry X)
  pub act : Act E

-- what the channel stands for then
abbrev pub met : {E X : Type 0} → Channel → Turn E X → Told E X
met c t = told c t.bank t.receivers t.senders

-- the element that came into the buffer by an answer, if one did
abbrev pub buffered_sent : {E X : Type 0} → E → Result (Sent X) SendError → List E
buffered_sent e (Ok (Handed w)) = []
buffered_sent e (Ok Buffered) = e ∷ []
buffered_sent e (Err why) = []

abbrev pub buffered_got : {E X : Type 0} → (X → E) → E → Result (Received E X) ReceiveError → List E
buffered_got f z (Ok (Taken e sender)) = refill f z sender
buffered_got f z (Ok (Passed e w)) = []
buffered_got f z (Ok Drained) = []
buffered_got f z (Err why) = []

abbrev pub buffered_by : {E X : Type 0} → (X → E) → E → Told E X → Act E → List E
buffered_by f z c (sending e) = buffered_sent e (sent c)
buffered_by f z c receiving = buffered_got f z (got f z c)
buffered_by f z c shutting = []

-- the bank after an act
abbrev pub cells_by : {E X : Type 0} → (X → E) → E → Layout → Told E X → Act E → List E → List E
cells_by f z l c (sending e) bank = cells_sent (sent c) l e bank
cells_by f z l c receiving bank = cells_got f z (got f z c) l bank
cells_by f z l c shutting bank = bank

-- a channel, and how many elements it ever buffered and took out of its buffer
pub record Filling : Type 0 where
  pub channel : Channel
  pub puts : ℕ
  pub takes : ℕ

abbrev pub counting : {E : Type 0} → List E → ℕ → ℕ
counting [] n = n
counting (e ∷ es) n = counting es (n + 1)

abbrev pub filled_sent : {E X : Type 0} → Filling → E → Result (Sent X) SendError → Filling
filled_sent t e r = record t { channel = laid_sent r t.channel; puts = counting (buffered_sent e r) t.puts }

abbrev pub taking_got : {E X : Type 0} → Result (Received E X) ReceiveError → ℕ → ℕ
taking_got (Ok (Taken e sender)) n = n + 1
taking_got (Ok (Passed e w)) n = n
taking_got (Ok Drained) n = n
taking_got (Err why) n = n

abbrev pub filled_got : {E X : Type 0} → (X → E) → E → Filling → Result (Received E X) ReceiveError → Filling
filled_got f z t r = record { channel = laid_got r t.channel; puts = counting (buffered_got f z r) t.puts; takes = taking_got r t.takes }

abbrev pub filled_by : {E X : Type 0} → (X → E) → E → Filling → Told E X → Act E → Filling
filled_by f z t c (sending e) = filled_sent t e (sent c)
filled_by f z t c receiving = filled_got f z t (got f z c)
filled_by f z t c shutting = record t { channel = shut t.channel }

abbrev pub filled : {E X : Type 0} → (X → E) → E → Filling → List (Turn E X) → Filling
filled f z t [] = t
filled f z t (k ∷ ks) = filled f z (filled_by f z t (met t.channel k) k.act) ks

abbrev pub unfilled : ℕ → ℕ → ℕ → Filling
unfilled number base capacity = record {
  channel = record { number = number; ring = fresh base capacity; closed = false };
  puts = 0;
  takes = 0;
}

-- after any list of acts on a new channel: the next one writes what it buffers there, and nothing else
abbrev pub NthCell : Type 0 → Type 0 → Type 0
NthCell E X =
    (f : X → E) (z : E) (number base capacity : ℕ) (ks : List (Turn E X)) (k : Turn E X)
    → let t : Filling = filled f z (unfilled number base capacity) ks in
    cells_by f z t.channel.ring (met t.channel k) k.act k.bank ≡ placed base capacity t.puts (buffered_by f z (met t.channel k) k.act) k.bank
