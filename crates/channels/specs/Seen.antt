-- What a channel stands for, with its bank and the waiting line.
use Rattle.std.specs.Prelude.{ℕ, Bool, true, false, cond, List, Some, None, Option}
use Rattle.rings.specs.Layouts.{covers, held, can_lie, fresh}
use Rattle.waiting.specs.declared.wish.Entry.{Entry}
use Rattle.waiting.specs.declared.wish.Side.{Side}
use Rattle.waiting.specs.declared.wish.Side.TheVariants.{Receivers, Senders}
use Rattle.waiting.specs.Lines.{State}
use Rattle.waiting.specs.Queues.{queue}
use Rattle.channels.specs.declared.channel.Channel.{Channel}

-- a channel in its own words: the buffer and both queues are lists
pub record Told (E X : Type 0) : Type 0 where
  pub there : Bool
  pub capacity : ℕ
  pub closed : Bool
  pub buffer : List E
  pub receivers : List (Entry X)
  pub senders : List (Entry X)

-- what it stands for with its cells and its queues
abbrev pub told : {E X : Type 0} → Channel → List E → List (Entry X) → List (Entry X) → Told E X
told c bank receivers senders = record {
  there = covers c.ring bank;
  capacity = c.ring.capacity;
  closed = c.closed;
  buffer = held c.ring bank;
  receivers = receivers;
  senders = senders;
}

-- who waits at it, on that side
abbrev pub queued : {X : Type 0} → Side → Channel → State X → List (Entry X)
queued s c st = queue s c.number st.line st.table

abbrev pub seen : {E X : Type 0} → Channel → List E → State X → Told E X
seen c bank st = told c bank (queued Receivers c st) (queued Senders c st)

-- a new channel is open and holds nothing; there is none of more than 64 cells or past the end of all banks
abbrev pub new_channel : ℕ → ℕ → ℕ → Option Channel
new_channel number base capacity =
    cond (can_lie base capacity) (Some (record { number = number; ring = fresh base capacity; closed = false })) None

abbrev pub shut : Channel → Channel
shut c = record c { closed = true }
