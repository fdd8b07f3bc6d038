-- First in, first out: along any list of operations on a channel.
use Rattle.std.specs.Prelude.{◌≡◌, ℕ, Bool, true, cond, not, ◌&&◌, ◌||◌, List, [], ◌∷◌, ◌++◌, length, Some, None, Option, Ok, Err, Result, ◌==◌}
use Rattle.waiting.specs.declared.wish.Entry.{Entry}
use Rattle.channels.specs.declared.channel.Sent.{Sent}
use Rattle.channels.specs.declared.channel.Sent.TheVariants.{Handed, Buffered}
use Rattle.channels.specs.declared.errors.SendError.{SendError}
use Rattle.channels.specs.declared.channel.Received.{Received}
use Rattle.channels.specs.declared.channel.Received.TheVariants.{Taken, Handed as Passed, Drained}
use Rattle.channels.specs.declared.errors.ReceiveError.{ReceiveError}
use Rattle.channels.specs.Seen.{Told}
use Rattle.channels.specs.Rules.{sent, after_sent, parted, offered}
use Rattle.channels.specs.Receives.{got, after_got}
use Rattle.channels.specs.Settled.{some, Settled, joined_by}

-- what can be done with a channel; a routine that joins or leaves brings or takes entries of both queues
pub data Deed (E X : Type 0) : Type 0 where
  sends : E → Deed E X
  receives : Deed E X
  joins : List (Entry X) → List (Entry X) → Deed E X
  leaves : ℕ → Deed E X
  closes : Deed E X

-- whether cases on a channel cannot go, so that a routine waits there
abbrev pub may_wait : {E X : Type 0} → List (Entry X) → List (Entry X) → Told E X → Bool
may_wait rs ss c =
    (not (some rs) || (not c.closed && length c.buffer == 0))
    && (not (some ss) || (not c.closed && length c.buffer == c.capacity))

-- closed, with nobody waiting
abbrev pub closed_off : {E X : Type 0} → Told E X → Told E X
closed_off c = record c { closed = true; receivers = []; senders = [] }

abbrev pub done : {E X : Type 0} → (X → E) → E → Deed E X → Told E X → Told E X
done f z (sends e) c = after_sent (sent c) e c
done f z receives c = after_got f z (got f z c) c
done f z (joins rs ss) c = cond (may_wait rs ss c) (joined_by rs ss c) c
done f z (leaves r) c = parted r c
done f z closes c = closed_off c

-- the elements that the channel accepts by an answer, and those that somebody receives
abbrev pub accepted_sent : {E X : Type 0} → E → Result (Sent X) SendError → List E
accepted_sent e (Ok how) = e ∷ []
accepted_sent e (Err why) = []

abbrev pub received_sent : {E X : Type 0} → E → Result (Sent X) SendError → List E
received_sent e (Ok (Handed w)) = e ∷ []
received_sent e (Ok Buffered) = []
received_sent e (Err why) = []

abbrev pub refill : {E X : Type 0} → (X → E) → E → Option (Entry X) → List E
refill f z None = []
refill f z (Some w) = offered f z w ∷ []

abbrev pub accepted_got : {E X : Type 0} → (X → E) → E → Result (Received E X) ReceiveError → List E
accepted_got f z (Ok (Taken e sender)) = refill f z sender
accepted_got f z (Ok (Passed e w)) = e ∷ []
accepted_got f z (Ok Drained) = []
accepted_got f z (Err why) = []

abbrev pub received_got : {E X : Type 0} → Result (Received E X) ReceiveError → List E
received_got (Ok (Taken e sender)) = e ∷ []
received_got (Ok (Passed e w)) = e ∷ []
received_got (Ok Drained) = []
received_got (Err why) = []

abbrev pub accepts : {E X : Type 0} → (X → E) → E → Deed E X → Told E X → List E
accepts f z (sends e) c = accepted_sent e (sent c)
accepts f z receives c = accepted_got f z (got f z c)
accepts f z (joins rs ss) c = []
accepts f z (leaves r) c = []
accepts f z closes c = []

abbrev pub gives : {E X : Type 0} → (X → E) → E → Deed E X → Told E X → List E
gives f z (sends e) c = received_sent e (sent c)
gives f z receives c = received_got (got f z c)
gives f z (joins rs ss) c = []
gives f z (leaves r) c = []
gives f z closes c = []

-- along a list
abbrev pub all_done : {E X : Type 0} → (X → E) → E → List (Deed E X) → Told E X → Told E X
all_done f z [] c = c
all_done f z (d ∷ ds) c = all_done f z ds (done f z d c)

abbrev pub all_accepted : {E X : Type 0} → (X → E) → E → List (Deed E X) → Told E X → List E
all_accepted f z [] c = []
all_accepted f z (d ∷ ds) c = accepts f z d c ++ all_accepted f z ds (done f z d c)

abbrev pub all_received : {E X : Type 0} → (X → E) → E → List (Deed E X) → Told E X → List E
all_received f z [] c = []
all_received f z (d ∷ ds) c = gives f z d c ++ all_received f z ds (done f z d c)

-- from a settled channel: it stays settled, and what was buffered and accepted is what was received and is buffered now
abbrev pub FirstInFirstOut : Type 0 → Type 0 → Type 0
FirstInFirstOut E X =
    (f : X → E) (z : E) (ds : List (Deed E X)) (c : Told E X) → Settled c
    → Settled (all_done f z ds c) × (c.buffer ++ all_accepted f z ds c ≡ all_received f z ds c ++ (all_done f z ds c).buffer)
