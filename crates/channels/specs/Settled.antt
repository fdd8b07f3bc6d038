-- What every channel keeps.
use Rattle.std.specs.Prelude.{◌≡◌, ℕ, ◌≤◌, Bool, true, false, List, [], ◌∷◌, ◌++◌, length}
use Rattle.waiting.specs.declared.wish.Side.{Side}
use Rattle.waiting.specs.declared.wish.Entry.{Entry}
use Rattle.waiting.specs.Queues.{Row, queue}
use Rattle.channels.specs.Seen.{Told}
use Rattle.channels.specs.Rules.{sent, after_sent, parted}
use Rattle.channels.specs.Receives.{got, after_got}
use Rattle.channels.specs.Closes.{freed, without_all}

abbrev pub some : {A : Type 0} → List A → Bool
some [] = false
some (x ∷ xs) = true

-- it buffers at most its capacity; a receiver waits only where it is open and its buffer empty,
-- a sender only where it is open and its buffer full
pub record Settled {E X : Type 0} (c : Told E X) : Type 0 where
  pub few : length c.buffer ≤ c.capacity
  pub receivers_wait : some c.receivers ≡ true → (c.closed ≡ false) × (c.buffer ≡ [])
  pub senders_wait : some c.senders ≡ true → (c.closed ≡ false) × (length c.buffer ≡ c.capacity)

-- a channel that takes a send or a receive keeps this
abbrev pub SendsSettle : Type 0 → Type 0 → Type 0
SendsSettle E X = (c : Told E X) (e : E) → Settled c → Settled (after_sent (sent c) e c)

abbrev pub ReceivesSettle : Type 0 → Type 0 → Type 0
ReceivesSettle E X = (f : X → E) (z : E) (c : Told E X) → Settled c → Settled (after_got f z (got f z c) c)

-- and so does every channel that a routine leaves
abbrev pub LeavingSettles : Type 0 → Type 0 → Type 0
LeavingSettles E X = (r : ℕ) (c : Told E X) → Settled c → Settled (parted r c)

-- a routine that joins both queues of a channel with these entries
abbrev pub joined_by : {E X : Type 0} → List (Entry X) → List (Entry X) → Told E X → Told E X
joined_by rs ss c = record c { receivers = c.receivers ++ rs; senders = c.senders ++ ss }

-- a channel keeps it where a routine joins with cases that cannot go there
abbrev pub JoiningSettles : Type 0 → Type 0 → Type 0
JoiningSettles E X =
    (rs ss : List (Entry X)) (c : Told E X)
    → (some rs ≡ true → (c.closed ≡ false) × (c.buffer ≡ []))
    → (some ss ≡ true → (c.closed ≡ false) × (length c.buffer ≡ c.capacity))
    → Settled c → Settled (joined_by rs ss c)

-- after a close nobody waits at the channel
abbrev pub ClosingFreesAll : Type 0 → Type 0
ClosingFreesAll X =
    (s : Side) (c : ℕ) (line : List ℕ) (table : List (Row X))
    → queue s c (without_all (freed c line table) line) table ≡ []
