-- The queues of the channels, read from the waiting line and the table of cases. The definitions are of these parts, and of
-- a side and a channel: the laws speak of a line and a table apart, and of both sides of one channel.
use Rattle.std.specs.Prelude.{ℕ, Bool, false, cond, not, List, [], ◌∷◌, ◌<◌, Some, None, filter, Option, ◌==◌, slice_index_or, slice_set}
use Rattle.std.specs.List.{All, IsDistinct, enumerate_from, filter_map, flat_map, list_any}
use Rattle.waiting.specs.declared.wish.Wish.{Wish}
use Rattle.waiting.specs.declared.wish.Wish.TheVariants.{Send, Receive}
use Rattle.waiting.specs.declared.wish.Side.{Side}
use Rattle.waiting.specs.declared.wish.Side.TheVariants.{Receivers, Senders}
use Rattle.waiting.specs.declared.wish.Entry.{Entry}

-- what each case of a routine waits for; a case that never goes waits for None
abbrev pub Row : Type 0 → Type 0
Row X = List (Option (Wish X))

-- whether a case stands in that queue of channel c
abbrev pub stands : {X : Type 0} → Side → ℕ → Wish X → Bool
stands Receivers c (Send d x) = false
stands Receivers c (Receive d) = d == c
stands Senders c (Send d x) = d == c
stands Senders c (Receive d) = false

-- the place of case k of routine r, if it stands there
abbrev pub place : {X : Type 0} → Side → ℕ → ℕ → ℕ → Option (Wish X) → Option (Entry X)
place s c r k None = None
place s c r k (Some w) = cond (stands s c w) (Some (record { routine = r; case = k; wish = w })) None

-- the places of routine r, in the order of its cases from case k on
abbrev pub places : {X : Type 0} → Side → ℕ → ℕ → ℕ → Row X → List (Entry X)
places s c r k ws = filter_map (λ p. place s c r p.0 p.1) (enumerate_from k ws)

-- the cases of routine r
abbrev pub cases : {X : Type 0} → ℕ → List (Row X) → Row X
cases r table = slice_index_or table r []

-- a queue: who has waited longest stands first
abbrev pub queue : {X : Type 0} → Side → ℕ → List ℕ → List (Row X) → List (Entry X)
queue s c line table = flat_map (λ r. places s c r 0 (cases r table)) line

abbrev pub first : {A : Type 0} → List A → Option A
first [] = None
first (x ∷ xs) = Some x

-- whether a routine waits
abbrev pub waits : ℕ → List ℕ → Bool
waits r line = list_any (λ q. r == q) line

-- all in the line are below n, and nobody stands in it twice
abbrev pub Orderly : ℕ → List ℕ → Type 0
Orderly n line = All (λ q. q < n) line × IsDistinct ◌==◌ line

-- the line when a routine has left it
abbrev pub without : ℕ → List ℕ → List ℕ
without r line = filter (λ q. not (q == r)) line

-- the table when routine r has the cases ws
abbrev pub written : {X : Type 0} → ℕ → Row X → List (Row X) → List (Row X)
written r ws table = slice_set table r ws

-- the line when the front of a queue was released
abbrev pub released : {X : Type 0} → Option (Entry X) → List ℕ → List ℕ
released None line = line
released (Some e) line = without e.routine line
