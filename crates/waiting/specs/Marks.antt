-- Marks: for each queue the set of the routines that stand in it. A set is a number, whose binary digit r is 1 where routine r is in it.
use Rattle.std.specs.Prelude.{◌≡◌, ℕ, Bool, false, ◌+◌, ◌*◌, not, ◌||◌, ◌&&◌, List, Some, None, Option, ◌==◌, nat_lt, slice_index_or}
use Rattle.std.specs.Int.{bit_at}
use Rattle.std.specs.List.{list_any}
use Rattle.waiting.specs.declared.wish.Wish.{Wish}
use Rattle.waiting.specs.declared.wish.Side.{Side}
use Rattle.waiting.specs.declared.wish.Side.TheVariants.{Receivers, Senders}
use Rattle.waiting.specs.Queues.{Row, stands, cases, waits}

-- whether routine r, one of the 64, is in a set
abbrev pub has : ℕ → ℕ → Bool
has set r = nat_lt r 64 && bit_at set r == 1

-- a set has exactly the routines of the line
abbrev pub IsPresent : List ℕ → ℕ → Type 0
IsPresent line set = (r : ℕ) → has set r ≡ waits r line

-- where the set of a queue lies: those of channel c side by side
abbrev pub slot : Side → ℕ → ℕ
slot Receivers c = 2 * c
slot Senders c = 2 * c + 1

-- whether routine r is marked as standing in that queue
abbrev pub marked : Side → ℕ → ℕ → List ℕ → Bool
marked s c r marks = has (slice_index_or marks (slot s c) 0) r

-- whether a case, which may be one that never goes, stands in that queue
abbrev pub case_stands : {X : Type 0} → Side → ℕ → Option (Wish X) → Bool
case_stands s c None = false
case_stands s c (Some w) = stands s c w

-- whether one of the cases stands there
abbrev pub any_stands : {X : Type 0} → Side → ℕ → Row X → Bool
any_stands s c ws = list_any (case_stands s c) ws

-- from marks to marks', routine r was marked in each queue where one of its cases ws stands
abbrev pub Marked : {X : Type 0} → ℕ → Row X → List ℕ → List ℕ → Type 0
Marked r ws marks marks' = (s : Side) (c k : ℕ) → marked s c k marks' ≡ (marked s c k marks || (k == r && any_stands s c ws))

-- from marks to marks', the marks of routine r were taken away from there
abbrev pub Unmarked : {X : Type 0} → ℕ → Row X → List ℕ → List ℕ → Type 0
Unmarked r ws marks marks' = (s : Side) (c k : ℕ) → marked s c k marks' ≡ (marked s c k marks && not (k == r && any_stands s c ws))

-- a set has exactly the routines that stand in that queue: those that wait and have a case that stands there
abbrev pub IsSetOf : {X : Type 0} → Side → ℕ → List ℕ → List (Row X) → ℕ → Type 0
IsSetOf s c line table set = (r : ℕ) → has set r ≡ (waits r line && any_stands s c (cases r table))

-- the marks have the set of every queue
abbrev pub Exact : {X : Type 0} → List ℕ → List (Row X) → List ℕ → Type 0
Exact line table marks = (s : Side) (c : ℕ) → IsSetOf s c line table (slice_index_or marks (slot s c) 0)
