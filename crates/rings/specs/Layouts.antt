-- Where a ring lies in its bank, and what the two together stand for.
use Rattle.std.specs.Prelude.{ℕ, ◌+◌, ◌-◌, ◌^◌, ◌<◌, ◌≤◌, Bool, cond, ◌&&◌, List, length, Some, None, Option, nat_le, nat_lt}
use Rattle.std.specs.List.{between}
use Rattle.rings.specs.Contents.{around, contents}

-- the numbers of a ring
pub record Layout : Type 0 where
  pub base : ℕ
  pub capacity : ℕ
  pub first : ℕ
  pub count : ℕ

-- what is true of the numbers of every ring
pub record Sound (l : Layout) : Type 0 where
  pub inside : l.base + l.capacity < 2 ^ 64
  pub small : l.capacity ≤ 64
  pub within : l.first ≤ l.capacity - 1
  pub counted : l.count ≤ l.capacity

-- a ring that holds nothing yet
abbrev pub fresh : ℕ → ℕ → Layout
fresh base capacity = record { base = base; capacity = capacity; first = 0; count = 0 }

-- a ring has at most 64 cells, and the number of the cell after them has 64 bits
abbrev pub can_lie : ℕ → ℕ → Bool
can_lie base capacity = nat_le capacity 64 && nat_lt (base + capacity) (2 ^ 64)

abbrev pub made : ℕ → ℕ → Option Layout
made base capacity = cond (can_lie base capacity) (Some (fresh base capacity)) None

-- whether the bank has all cells of the ring
abbrev pub covers : {X : Type 0} → Layout → List X → Bool
covers l bank = nat_le (l.base + l.capacity) (length bank)

-- what a ring and its bank stand for: the elements, oldest first
abbrev pub held : {X : Type 0} → Layout → List X → List X
held l bank = contents (between l.base (l.base + l.capacity) bank) l.first l.count

-- the cell of the bank that the next element is put in
abbrev pub next_cell : Layout → ℕ
next_cell l = l.base + around l.first l.count l.capacity

-- with one element more, and without the oldest
abbrev pub one_more : Layout → Layout
one_more l = record { base = l.base; capacity = l.capacity; first = l.first; count = l.count + 1 }

abbrev pub one_less : Layout → Layout
one_less l = record { base = l.base; capacity = l.capacity; first = around l.first 1 l.capacity; count = l.count - 1 }
