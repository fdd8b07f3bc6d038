-- The part of a bank that a ring has, read as the list of its elements.
use Rattle.std.specs.Prelude.{ℕ, ◌+◌, ◌%◌, List, ◌++◌, take, drop, replicate}

-- the cell that lies `offset` cells after `first`, the first cell following the last
abbrev pub around : ℕ → ℕ → ℕ → ℕ
around first offset capacity = (first + offset) % capacity

-- the elements of a ring, oldest first: `count` cells from `first` on, the first cell following the last
unfoldable pub contents : {X : Type 0} → List X → ℕ → ℕ → List X
contents part first count = take count (drop first part ++ part)

-- a bank with `size` cells from `base` on set to `z`
abbrev pub cleared : {X : Type 0} → ℕ → ℕ → X → List X → List X
cleared base size z bank = take base bank ++ (replicate size z ++ drop (base + size) bank)
