-- What a waiting line stands for, as contracts see it.
use Rattle.std.specs.Prelude.{ℕ, List, [], replicate}
use Rattle.waiting.specs.Queues.{Row}

-- the routines that wait, the one that has waited longest first, and the table of cases, a row for each routine
pub record State (X : Type 0) : Type 0 where
  pub line : List ℕ
  pub table : List (Row X)

-- nobody waits: 64 routines without cases
abbrev pub nobody : {X : Type 0} → State X
nobody = record { line = []; table = replicate 64 [] }
