-- What holds of every run from its start on: who waits and who has a turn.
use Rattle.std.specs.Prelude.{ℕ, ◌+◌, ◌<◌, ◌≤◌, List, ◌++◌, length, ◌==◌}
use Rattle.std.specs.List.{All, IsDistinct}
use Rattle.runs.specs.Runs.{Run}

-- of n routines, at most 64: nobody has two turns, or waits twice, or waits and has a turn
pub record Orderly (n : ℕ) (turns line : List ℕ) : Type 0 where
  pub few : n ≤ 64
  pub count : length turns + length line ≤ n
  pub there : All (λ r. r < n) (turns ++ line)
  pub once : IsDistinct ◌==◌ (turns ++ line)

abbrev pub OrderlyRun : Run → Type 0
OrderlyRun run = Orderly (length run.routines) run.turns run.hub.line
