-- Who waits and who has a turn, from the start on; and what no step changes.
use Rattle.std.specs.Prelude.{◌≡◌, ℕ, ◌≤◌, List, map, length}
use Rattle.lines.specs.declared.line.Kind.{Kind}
use Rattle.linking.specs.Programs.{Program}
use Rattle.pickers.specs.Meaning.{Meaning}
use Rattle.runs.specs.Runs.{Channel, Run, started}
use Rattle.runs.specs.Steps.{step}
use Rattle.runs.specs.Orderly.{OrderlyRun}

abbrev pub BeginsOrderly : Type 0
BeginsOrderly = (p : Program) → OrderlyRun (started p)

abbrev pub StaysOrderly : Type 0
StaysOrderly = (p : Program) (run : Run) (m : Meaning) → OrderlyRun run → OrderlyRun (step p run m).run

-- no routine is forgotten
abbrev pub NeverFewer : Type 0
NeverFewer = (p : Program) (run : Run) (m : Meaning) → length run.routines ≤ length (step p run m).run.routines

-- what a channel keeps
abbrev pub kinds : List Channel → List (Kind × ℕ)
kinds cs = map (λ c. (c.kind, c.capacity)) cs

-- all channels keep their kinds and their capacities
abbrev pub ChannelsStay : Type 0
ChannelsStay = (p : Program) (run : Run) (m : Meaning) → kinds (step p run m).run.hub.channels ≡ kinds run.hub.channels
