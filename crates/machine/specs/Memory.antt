-- A run as memory keeps it, and what a step leaves there.
use Rattle.std.specs.Prelude.{◌≡◌, ℕ, ◌<◌, ◌≤◌, Bool, List, [], ◌∷◌, length, map, drop, Some, None, Option, slice_set, Ok, Err, Result}
use Rattle.elements.specs.declared.value.Value.{Value}
use Rattle.elements.specs.declared.handle.Handle.{Handle}
use Rattle.pickers.specs.Meaning.{Meaning}
use Rattle.words.specs.declared.refusal.Refusal.{Refusal}
use Rattle.reports.specs.declared.report.Deed.{Deed}
use Rattle.reports.specs.declared.report.Deed.TheVariants.{Panics, Passes, Waits}
use Rattle.reports.specs.declared.report.Pass.TheVariants as pass
use Rattle.reports.specs.declared.report.Panic.TheVariants.{ClosedSend}
use Rattle.reports.specs.declared.report.Picked.{Picked}
use Rattle.routines.specs.declared.item.Item.{Item}
use Rattle.routines.specs.declared.routine.Passed.{Passed}
use Rattle.routines.specs.declared.routine.Passed.TheVariants.{Broken}
use Rattle.routines.specs.declared.routine.Release.{Release}
use Rattle.routines.specs.declared.routine.Routine.{Routine}
use Rattle.routines.specs.declared.routine.State.{State}
use Rattle.routines.specs.declared.routine.State.TheVariants.{Waiting, Released}
use Rattle.routines.specs.Registers.{at_line, in_state}
use Rattle.waiting.specs.declared.wish.Entry.{Entry}
use Rattle.waiting.specs.Queues.{Row}
use Rattle.reports.specs.declared.report.Event.TheVariants.{Turn}
use Rattle.reports.specs.declared.report.Report.{Report}
use Rattle.runs.specs.Runs.{Parts, Run, Channel, routine, goes_on, release_all, stopped}
use Rattle.runs.specs.Taking.{dismissed}
use Rattle.runs.specs.Cases.{Branch}
use Rattle.runs.specs.Questions.{step_refused}
use Rattle.runs.specs.Steps.{Step, shown, written_by, released_run, accepted_of, received_of, either}
use Rattle.hub.specs.declared.port.Port.{Port}
use Rattle.hub.specs.Boards.{Board, seen, enough}
use Rattle.hub.specs.Deals.{drawn_from, stored_in, leaving_from, board_closed, board_joined, values_after, handles_after}

-- what memory stands for with the cells of both kinds
abbrev pub seen_run : Parts Board → List Value → List Handle → Run
seen_run run vs hs = record { routines = run.routines; hub = seen run.hub vs hs; turns = run.turns; over = run.over }

-- a run of these parts
abbrev pub run_of : List Routine → Board → List ℕ → Bool → Parts Board
run_of xs b ts over = record { routines = xs; hub = b; turns = ts; over = over }

-- how a close of channel c releases those who waited there
abbrev pub dismissed_all : ℕ → List (Entry Item) → List Release
dismissed_all c es = map (λ w. dismissed w c w.wish) es

-- memory when a close of channel c has released all who waited there
abbrev pub closing_memory : ℕ → Parts Board → Parts Board
closing_memory c run = release_all (dismissed_all c (leaving_from c run.hub)) (record run { hub = board_closed c run.hub })

-- each channel with the mark that it has in the run
abbrev pub marked : List Channel → List Port → List Port
marked [] ps = ps
marked (c ∷ cs) [] = []
marked (c ∷ cs) (p ∷ ps) = record p { channel = record p.channel { closed = c.closed } } ∷ marked cs ps

-- memory after a step: in the rings only what was drawn and stored is changed
abbrev pub board_of : Step → Board → Board
board_of s b = record { ports = marked s.run.hub.channels (stored_in s.stored (drawn_from s.drawn b.ports)); line = s.run.hub.line; wishes = s.run.hub.wishes }

abbrev pub memory_of : Step → Parts Board → Parts Board
memory_of s run = record { routines = s.run.routines; hub = board_of s run.hub; turns = s.run.turns; over = s.run.over }

-- a step was made: what it answers, what memory keeps and stands for afterwards, and all cells afterwards
pub record Made (s : Step) (answer : Report) (old new : Parts Board) (vs vs' : List Value) (hs hs' : List Handle) : Type 0 where
  pub report : answer ≡ s.report
  pub memory : new ≡ memory_of s old
  pub run : seen_run new vs' hs' ≡ s.run
  pub values : vs' ≡ values_after old.hub.ports s.drawn s.stored vs
  pub handles : hs' ≡ handles_after old.hub.ports s.drawn s.stored hs

-- routine r has its turn, and there is room for the turns of whoever waits
pub record Front {H : Type 0} (r : ℕ) (run : Parts H) : Type 0 where
  pub first : run.turns ≡ r ∷ drop 1 run.turns
  pub there : r < length run.routines
  pub few : length run.routines ≤ 64

-- the report of a turn that moves no element
abbrev pub told : ℕ → ℕ → Deed → Report
told r p d = record { event = Turn r p d; picked = None; accepted = None; received = None }

-- ---- a case was taken: routine r passes by it, the branch b, or breaks
abbrev pub settled : {H : Type 0} → ℕ → Branch → Passed → Option Release → Parts H → Parts H
settled r b Broken w run = stopped run
settled r b q w run = goes_on r (at_line b.target (written_by b.exchange q (routine (released_run w run) r))) (released_run w run)

abbrev pub settled_report : ℕ → ℕ → ℕ → Option Picked → Passed → Option Release → Report
settled_report r p k pk Broken w = record { event = Turn r p (Panics ClosedSend); picked = pk; accepted = None; received = None }
settled_report r p k pk q w = record { event = Turn r p (Passes k (shown q)); picked = pk; accepted = either accepted_of r q w; received = either received_of r q w }

-- no case can go: the routine joins the queues with all of them
abbrev pub waits_in : ℕ → Routine → Row Item → Parts Board → Parts Board
waits_in r x ws run = record run { routines = slice_set run.routines r (in_state Waiting x); hub = board_joined r ws run.hub; turns = drop 1 run.turns }

-- without a default it waits, and passes by that otherwise
abbrev pub unready : ℕ → Routine → Row Item → Option (ℕ × ℕ) → Parts Board → Parts Board
unready r x ws None run = waits_in r x ws run
unready r x ws (Some d) run = goes_on r (at_line d.1 x) run

abbrev pub unready_report : ℕ → ℕ → Option (ℕ × ℕ) → Report
unready_report r p None = told r p Waits
unready_report r p (Some d) = told r p (Passes d.0 pass.Default)

-- ---- a turn that the routine was released for: it passes so, and nothing moves any more
abbrev pub passed_on : {H : Type 0} → ℕ → Branch → Passed → Parts H → Parts H
passed_on r b Broken run = stopped run
passed_on r b q run = goes_on r (at_line b.target (written_by b.exchange q (routine run r))) run

abbrev pub passed_report : ℕ → ℕ → ℕ → Passed → Report
passed_report r p k Broken = told r p (Panics ClosedSend)
passed_report r p k q = told r p (Passes k (shown q))

-- a step that leaves all cells alone was made, whatever they are
abbrev pub MadeBy : (Run → Meaning → Step) → Report → Parts Board → Parts Board → Type 0
MadeBy f answer old new = (m : Meaning) (vs : List Value) (hs : List Handle) → Made (f (seen_run old vs hs) m) answer old new vs vs hs hs

-- by which case a routine in that state was released, and how it passes by it
abbrev pub released_with : State → Option (ℕ × Passed)
released_with (Released k q) = Some (k, q)
released_with _ = None

-- ---- the call of a step
abbrev pub refused : Run → List Value → List Handle → Option Refusal
refused run vs hs = step_refused (enough vs hs) run.over

abbrev pub answered : Option Refusal → Report → Result Report Refusal
answered None x = Ok x
answered (Some why) x = Err why

-- what a call leaves: nothing is changed where it is refused
abbrev pub left : {A : Type 0} → Option Refusal → A → A → A
left None made old = made
left (Some why) made old = old

-- what a step answers, what memory keeps and stands for afterwards, the picker's meaning, and every cell
pub record Stepped (o : Option Refusal) (s : Step) (m : Meaning) (old : Parts Board) (vs : List Value) (hs : List Handle) (r : Result Report Refusal) (m' : Meaning) (new : Parts Board) (vs' : List Value) (hs' : List Handle) : Type 0 where
  pub answer : r ≡ answered o s.report
  pub memory : new ≡ left o (memory_of s old) old
  pub run : seen_run new vs' hs' ≡ left o s.run (seen_run old vs hs)
  pub meaning : m' ≡ left o s.meaning m
  pub values : vs' ≡ left o (values_after old.hub.ports s.drawn s.stored vs) vs
  pub handles : hs' ≡ left o (handles_after old.hub.ports s.drawn s.stored hs) hs
