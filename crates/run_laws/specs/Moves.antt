-- The moves naming a routine are those that it reports passing by, and then the one that it was released with.
use Rattle.std.specs.Prelude.{◌≡◌, ℕ, cond, List, [], ◌∷◌, ◌++◌, Some, None, Option, ◌==◌}
use Rattle.std.specs.List.{flat_map}
use Rattle.linking.specs.Programs.{Program}
use Rattle.pickers.specs.Meaning.{Meaning, Lawful}
use Rattle.reports.specs.declared.report.Deed.{Deed}
use Rattle.reports.specs.declared.report.Deed.TheVariants.{Passes}
use Rattle.reports.specs.declared.report.Event.{Event}
use Rattle.reports.specs.declared.report.Event.TheVariants.{Turn, Stall}
use Rattle.reports.specs.declared.report.Move.{Move}
use Rattle.reports.specs.declared.report.Pass.{Pass}
use Rattle.reports.specs.declared.report.Pass.TheVariants as pass
use Rattle.reports.specs.declared.report.Report.{Report}
use Rattle.routines.specs.Items.{code_of}
use Rattle.routines.specs.declared.routine.Passed.{Passed}
use Rattle.routines.specs.declared.routine.Passed.TheVariants.{Sent, Received, Drained, Broken}
use Rattle.routines.specs.declared.routine.State.{State}
use Rattle.routines.specs.declared.routine.State.TheVariants.{Released}
use Rattle.runs.specs.Runs.{Run, routine, started}
use Rattle.runs.specs.Steps.{step}
use Rattle.run_laws.specs.Settled.{Settled, FewCases}
use Rattle.run_laws.specs.Elements.{reports, run_after}

-- a routine sends or receives: the channel, and the code of the element
pub data Moved : Type 0 where
  sends : ℕ → ℕ → Moved
  receives : ℕ → ℕ → Moved

-- ---- the moves that a report names routine r in
abbrev pub naming : ℕ → (ℕ → ℕ → Moved) → Option Move → List Moved
naming r way None = []
naming r way (Some m) = cond (m.routine == r) (way m.channel m.code ∷ []) []

abbrev pub moves : ℕ → Report → List Moved
moves r t = naming r sends t.accepted ++ naming r receives t.received

-- ---- the move of a case that is passed by
abbrev pub move_shown : Pass → List Moved
move_shown (pass.Sent c e) = sends c e ∷ []
move_shown (pass.Received c e) = receives c e ∷ []
move_shown (pass.Drained c) = []
move_shown pass.Default = []

abbrev pub move_done : Deed → List Moved
move_done (Passes k w) = move_shown w
move_done _ = []

abbrev pub passed_by : ℕ → Event → List Moved
passed_by r (Turn q n d) = cond (q == r) (move_done d) []
passed_by r (Stall n) = []

-- ---- the move that a released routine has still to pass by
abbrev pub move_due : Passed → List Moved
move_due (Sent c e) = sends c (code_of e) ∷ []
move_due (Received c e) = receives c (code_of e) ∷ []
move_due (Drained c) = []
move_due Broken = []

abbrev pub due_in : State → List Moved
due_in (Released k q) = move_due q
due_in _ = []

abbrev pub due : Run → ℕ → List Moved
due run r = due_in (routine run r).state

-- in a step
abbrev pub StepKeepsMoves : Type 0
StepKeepsMoves = (p : Program) (run : Run) (m : Meaning) → Settled p run → (r : ℕ)
    → due run r ++ moves r (step p run m).report ≡ passed_by r (step p run m).report.event ++ due (step p run m).run r

-- in a list of steps
abbrev pub all_moves : ℕ → List Report → List Moved
all_moves r rs = flat_map (moves r) rs

abbrev pub all_passed : ℕ → List Report → List Moved
all_passed r rs = flat_map (λ t. passed_by r t.event) rs

abbrev pub KeepsMoves : Type 0
KeepsMoves = (p : Program) (n : ℕ) (run : Run) (m : Meaning) → FewCases p → Lawful m → Settled p run → (r : ℕ)
    → due run r ++ all_moves r (reports p n run m) ≡ all_passed r (reports p n run m) ++ due (run_after p n run m) r

-- from the start on
abbrev pub MovesInOrder : Type 0
MovesInOrder = (p : Program) (n : ℕ) (m : Meaning) → FewCases p → Lawful m → (r : ℕ)
    → all_moves r (reports p n (started p) m) ≡ all_passed r (reports p n (started p) m) ++ due (run_after p n (started p) m) r
