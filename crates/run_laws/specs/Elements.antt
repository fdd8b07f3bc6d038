-- What a channel accepts is what is received from it, in order, and then what it buffers.
use Rattle.std.specs.Prelude.{◌≡◌, ℕ, zero, suc, cond, List, [], ◌∷◌, ◌++◌, map, Some, None, Option, ◌==◌}
use Rattle.std.specs.List.{flat_map}
use Rattle.linking.specs.Programs.{Program}
use Rattle.pickers.specs.Meaning.{Meaning, Lawful}
use Rattle.reports.specs.declared.report.Move.{Move}
use Rattle.reports.specs.declared.report.Report.{Report}
use Rattle.routines.specs.Items.{code_of}
use Rattle.runs.specs.Runs.{Run, channel, started}
use Rattle.runs.specs.Steps.{step}
use Rattle.run_laws.specs.Settled.{Settled, FewCases}

-- the codes of the elements that channel c buffers, the oldest first
abbrev pub held : Run → ℕ → List ℕ
held run c = map code_of (channel run.hub c).buffer

-- the code of a move on channel c
abbrev pub codes_on : ℕ → Option Move → List ℕ
codes_on c None = []
codes_on c (Some m) = cond (m.channel == c) (m.code ∷ []) []

-- in a step
abbrev pub StepKeepsElements : Type 0
StepKeepsElements = (p : Program) (run : Run) (m : Meaning) → Lawful m → Settled p run → (c : ℕ)
    → held run c ++ codes_on c (step p run m).report.accepted ≡ codes_on c (step p run m).report.received ++ held (step p run m).run c

-- ---- in a list of steps
-- the reports of the next n steps, and the run after them
abbrev pub reports : Program → ℕ → Run → Meaning → List Report
reports p zero run m = []
reports p (suc n) run m = (step p run m).report ∷ reports p n (step p run m).run (step p run m).meaning

abbrev pub run_after : Program → ℕ → Run → Meaning → Run
run_after p zero run m = run
run_after p (suc n) run m = run_after p n (step p run m).run (step p run m).meaning

abbrev pub accepted_on : ℕ → List Report → List ℕ
accepted_on c rs = flat_map (λ r. codes_on c r.accepted) rs

abbrev pub received_on : ℕ → List Report → List ℕ
received_on c rs = flat_map (λ r. codes_on c r.received) rs

abbrev pub KeepsElements : Type 0
KeepsElements = (p : Program) (n : ℕ) (run : Run) (m : Meaning) → FewCases p → Lawful m → Settled p run → (c : ℕ)
    → held run c ++ accepted_on c (reports p n run m) ≡ received_on c (reports p n run m) ++ held (run_after p n run m) c

-- from the start on
abbrev pub ElementsInOrder : Type 0
ElementsInOrder = (p : Program) (n : ℕ) (m : Meaning) → FewCases p → Lawful m → (c : ℕ)
    → accepted_on c (reports p n (started p) m) ≡ received_on c (reports p n (started p) m) ++ held (run_after p n (started p) m) c
