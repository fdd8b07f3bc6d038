-- What is printed of a script: it is read, linked, started and stepped on a fresh turning picker.
use Rattle.std.specs.Prelude.{ℕ, zero, suc, cond, List, [], ◌∷◌, ◌++◌, pos, Ok, Err, codes, Result}
use Rattle.words.specs.declared.refusal.Fault.{Fault}
use Rattle.words.specs.Refusals.{number_of}
use Rattle.words.specs.Words.{number}
use Rattle.lines.specs.declared.line.Line.{Line}
use Rattle.script.specs.Texts.{read_script}
use Rattle.linking.specs.Programs.{Program}
use Rattle.linking.specs.Links.{link_script}
use Rattle.pickers.specs.Meaning.{Meaning}
use Rattle.pickers.specs.Turning.{fresh_turning}
use Rattle.reports.specs.Shows.{show_report, text_line}
use Rattle.runs.specs.Runs.{Run, started}
use Rattle.runs.specs.Steps.{step}

-- the reports of at most n steps, until the run is over
abbrev pub reports : ℕ → Program → Run → Meaning → List ℕ
reports zero p run m = []
reports (suc n) p run m = cond run.over [] (show_report (step p run m).report ++ reports n p (step p run m).run (step p run m).meaning)

-- a refused script prints its number and line
abbrev pub refused : Fault → List ℕ
refused f = text_line (codes "NO") (number (pos (number_of f.refusal)) ∷ (number (pos f.line) ∷ []))

abbrev pub run_linked : Result Program Fault → List ℕ
run_linked (Ok p) = reports 1000 p (started p) fresh_turning
run_linked (Err f) = refused f

abbrev pub run_read : Result (List (Line (List ℕ))) Fault → List ℕ
run_read (Ok ls) = run_linked (link_script ls)
run_read (Err f) = refused f

abbrev pub prints : List ℕ → List ℕ
prints t = run_read (read_script t)
