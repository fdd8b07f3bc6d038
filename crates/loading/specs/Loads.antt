-- Loading a text: the script that it is, with its program, or its first fault.
use Rattle.std.specs.Prelude.{◌≡◌, ℕ, List, Ok, Err, Result}
use Rattle.words.specs.declared.refusal.Fault.{Fault}
use Rattle.lines.specs.declared.line.Line.{Line}
use Rattle.script.specs.Texts.{read_script}
use Rattle.script_laws.specs.Exact.{Lists}
use Rattle.linking.specs.declared.linked.Linked.{Linked}
use Rattle.linking.specs.declared.stop.Stop.{Stop}
use Rattle.linking.specs.declared.stop.Stop.TheVariants.{Faulty, Memory}
use Rattle.linking.specs.Programs.{Program}
use Rattle.linking.specs.Links.{link_script}
use Rattle.linking.specs.Sound.{Sound}
use Rattle.linking.specs.Meaning.{StandsFor}
use Rattle.linking.specs.Stages.{Stopped}

-- ---- the value
abbrev pub link_read : Result (List (Line (List ℕ))) Fault → Result Program Fault
link_read (Ok ls) = link_script ls
link_read (Err f) = Err f

-- the program of the script that the text is, or reading's fault, else linking's
abbrev pub load_text : List ℕ → Result Program Fault
load_text t = link_read (read_script t)

-- that script with its program, or that fault; of want of memory nothing more is said
abbrev pub Loads : List ℕ → Result Linked Stop → Type 0
Loads t (Ok l) = (read_script t ≡ Ok l.script) × (load_text t ≡ Ok l.program)
Loads t (Err s) = Stopped (load_text t) s

-- ---- which texts are loaded
-- t is the listing of ls, which keeps every rule, and p stands for ls and has what running needs
pub record Gives (t : List ℕ) (ls : List (Line (List ℕ))) (p : Program) : Type 0 where
  pub listed : Lists t ls
  pub stands : StandsFor ls p
  pub sound : Sound p

-- the text gives what was loaded; a fault is answered only if it gives nothing
abbrev pub LoadsExactly : List ℕ → Result Linked Stop → Type 0
LoadsExactly t (Ok l) = Gives t l.script l.program
LoadsExactly t (Err (Faulty f)) = (ls : List (Line (List ℕ))) (p : Program) → Gives t ls p → ⊥
LoadsExactly t (Err Memory) = Unit {0}
