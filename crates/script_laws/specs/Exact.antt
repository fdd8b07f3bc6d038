-- When a text is read.
use Rattle.std.specs.Prelude.{◌≡◌, ℕ, ◌≤◌, List, length, Ok, Result}
use Rattle.std.specs.List.{AllByRecursion}
use Rattle.words.specs.declared.refusal.Fault.{Fault}
use Rattle.lines.specs.declared.line.Line.{Line}
use Rattle.lines.specs.Shows.{Good}
use Rattle.script.specs.Texts.{show}
use Rattle.script_laws.specs.Lawful.{Lawful}

-- ls keeps every rule, and t is its listing
pub record Lists (t : List ℕ) (ls : List (Line (List ℕ))) : Type 0 where
  pub lawful : Lawful ls
  pub good : AllByRecursion Good ls
  pub short : length (show ls) ≤ 32768
  pub listed : show ls ≡ t

-- t is read as ls exactly if ls keeps every rule and t is its listing
pub record Exactly (t : List ℕ) (o : Result (List (Line (List ℕ))) Fault) : Type 0 where
  pub only : (ls : List (Line (List ℕ))) → o ≡ Ok ls → Lists t ls
  pub all : (ls : List (Line (List ℕ))) → Lists t ls → o ≡ Ok ls
