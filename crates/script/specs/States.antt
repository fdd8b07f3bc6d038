-- What a script that was read stands for, and the laws of its listing.
use Rattle.std.specs.Prelude.{◌≡◌, ℕ, List, Ok, Err, Result}
use Rattle.words.specs.declared.refusal.Fault.{Fault}
use Rattle.lines.specs.declared.line.Line.{Line}
use Rattle.script.specs.declared.state.Unread.{Unread}
use Rattle.script.specs.Texts.{read_script, show}

abbrev pub answer : Result (List (Line (List ℕ))) Unread → Result (List (Line (List ℕ))) Fault
answer (Ok ls) = Ok ls
answer (Err u) = Err u.fault

-- a script that was read from a text is listed as that text, which reads as the same script
pub record ListedBack (ls : List (Line (List ℕ))) (t : List ℕ) : Type 0 where
  pub same_text : show ls ≡ t
  pub same_script : read_script (show ls) ≡ Ok ls
