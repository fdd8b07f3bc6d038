-- What every script that was read keeps.
use Rattle.std.specs.Prelude.{◌≡◌, ℕ, ◌≤◌, List, [], ◌∷◌, length, None}
use Rattle.std.specs.List.{AllByRecursion}
use Rattle.lines.specs.declared.line.Line.{Line}
use Rattle.lines.specs.Roles.{role}
use Rattle.lines.specs.Shows.{Good}
use Rattle.script.specs.Rules.{Standing, fresh, standing, judge}
use Rattle.script.specs.Texts.{none_left, show}

-- after lines that left s, none of the lines is refused
abbrev pub Admitted : Standing → List (Line (List ℕ)) → Type 0
Admitted s [] = Unit {0}
Admitted s (l ∷ ls) = (judge s (role l) (none_left ls) ≡ None) × Admitted (standing s (role l)) ls

-- a script that keeps the rules
pub record Kept (ls : List (Line (List ℕ))) : Type 0 where
  pub good : AllByRecursion Good ls
  pub admitted : Admitted fresh ls
  pub short : length (show ls) ≤ 32768
