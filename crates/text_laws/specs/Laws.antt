-- Reading a line and listing one undo each other.
use Rattle.std.specs.Prelude.{◌≡◌, ℕ, List, Ok, ◌≢◌}
use Rattle.std.specs.List.{AllByRecursion}
use Rattle.lines.specs.declared.line.Line.{Line}
use Rattle.lines.specs.Lines.{read_line}
use Rattle.lines.specs.Shows.{show_line, Good}

-- what is listed of a line is read as that line
abbrev pub ReadsBack : Type 0
ReadsBack = (n : ℕ) (l : Line (List ℕ)) → Good l → read_line n (show_line l) ≡ Ok l

-- a text that is read is what is listed of its line
abbrev pub ListsBack : Type 0
ListsBack = (n : ℕ) (t : List ℕ) (l : Line (List ℕ)) → read_line n t ≡ Ok l → Good l × (show_line l ≡ t)

-- a line that is listed does not break off
abbrev pub NoEnd : Type 0
NoEnd = (l : Line (List ℕ)) → Good l → AllByRecursion (λ c. c ≢ 10) (show_line l)
