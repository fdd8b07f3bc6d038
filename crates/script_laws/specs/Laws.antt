-- Which texts are scripts: the listings of those that keep the rules, and no others.
use Rattle.std.specs.Prelude.{◌≡◌, ℕ, List, Ok}
use Rattle.lines.specs.declared.line.Line.{Line}
use Rattle.script.specs.Kept.{Kept}
use Rattle.script.specs.Texts.{read_script, show}

-- every script that keeps the rules is read back from its listing
abbrev pub AcceptsKept : Type 0
AcceptsKept = (ls : List (Line (List ℕ))) → Kept ls → read_script (show ls) ≡ Ok ls

-- only listings of such scripts are read
abbrev pub AcceptsOnly : Type 0
AcceptsOnly = (t : List ℕ) (ls : List (Line (List ℕ))) → read_script t ≡ Ok ls → Kept ls × (show ls ≡ t)
