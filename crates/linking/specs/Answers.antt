-- What linking answers.
use Rattle.std.specs.Prelude.{◌≡◌, ℕ, List, Ok, Err, Result}
use Rattle.lines.specs.declared.line.Line.{Line}
use Rattle.linking.specs.declared.stop.Stop.{Stop}
use Rattle.linking.specs.declared.stop.Stop.TheVariants.{Faulty, Memory}
use Rattle.linking.specs.declared.linked.Linked.{Linked}
use Rattle.linking.specs.declared.linked.Unlinked.{Unlinked}
use Rattle.linking.specs.Programs.{Program}
use Rattle.linking.specs.Links.{link_script}
use Rattle.linking.specs.Sound.{Sound}
use Rattle.linking.specs.Meaning.{StandsFor}
use Rattle.linking.specs.Stages.{Stopped}

-- the script with its program, or the script again and its fault; of want of memory nothing more is said
abbrev pub Links : List (Line (List ℕ)) → Result Linked Unlinked → Type 0
Links ls (Ok l) = (l.script ≡ ls) × (link_script ls ≡ Ok l.program)
Links ls (Err u) = (u.script ≡ ls) × Stopped (link_script ls) u.stop

-- a program that stands for the script and has what running needs was made; a fault is given only if there is none
abbrev pub NoneFor : List (Line (List ℕ)) → Stop → Type 0
NoneFor ls (Faulty f) = (p : Program) → StandsFor ls p → Sound p → ⊥
NoneFor ls Memory = Unit {0}

abbrev pub Exact : List (Line (List ℕ)) → Result Linked Unlinked → Type 0
Exact ls (Ok l) = ∥ StandsFor ls l.program × Sound l.program ∥₁
Exact ls (Err u) = NoneFor ls u.stop
