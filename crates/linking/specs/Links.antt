-- Linking a script: its program, or its first fault.
use Rattle.std.specs.Prelude.{ℕ, ◌+◌, Bool, true, false, List, [], ◌∷◌, Some, None, Ok, Err, codes, Option, Result}
use Rattle.words.specs.declared.refusal.Refusal.TheVariants.{Unknown, Wild}
use Rattle.words.specs.declared.refusal.Fault.{Fault}
use Rattle.words.specs.Refusals.{fault}
use Rattle.lines.specs.declared.line.Line.{Line}
use Rattle.script.specs.Rules.{place}
use Rattle.script.specs.Texts.{in_front}
use Rattle.linking.specs.declared.declared.Declared.{Declared}
use Rattle.linking.specs.declared.operation.Operation.{Operation}
use Rattle.linking.specs.Programs.{Block, Program}
use Rattle.linking.specs.Naming.{Known, known, channels, body_names, operation}
use Rattle.linking.specs.Parts.{Part, parts, target, wild}

-- a name that stands for nothing is the lower fault
abbrev pub settled : ℕ → Option Operation → Bool → Result Operation Fault
settled n None wilds = Err (fault Unknown n)
settled n (Some o) true = Err (fault Wild n)
settled n (Some o) false = Ok o

-- text line n, a line of that body
abbrev pub link_line : Known → List (Line (List ℕ)) → ℕ → Line (List ℕ) → Result Operation Fault
link_line k body n l = settled n (operation k l) (wild body (target l))

-- the first fault of the two, or the one in front of the others
abbrev pub both : {A : Type 0} → Result A Fault → Result (List A) Fault → Result (List A) Fault
both (Err e) rest = Err e
both (Ok a) rest = in_front a rest

-- lines of that body, from text line n on
unfoldable pub link_lines : Known → List (Line (List ℕ)) → ℕ → List (Line (List ℕ)) → Result (List Operation) Fault
link_lines k body n [] = Ok []
link_lines k body n (l ∷ ls) = both (link_line k body n l) (link_lines k body (n + 1) ls)

abbrev pub blocked : ℕ → Result (List Operation) Fault → Result Block Fault
blocked n (Ok ops) = Ok (record { line = n; operations = ops })
blocked n (Err e) = Err e

abbrev pub link_part : Known → Part (List ℕ) → Result Block Fault
link_part k p = blocked p.line (link_lines k p.lines (p.line + 1) p.lines)

unfoldable pub link_parts : Known → List (Part (List ℕ)) → Result (List Block) Fault
link_parts k [] = Ok []
link_parts k (p ∷ ps) = both (link_part k p) (link_parts k ps)

-- that there is no `main` is found last
abbrev pub with_main : List Declared → Option ℕ → Result (List Block) Fault → Result Program Fault
with_main ds m (Err e) = Err e
with_main ds None (Ok bs) = Err (fault Unknown 0)
with_main ds (Some m) (Ok bs) = Ok (record { channels = ds; bodies = bs; main = m })

abbrev pub main_name : List ℕ
main_name = codes "main"

abbrev pub link_script : List (Line (List ℕ)) → Result Program Fault
link_script ls = with_main (channels ls) (place main_name (body_names ls)) (link_parts (known ls) (parts 1 ls))
