-- The number of each refusal.
use Rattle.std.specs.Prelude.{ℕ, List, ◌∷◌, ◌++◌, codes, decimal}
use Rattle.words.specs.declared.refusal.Refusal.{Refusal}
use Rattle.words.specs.declared.refusal.Refusal.TheVariants.{Overlong, Broken, Misplaced, Full, Twice, Unknown, Wild, Small, Over, Absent}
use Rattle.words.specs.declared.refusal.Fault.{Fault}

abbrev pub number_of : Refusal → ℕ
number_of Overlong = 1
number_of Broken = 2
number_of Misplaced = 3
number_of Full = 4
number_of Twice = 5
number_of Unknown = 6
number_of Wild = 7
number_of Small = 8
number_of Over = 9
number_of Absent = 10

-- a refusal at a line of the text, counted from 1, or at 0 for the whole
abbrev pub fault : Refusal → ℕ → Fault
fault why n = record { refusal = why; line = n }

abbrev pub broken : ℕ → Fault
broken n = fault Broken n

-- what is printed of it
abbrev pub show_fault : Fault → List ℕ
show_fault f = codes "NO " ++ (decimal (number_of f.refusal) ++ (32 ∷ decimal f.line))
