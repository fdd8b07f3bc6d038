-- The table of worked examples.
use Rattle.std.specs.Prelude.{◌≡◌, ℕ, List, [], ◌∷◌, ◌++◌, map, Some, None, codes, Option}
use Prim.Native.String.{String}
use Rattle.std.specs.List.{AllByRecursion}
use Rattle.pickers.specs.Meaning.{Meaning, answers}
use Rattle.pickers.specs.Turning.{fresh_turning}
use Rattle.pickers.specs.Schedule.{scheduled}
use Rattle.examples.specs.Play.{prints}

-- each line with a byte 10 after it
abbrev pub text : List String → List ℕ
text [] = []
text (l ∷ ls) = codes l ++ (10 ∷ text ls)

-- a script and what is printed of it; or a picker, the ready sets that routine 0 asks it about, and its answers
pub data Row : Type 0 where
  runs : List String → List String → Row
  picks : Meaning → List ℕ → List (Option ℕ) → Row

abbrev pub Holds : Row → Type 0
Holds (runs script printed) = prints (text script) ≡ text printed
Holds (picks m sets given) = answers m (map (λ s. record { routine = 0; ready = s }) sets) ≡ given

abbrev pub table : List Row
table =
    runs
    ("VC a 0" ∷ "VC b 0" ∷ "RT main" ∷ "GO w" ∷ "SE 2" ∷ "CR a v0 v1 4" ∷ "CR b v0 v1 4" ∷ "RT w" ∷ "PR v0" ∷ "SD b v0" ∷ [])
    ("go 0 4 1" ∷ "sy 1 9 0" ∷ "wt 0 5" ∷ "ps 1 10 0 s 1 0" ∷ "ac 1 0 1" ∷ "rv 1 0 0" ∷ "ps 0 5 1 r 1 0" ∷ "en 1 0" ∷ "fi 0 0" ∷ [])
    -- an empty main
    ∷ runs ("RT main" ∷ []) ("fi 0 0" ∷ [])
    -- a select of no cases waits for ever
    ∷ runs ("RT main" ∷ "SE 0" ∷ []) ("wt 0 2" ∷ "st 1" ∷ [])
    -- one element, then a close: the first receive has flag 1, the next 0 and flag 0
    ∷ runs
    ("VC c 1" ∷ "RT main" ∷ "SV v0 7" ∷ "SD c v0" ∷ "CL c" ∷ "RC c v1 v2" ∷ "PR v1" ∷ "PR v2" ∷ "RC c v1 v2" ∷ "PR v1" ∷ "PR v2" ∷ [])
    ("pl 0 3" ∷ "ps 0 4 0 s 0 7" ∷ "ac 0 7 0" ∷ "cl 0 5 0 0" ∷ "ps 0 6 0 r 0 7" ∷ "rv 0 7 0" ∷ "sy 0 7 7" ∷ "sy 0 8 1" ∷ "ps 0 9 0 z 0" ∷ "sy 0 10 0" ∷ "sy 0 11 0" ∷ "fi 0 0" ∷ [])
    -- a second close
    ∷ runs ("VC c 0" ∷ "RT main" ∷ "CL c" ∷ "CL c" ∷ []) ("cl 0 3 0 0" ∷ "pn 0 4 2" ∷ [])
    -- a select alone that sends and receives on one channel does not meet itself
    ∷ runs ("VC c 0" ∷ "RT main" ∷ "SE 2" ∷ "CS c v0 3" ∷ "CR c v0 v1 3" ∷ []) ("wt 0 3" ∷ "st 1" ∷ [])
    -- a fresh turning picker on {0, 2}, three times
    ∷ picks fresh_turning (5 ∷ 5 ∷ 5 ∷ []) (Some 0 ∷ Some 2 ∷ Some 0 ∷ [])
    -- a schedule that names case 1 for routine 0, on {0, 2}
    ∷ picks (scheduled (record { routine = 0; case = 1 } ∷ [])) (5 ∷ []) (None ∷ [])
    ∷ []

abbrev pub TableHolds : Type 0
TableHolds = AllByRecursion Holds table
