-- The case that a select takes: a picker is asked only where two or more cases are ready.
use Rattle.std.specs.Prelude.{ℕ, Bool, cond, List, [], ◌∷◌, length, Some, None, Option, nat_le, filter}
use Rattle.pickers.specs.declared.picker.Query.{Query}
use Rattle.pickers.specs.declared.choosing.Choice.{Choice}
use Rattle.pickers.specs.declared.choosing.Choice.TheVariants.{NoneReady, OneReady, Asked}
use Rattle.pickers.specs.Sets.{cases, first}
use Rattle.pickers.specs.Meaning.{Meaning, answer, after}

-- whether two or more cases are ready
abbrev pub several : Query → Bool
several q = nat_le 2 (length (cases q.ready))

-- no case, or the one that is ready
abbrev pub only : Option ℕ → Choice
only None = NoneReady
only (Some k) = OneReady k

abbrev pub chosen : Meaning → Query → Choice
chosen m q = cond (several q) (Asked (answer m q)) (only (first (cases q.ready)))

-- the meaning that is left: a picker that was not asked keeps its own
abbrev pub after_choice : Meaning → Query → Meaning
after_choice m q = cond (several q) (after m q) m

-- the case that the choice names, if it names one
abbrev pub taken : Choice → Option ℕ
taken NoneReady = None
taken (OneReady k) = Some k
taken (Asked o) = o

-- the choices at a list of queries, one after the other
abbrev pub choices : Meaning → List Query → List Choice
choices m [] = []
choices m (q ∷ qs) = chosen m q ∷ choices (after_choice m q) qs

-- the queries at which the picker is asked
abbrev pub consulted : List Query → List Query
consulted qs = filter several qs
