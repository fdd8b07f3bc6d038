-- What a picker means: the answers that it gives, whatever it keeps to find them.
use Rattle.std.specs.Prelude.{◌≡◌, ℕ, List, [], ◌∷◌, ◌++◌, None, Ok, Err, Option, Result}
use Rattle.pickers.specs.declared.picker.Query.{Query}
use Rattle.pickers.specs.Sets.{OneOf}

-- The answer to a query that comes after the queries of a list, the oldest first: a case, or none.
abbrev pub Meaning : Type 0
Meaning = List Query → Query → Option ℕ

-- the answer to the next query
abbrev pub answer : Meaning → Query → Option ℕ
answer m q = m [] q

-- the meaning that is left after a query
abbrev pub after : Meaning → Query → Meaning
after m q = λ qs. m (q ∷ qs)

-- the answers to a list of queries, one after the other, and the meaning that is left then
abbrev pub answers : Meaning → List Query → List (Option ℕ)
answers m [] = []
answers m (q ∷ qs) = answer m q ∷ answers (after m q) qs

abbrev pub after_all : Meaning → List Query → Meaning
after_all m qs = λ later. m (qs ++ later)

-- the meaning that is left when it was asked them, or when it was not
abbrev pub after_asking : {A E : Type 0} → Result A E → Meaning → List Query → Meaning
after_asking (Ok a) m qs = after_all m qs
after_asking (Err e) m qs = m

-- The laws of a picker at its next query: it answers none or a case of the set, and to an empty set
-- it answers none and keeps its meaning.
pub record Fair (m : Meaning) : Type 0 where
  pub within : (q : Query) → OneOf q.ready (answer m q)
  pub silent : (q : Query) → q.ready ≡ 0 → answer m q ≡ None
  pub keeps : (q : Query) → q.ready ≡ 0 → after m q ≡ m

-- the laws now and after every list of queries
abbrev pub Lawful : Meaning → Type 0
Lawful m = (qs : List Query) → Fair (after_all m qs)
