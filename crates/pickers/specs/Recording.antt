-- Recording a picker's answers as picks, and playing the picks again.
use Rattle.std.specs.Prelude.{◌≡◌, ℕ, ◌^◌, ◌<◌, Bool, true, not, ◌&&◌, ◌==◌}
use Rattle.std.specs.Prelude.{List, [], ◌∷◌, is_some, Some, None, Option, filter, filter_map, zip, option_map}
use Rattle.std.specs.List.{AllByRecursion, AllZip, list_all}
use Rattle.std.specs.Option.{is_none}
use Rattle.pickers.specs.declared.picker.Query.{Query}
use Rattle.pickers.specs.declared.schedule.Pick.{Pick}
use Rattle.pickers.specs.Sets.{OneOf}
use Rattle.pickers.specs.Meaning.{Meaning, Lawful, answers, after_all}
use Rattle.pickers.specs.Schedule.{served, scheduled}
use Rattle.pickers.specs.Turning.{turning}
use Rattle.pickers.specs.Choosing.{choices, consulted}

-- there are as many answers as queries, and each is none or a case of its query's set
abbrev pub AllWithin : List Query → List (Option ℕ) → Type 0
AllWithin qs os = AllZip (λ q o. OneOf q.ready o) qs os

-- what is noted of a query and its answer, if anything is
abbrev pub Rule : Type 0 → Type 0
Rule T = Query → Option ℕ → Option T

-- the notes that a rule makes of a list of queries and their answers
abbrev pub noted : {T : Type 0} → Rule T → List Query → List (Option ℕ) → List T
noted rule qs os = filter_map (λ p. rule p.0 p.1) (zip qs os)

-- the pick that a query and its answer make, if a case was named
abbrev pub pick_of : Rule Pick
pick_of q o = option_map (λ k. record { routine = q.routine; case = k }) o

-- the picks that a list of queries and their answers make
abbrev pub picks_of : List Query → List (Option ℕ) → List Pick
picks_of qs os = noted pick_of qs os

-- the queries to which a case was named, and the answers that name one
abbrev pub named : List Query → List (Option ℕ) → List Query
named [] os = []
named (q ∷ qs) [] = []
named (q ∷ qs) (None ∷ os) = named qs os
named (q ∷ qs) (Some k ∷ os) = q ∷ named qs os

abbrev pub naming : List (Option ℕ) → List (Option ℕ)
naming os = filter is_some os

-- Whether the pick that comes next never serves a query that got no case.
abbrev pub steady : List Query → List (Option ℕ) → Bool
steady [] os = true
steady (q ∷ qs) [] = true
steady (q ∷ qs) (None ∷ os) = not (is_some (served (picks_of qs os) q)) && steady qs os
steady (q ∷ qs) (Some k ∷ os) = steady qs os

-- Two ways to be steady: no case is named after the first none, as in a run that ends there, or none is answered to
-- empty sets alone.
abbrev pub unnamed : List (Option ℕ) → Bool
unnamed os = list_all is_none os

abbrev pub none_last : List (Option ℕ) → Bool
none_last [] = true
none_last (None ∷ os) = unnamed os
none_last (Some k ∷ os) = none_last os

abbrev pub none_at_empty : List Query → List (Option ℕ) → Bool
none_at_empty [] os = true
none_at_empty (q ∷ qs) [] = true
none_at_empty (q ∷ qs) (None ∷ os) = q.ready == 0 && none_at_empty qs os
none_at_empty (q ∷ qs) (Some k ∷ os) = none_at_empty qs os

-- The schedule of these picks gives these answers to these queries: always to the queries to which a case was named,
-- after which no pick is left, and to all queries exactly where the answers are steady.
pub record Replayed (ps : List Pick) (qs : List Query) (os : List (Option ℕ)) : Type 0 where
  pub answered : answers (scheduled ps) (named qs os) ≡ naming os
  pub spent : after_all (scheduled ps) (named qs os) ≡ scheduled []
  pub whole : steady qs os ≡ true → answers (scheduled ps) qs ≡ os
  pub exact : answers (scheduled ps) qs ≡ os → steady qs os ≡ true
  pub ended : none_last os ≡ true → answers (scheduled ps) qs ≡ os
  pub decided : none_at_empty qs os ≡ true → answers (scheduled ps) qs ≡ os

-- The picks made of the answers that some picker gave give the same answers, whatever the picker means.
abbrev pub Replays : Type 0
Replays = (m : Meaning) → Lawful m → (qs : List Query) → Replayed (picks_of qs (answers m qs)) qs (answers m qs)

-- Where they are steady they lead to the same choices too: then the picks are made where the picker was asked.
abbrev pub ReplaysChoices : Type 0
ReplaysChoices = (m : Meaning) → Lawful m → (qs : List Query)
    → steady (consulted qs) (answers m (consulted qs)) ≡ true
    → choices (scheduled (picks_of (consulted qs) (answers m (consulted qs)))) qs ≡ choices m qs

-- every set is one of the cases 0 to 7
abbrev pub Small : List Query → Type 0
Small qs = AllByRecursion (λ q. q.ready < 2 ^ 8) qs

-- A turning picker names a case wherever one is ready, so that all of its answers are played again.
abbrev pub TurningDecides : Type 0
TurningDecides = (last : ℕ) (qs : List Query) → Small qs → none_at_empty qs (answers (turning last) qs) ≡ true
