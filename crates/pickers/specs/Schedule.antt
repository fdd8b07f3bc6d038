-- What a schedule means: a list of picks, each for one routine, served from the front.
use Rattle.std.specs.Prelude.{ℕ, Bool, cond, ◌&&◌, List, [], ◌∷◌, Some, None, Option, ◌==◌}
use Rattle.pickers.specs.declared.picker.Query.{Query}
use Rattle.pickers.specs.declared.schedule.Pick.{Pick}
use Rattle.pickers.specs.Sets.{has}
use Rattle.pickers.specs.Meaning.{Meaning}

-- a pick serves a query that has its routine and its case
abbrev pub serves : Pick → Query → Bool
serves p q = p.routine == q.routine && has q.ready p.case

-- The first pick's case if that pick serves the query, else none.
abbrev pub served : List Pick → Query → Option ℕ
served [] q = None
served (p ∷ ps) q = cond (serves p q) (Some p.case) None

-- The picks that are left: a pick is dropped where it served.
abbrev pub left : List Pick → Query → List Pick
left [] q = []
left (p ∷ ps) q = cond (serves p q) ps (p ∷ ps)

abbrev pub scheduled : List Pick → Meaning
scheduled ps [] q = served ps q
scheduled ps (p ∷ qs) q = scheduled (left ps p) qs q
