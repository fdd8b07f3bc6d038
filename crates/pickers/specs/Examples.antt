-- Worked examples. A set is written as the number with a 1 for each ready case: 5 is {0, 2}, 4 is {2}, 0 is empty.
use Rattle.std.specs.Prelude.{◌≡◌, ℕ, List, [], ◌∷◌, Some, None}
use Rattle.pickers.specs.declared.picker.Query.{Query}
use Rattle.pickers.specs.declared.schedule.Pick.{Pick}
use Rattle.pickers.specs.declared.choosing.Choice.TheVariants.{NoneReady, OneReady, Asked}
use Rattle.pickers.specs.Meaning.{answers, after_all}
use Rattle.pickers.specs.Turning.{fresh_turning}
use Rattle.pickers.specs.Schedule.{scheduled}
use Rattle.pickers.specs.Choosing.{chosen}
use Rattle.pickers.specs.Recording.{picks_of}

abbrev pub on : ℕ → ℕ → Query
on r s = record { routine = r; ready = s }

abbrev pub pick : ℕ → ℕ → Pick
pick r k = record { routine = r; case = k }

-- a fresh turning picker, three times on {0, 2}
abbrev pub thrice : List Query
thrice = on 0 5 ∷ (on 0 5 ∷ (on 0 5 ∷ []))

-- the schedule `0 2`, `1 7`
abbrev pub two : List Pick
two = pick 0 2 ∷ (pick 1 7 ∷ [])

pub record Examples : Type 0 where
  -- it answers 0, 2, 0; round again from 7 on {0, 7}; nothing to an empty set, which takes no turn
  pub turns : answers fresh_turning thrice ≡ Some 0 ∷ (Some 2 ∷ (Some 0 ∷ []))
  pub round : answers fresh_turning (on 0 129 ∷ (on 1 129 ∷ (on 0 129 ∷ []))) ≡ Some 0 ∷ (Some 7 ∷ (Some 0 ∷ []))
  pub idle : answers fresh_turning (on 0 5 ∷ (on 0 0 ∷ (on 0 5 ∷ []))) ≡ Some 0 ∷ (None ∷ (Some 2 ∷ []))
  -- the schedule `0 1` has no case for {0, 2}
  pub absent : answers (scheduled (pick 0 1 ∷ [])) (on 0 5 ∷ []) ≡ None ∷ []
  -- picks are served in order, each to its routine, and then no more
  pub served : answers (scheduled two) (on 0 5 ∷ (on 1 192 ∷ (on 1 192 ∷ []))) ≡ Some 2 ∷ (Some 7 ∷ (None ∷ []))
  -- a query of another routine gets none and drops nothing
  pub waits : answers (scheduled two) (on 1 192 ∷ (on 0 5 ∷ [])) ≡ None ∷ (Some 2 ∷ [])
  pub kept : after_all (scheduled two) (on 1 192 ∷ []) ≡ scheduled two
  -- numbers of any size may stand in a schedule
  pub far : answers (scheduled (pick 0 256 ∷ [])) (on 0 255 ∷ []) ≡ None ∷ []
  -- the picker is asked only where two or more are ready
  pub nothing : chosen fresh_turning (on 0 0) ≡ NoneReady
  pub one : chosen fresh_turning (on 0 4) ≡ OneReady 2
  pub asked : chosen fresh_turning (on 0 5) ≡ Asked (Some 0)
  -- a turning picker's answers, played again
  pub played : answers (scheduled (picks_of thrice (answers fresh_turning thrice))) thrice ≡ answers fresh_turning thrice
  -- none first and then a case of the same set: not steady, the one pick is served too early
  pub early : answers (scheduled (picks_of (on 0 5 ∷ (on 0 5 ∷ [])) (None ∷ (Some 0 ∷ [])))) (on 0 5 ∷ (on 0 5 ∷ [])) ≡ Some 0 ∷ (None ∷ [])
