-- Whole runs: routines join, leave and are released, in any order.
use Rattle.std.specs.Prelude.{◌≡◌, ℕ, Bool, true, false, cond, ◌&&◌, List, [], ◌∷◌, ◌++◌, length, Some, None, Option, ◌==◌, ◌≢◌}
use Rattle.waiting.specs.declared.wish.Side.{Side}
use Rattle.waiting.specs.declared.wish.Entry.{Entry}
use Rattle.waiting.specs.declared.wish.Queue.{Queue}
use Rattle.waiting.specs.Queues.{Row, queue, first, waits, without, written, released}
use Rattle.waiting.specs.Lines.{State}
use Rattle.waiting.specs.Laws.{among, may_join}

-- a call that changes the line
pub data Step (X : Type 0) : Type 0 where
  joins : ℕ → Row X → Step X
  leaves : ℕ → Step X
  releases : Queue → Step X

-- what the calls join, leave and release_first make of it
abbrev pub step : {X : Type 0} → Step X → State X → State X
step (joins r ws) st = cond (may_join r (length ws) st.line) (record { line = st.line ++ r ∷ []; table = written r ws st.table }) st
step (leaves r) st = record { line = without r st.line; table = st.table }
step (releases q) st = record { line = released (first (queue q.side q.channel st.line st.table)) st.line; table = st.table }

abbrev pub run : {X : Type 0} → List (Step X) → State X → State X
run [] st = st
run (e ∷ es) st = run es (step e st)

-- whether routine a waits after each step
abbrev pub remains : {X : Type 0} → ℕ → List (Step X) → State X → Bool
remains a [] st = true
remains a (e ∷ es) st = waits a (step e st).line && remains a es (step e st)

-- whether, along the line, routine a comes before any b
abbrev pub ahead : ℕ → ℕ → List ℕ → Bool
ahead a b [] = false
ahead a b (q ∷ line) = cond (q == a) true (cond (q == b) false (ahead a b line))

-- whether the front of a queue is routine b
abbrev pub fronts : {X : Type 0} → ℕ → Option (Entry X) → Bool
fronts b None = false
fronts b (Some e) = e.routine == b

-- who waited before b joined is ahead of b
abbrev pub EarlierIsAhead : Type 0
EarlierIsAhead = (a b : ℕ) (line : List ℕ) → waits a line ≡ true → waits b line ≡ false → ahead a b (line ++ b ∷ []) ≡ true

-- of two routines, let a be ahead, and stand in a queue: through any run in which a is not released, b never comes to the front of that queue
abbrev pub FirstComeFirstServed : Type 0 → Type 0
FirstComeFirstServed X =
    (s : Side) (c a b : ℕ) (es : List (Step X)) (st : State X)
    → length st.table ≡ 64 → (a ≢ b) → ahead a b st.line ≡ true → among a (queue s c st.line st.table) ≡ true
    → remains a es st ≡ true → fronts b (first (queue s c (run es st).line (run es st).table)) ≡ false
