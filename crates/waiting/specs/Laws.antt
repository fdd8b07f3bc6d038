-- What holds of every queue of every channel when a routine joins or leaves the line.
use Rattle.std.specs.Prelude.{◌≡◌, ℕ, Bool, false, cond, not, ◌&&◌, List, [], ◌∷◌, ◌++◌, Some, None, filter, Option, ◌==◌, nat_le, nat_lt}
use Rattle.std.specs.List.{list_any}
use Rattle.waiting.specs.declared.wish.Side.{Side}
use Rattle.waiting.specs.declared.wish.Entry.{Entry}
use Rattle.waiting.specs.Queues.{Row, places, cases, queue, waits, without}
use Rattle.waiting.specs.Lines.{State}

-- whether routine r has an entry
abbrev pub among : {X : Type 0} → ℕ → List (Entry X) → Bool
among r es = list_any (λ e. e.routine == r) es

-- the entries of all routines but r
abbrev pub others : {X : Type 0} → ℕ → List (Entry X) → List (Entry X)
others r es = filter (λ e. not (e.routine == r)) es

-- routine r is in no queue
abbrev pub Absent : {X : Type 0} → ℕ → State X → Type 0
Absent r st = (s : Side) (c : ℕ) → among r (queue s c st.line st.table) ≡ false

-- a routine may join if it is one of the 64, has at most 8 cases, and does not wait yet
abbrev pub may_join : ℕ → ℕ → List ℕ → Bool
may_join r n line = nat_lt r 64 && (nat_le n 8 && not (waits r line))

-- from st to st', routine r joined with the cases ws, or nothing changed
abbrev pub Joined : {X : Type 0} → Bool → ℕ → Row X → State X → State X → Type 0
Joined did r ws st st' = (s : Side) (c : ℕ) → queue s c st'.line st'.table ≡ cond did (queue s c st.line st.table ++ places s c r 0 ws) (queue s c st.line st.table)

-- routine r left every queue, and the others keep their order
abbrev pub Parted : {X : Type 0} → ℕ → State X → State X → Type 0
Parted r st st' = (s : Side) (c : ℕ) → queue s c st'.line st'.table ≡ others r (queue s c st.line st.table)

-- the routine of the entry, if there is one, left every queue, and the others keep their order
abbrev pub Served : {X : Type 0} → Option (Entry X) → State X → State X → Type 0
Served None st st' = (s : Side) (c : ℕ) → queue s c st'.line st'.table ≡ queue s c st.line st.table
Served (Some e) st st' = Absent e.routine st' × Parted e.routine st st'

-- a routine that left is in no queue
abbrev pub LeftEverywhere : Type 0 → Type 0
LeftEverywhere X = (r : ℕ) (line : List ℕ) (table : List (Row X)) → Absent r (record { line = without r line; table = table })

-- the others keep their order
abbrev pub OthersKeepOrder : Type 0 → Type 0
OthersKeepOrder X = (s : Side) (c r : ℕ) (line : List ℕ) (table : List (Row X)) → queue s c (without r line) table ≡ others r (queue s c line table)

-- who joins stands behind all others, in the order of its cases
abbrev pub JoinsBehind : Type 0 → Type 0
JoinsBehind X = (s : Side) (c r : ℕ) (line : List ℕ) (table : List (Row X)) → queue s c (line ++ r ∷ []) table ≡ queue s c line table ++ places s c r 0 (cases r table)
