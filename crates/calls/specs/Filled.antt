-- Which cell every buffered element is written in, over the calls of a run.
use Rattle.std.specs.Prelude.{◌≡◌, ◌==◌, ℕ, ◌+◌, ◌%◌, cond, count_by, sum_by, take, List, [], ◌∷◌, ◌++◌, Some, None, Option, slice_index_or}
use Rattle.lines.specs.declared.line.Kind.TheVariants.{Value as ValueKind}
use Rattle.elements.specs.declared.value.Value.{Value}
use Rattle.elements.specs.declared.handle.Handle.{Handle}
use Rattle.linking.specs.declared.declared.Declared.{Declared}
use Rattle.linking.specs.Programs.{Program}
use Rattle.linking.specs.Sound.{cells_for}
use Rattle.pickers.specs.Meaning.{Meaning, Lawful}
use Rattle.routines.specs.declared.item.Item.{Item}
use Rattle.runs.specs.Steps.{step}
use Rattle.hub.specs.Deals.{value_written, handle_written}
use Rattle.machine.specs.Starts.{first_memory}
use Rattle.calls.specs.declared.call.Call.{Call}
use Rattle.calls.specs.declared.call.Call.TheVariants.{Step as Stepping}
use Rattle.calls.specs.Calls.{Played, begun, answered, after_calls}
use Rattle.calls.specs.Carried.{Kept, is_granted, kept_after}

-- an element that is buffered, and the channel
abbrev pub Buffered : Type 0
Buffered = ℕ × Item

abbrev pub if_any : Option Buffered → List Buffered
if_any None = []
if_any (Some s) = s ∷ []

-- what is buffered by a call, and by a list of calls, in order
abbrev pub buffered_by : Program → Played → Call → List Buffered
buffered_by p at (Stepping cells) = cond (is_granted cells at) (if_any (step p at.run at.meaning).stored) []
buffered_by p at _ = []

abbrev pub all_buffered : Program → Played → List Call → List Buffered
all_buffered p at [] = []
all_buffered p at (c ∷ cs) = buffered_by p at c ++ all_buffered p (answered p at c).after cs

-- ---- cells
abbrev pub no_declared : Declared
no_declared = record { kind = ValueKind; capacity = 0 }

abbrev pub declared : List Declared → ℕ → Declared
declared ds c = slice_index_or ds c no_declared

-- the cells of a channel begin after the capacities of the earlier channels of its kind
abbrev pub first_cell : List Declared → ℕ → ℕ
first_cell ds c = sum_by (cells_for (declared ds c).kind) (take c ds)

-- the n-th element ever buffered there, counted from 0, is written n mod capacity cells after that
abbrev pub cell_for : List Declared → ℕ → ℕ → ℕ
cell_for ds c n = first_cell ds c + n % (declared ds c).capacity

abbrev pub how_many : ℕ → List Buffered → ℕ
how_many c ss = count_by (λ s. s.0 == c) ss

-- the cells when those elements are buffered one after another, behind the earlier ones
abbrev pub values_filled : List Declared → List Buffered → List Buffered → List Value → List Value
values_filled ds before [] vs = vs
values_filled ds before (s ∷ ss) vs = values_filled ds (before ++ (s ∷ [])) ss (value_written (cell_for ds s.0 (how_many s.0 before)) s.1 vs)

abbrev pub handles_filled : List Declared → List Buffered → List Buffered → List Handle → List Handle
handles_filled ds before [] hs = hs
handles_filled ds before (s ∷ ss) hs = handles_filled ds (before ++ (s ∷ [])) ss (handle_written (cell_for ds s.0 (how_many s.0 before)) s.1 hs)

-- what is kept at the start, the cells being these
abbrev pub first_kept : Program → List Value → List Handle → Kept
first_kept p vs hs = record { memory = first_memory p; values = vs; handles = hs }

-- after every list of calls since the start: each element buffered on a channel was written in its cell, and no other cell ever
pub record EachInItsCell (p : Program) (m : Meaning) (calls : List Call) (vs : List Value) (hs : List Handle) (k : Kept) : Type 0 where
  pub values : k.values ≡ values_filled p.channels [] (all_buffered p (begun p m) calls) vs
  pub handles : k.handles ≡ handles_filled p.channels [] (all_buffered p (begun p m) calls) hs

-- Whatever calls led from the start to this run and to what is kept: now, and after each of these calls, each element is in its cell.
abbrev pub FilledFromStart : Program → Played → List Call → Kept → Type 0
FilledFromStart p at calls k = (m : Meaning) → Lawful m → (vs : List Value) (hs : List Handle) (earlier : List Call)
    → after_calls p (begun p m) earlier ≡ at → kept_after p (begun p m) earlier (first_kept p vs hs) ≡ k
    → (done rest : List Call) → calls ≡ done ++ rest
    → EachInItsCell p m (earlier ++ done) vs hs (kept_after p at done k)
