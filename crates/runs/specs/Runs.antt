-- A run: its routines, its channels, who waits and whose turn it is.
use Rattle.std.specs.Prelude.{ℕ, ◌+◌, Bool, true, false, List, [], ◌∷◌, ◌++◌, map, drop, replicate, Some, None, count_by, Option, slice_index_or, slice_set}
use Rattle.std.specs.List.{slice_get}
use Rattle.lines.specs.declared.line.Kind.{Kind}
use Rattle.lines.specs.declared.line.Kind.TheVariants.{Value}
use Rattle.linking.specs.declared.declared.Declared.{Declared}
use Rattle.linking.specs.declared.operation.Operation.{Operation}
use Rattle.linking.specs.Programs.{Block, Program, no_block}
use Rattle.waiting.specs.declared.wish.Entry.{Entry}
use Rattle.waiting.specs.declared.wish.Side.{Side}
use Rattle.waiting.specs.Queues.{Row, queue, without, written}
use Rattle.routines.specs.declared.item.Item.{Item}
use Rattle.routines.specs.declared.routine.Release.{Release}
use Rattle.routines.specs.declared.routine.State.{State}
use Rattle.routines.specs.declared.routine.State.TheVariants.{Ready, Waiting, Released, Ended}
use Rattle.routines.specs.declared.routine.Routine.{Routine}
use Rattle.routines.specs.Registers.{in_state, first}

-- a channel: its buffer is a list, the oldest element first
pub record Channel : Type 0 where
  pub kind : Kind
  pub capacity : ℕ
  pub closed : Bool
  pub buffer : List Item

-- all channels, and who waits at them. line: the routines that wait, the one that has waited longest first; wishes: what
-- each case of theirs waits for, a row for each routine. Both queues of every channel are read from these two.
pub record Hub : Type 0 where
  pub channels : List Channel
  pub line : List ℕ
  pub wishes : List (Row Item)

-- turns: the run queue; the routine whose turn it is stands at its front until its turn is done.
-- A run in memory is the same over what memory keeps of the channels.
pub record Parts (H : Type 0) : Type 0 where
  pub routines : List Routine
  pub hub : H
  pub turns : List ℕ
  pub over : Bool

abbrev pub Run : Type 0
Run = Parts Hub

-- ---- looking things up
abbrev pub nobody : Routine
nobody = record { body = 0; line = 0; state = Ended; values = []; handles = [] }

abbrev pub no_channel : Channel
no_channel = record { kind = Value; capacity = 0; closed = false; buffer = [] }

abbrev pub routine : {H : Type 0} → Parts H → ℕ → Routine
routine run r = slice_index_or run.routines r nobody

abbrev pub channel : Hub → ℕ → Channel
channel h c = slice_index_or h.channels c no_channel

-- a queue of channel c, as entries in the order of waiting
abbrev pub queued : Hub → Side → ℕ → List (Entry Item)
queued h side c = queue side c h.line h.wishes

-- ---- where a routine stands
abbrev pub block_of : Program → Routine → Block
block_of p x = slice_index_or p.bodies x.body no_block

-- the operation that it is at, if it is not at the end of its body
abbrev pub operation_at : Program → Routine → Option Operation
operation_at p x = slice_get (block_of p x).operations x.line

-- the text line of that operation, counted from 1, and 0 at the end
abbrev pub line_number : ℕ → Option Operation → ℕ
line_number n None = 0
line_number n (Some o) = n

abbrev pub text_line : Program → Routine → ℕ
text_line p x = line_number ((block_of p x).line + 1 + x.line) (operation_at p x)

-- ---- changing one thing
abbrev pub with_channel : ℕ → Channel → Hub → Hub
with_channel c x h = record h { channels = slice_set h.channels c x }

abbrev pub with_buffer : ℕ → List Item → Hub → Hub
with_buffer c b h = with_channel c (record (channel h c) { buffer = b }) h

abbrev pub shut : ℕ → Hub → Hub
shut c h = with_channel c (record (channel h c) { closed = true }) h

-- routine r waits with those cases: it joins the queues in case order
abbrev pub joins : ℕ → Row Item → Hub → Hub
joins r ws h = record h { line = h.line ++ (r ∷ []); wishes = written r ws h.wishes }

-- routine r leaves every queue that it was in
abbrev pub leaves : ℕ → Hub → Hub
leaves r h = record h { line = without r h.line }

abbrev pub with_routine : {H : Type 0} → ℕ → Routine → Parts H → Parts H
with_routine r x run = record run { routines = slice_set run.routines r x }

abbrev pub with_turns : {H : Type 0} → List ℕ → Parts H → Parts H
with_turns ts run = record run { turns = ts }

abbrev pub stopped : {H : Type 0} → Parts H → Parts H
stopped run = record run { over = true }

-- a released routine joins the run queue, and will pass by the case that it was released with
abbrev pub release : {H : Type 0} → Release → Parts H → Parts H
release w run = record run { routines = slice_set run.routines w.routine (in_state (Released w.case w.passed) (routine run w.routine)); turns = run.turns ++ (w.routine ∷ []) }

abbrev pub release_all : {H : Type 0} → List Release → Parts H → Parts H
release_all [] run = run
release_all (w ∷ ws) run = release_all ws (release w run)

-- its turn is done: the routine stands as x, ready, at the end of the run queue
abbrev pub goes_on : {H : Type 0} → ℕ → Routine → Parts H → Parts H
goes_on r x run = record run { routines = slice_set run.routines r (in_state Ready x); turns = drop 1 run.turns ++ (r ∷ []) }

-- ---- living
abbrev pub lives : State → Bool
lives Ready = true
lives Waiting = true
lives (Released k p) = true
lives Ended = false

abbrev pub living : {H : Type 0} → Parts H → ℕ
living run = count_by (λ x. lives x.state) run.routines

-- ---- the start: routine 0 at the first line of `main`, all channels open and empty
abbrev pub first_routine : Program → Routine
first_routine p = first p.main

abbrev pub new_channel : Declared → Channel
new_channel d = record { kind = d.kind; capacity = d.capacity; closed = false; buffer = [] }

abbrev pub new_hub : List Declared → Hub
new_hub ds = record { channels = map new_channel ds; line = []; wishes = replicate 64 [] }

abbrev pub started : Program → Run
started p = record { routines = first_routine p ∷ []; hub = new_hub p.channels; turns = 0 ∷ []; over = false }
