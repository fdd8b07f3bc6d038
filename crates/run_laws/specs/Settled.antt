-- What holds between the routines, the run queue, the waiting line and the channels.
use Rattle.std.specs.Prelude.{◌≡◌, ℕ, ◌≤◌, Bool, true, false, ◌||◌, ◌≢◌, List, length, Some, None, Option, ◌==◌, nat_lt, slice_index_or}
use Rattle.linking.specs.Programs.{Program}
use Rattle.pickers.specs.Meaning.{Meaning, Lawful}
use Rattle.waiting.specs.declared.wish.Wish.{Wish}
use Rattle.waiting.specs.declared.wish.Wish.TheVariants as wish
use Rattle.waiting.specs.Queues.{Row, cases, waits}
use Rattle.routines.specs.declared.item.Item.{Item}
use Rattle.routines.specs.declared.routine.State.{State}
use Rattle.routines.specs.declared.routine.State.TheVariants.{Ready, Waiting, Released, Ended}
use Rattle.routines.specs.declared.routine.Routine.{Routine}
use Rattle.runs.specs.Runs.{Channel, Hub, Run, no_channel, nobody, channel, started}
use Rattle.runs.specs.Cases.{channel_of, wishes_of}
use Rattle.channels.specs.Settled.{some}
use Rattle.runs.specs.Steps.{branches, step}
use Rattle.runs.specs.Orderly.{OrderlyRun}

-- ---- states
abbrev pub is_waiting : State → Bool
is_waiting Waiting = true
is_waiting _ = false

-- whether a turn is still to come
abbrev pub has_turn : State → Bool
has_turn Ready = true
has_turn (Released k q) = true
has_turn Waiting = false
has_turn Ended = false

-- ---- cases
-- case k of a row
abbrev pub case_in : Row Item → ℕ → Option (Wish Item)
case_in ws k = slice_index_or ws k None

-- case k of routine r in the table
abbrev pub case_at : Hub → ℕ → ℕ → Option (Wish Item)
case_at h r k = case_in (cases r h.wishes) k

-- whether the channel alone lets a case go: it is closed, or has room or an element
abbrev pub lets : Channel → Wish Item → Bool
lets c (wish.Send d e) = c.closed || nat_lt (length c.buffer) c.capacity
lets c (wish.Receive d) = c.closed || some c.buffer

abbrev pub channel_in : List Channel → ℕ → Channel
channel_in cs c = slice_index_or cs c no_channel

abbrev pub goes_alone : List Channel → Option (Wish Item) → Bool
goes_alone cs None = false
goes_alone cs (Some w) = lets (channel_in cs (channel_of w)) w

-- two cases that serve each other: a send and a receive on one channel
abbrev pub meet : Wish Item → Wish Item → Bool
meet (wish.Send c e) (wish.Send d f) = false
meet (wish.Send c e) (wish.Receive d) = c == d
meet (wish.Receive c) (wish.Send d e) = c == d
meet (wish.Receive c) (wish.Receive d) = false

abbrev pub serve : Option (Wish Item) → Option (Wish Item) → Bool
serve None w = false
serve (Some v) None = false
serve (Some v) (Some w) = meet v w

-- ---- the channels and those who wait: a channel buffers at most its capacity, and nobody waits who can go
pub record SettledHub (h : Hub) : Type 0 where
  pub few : (c : ℕ) → length (channel h c).buffer ≤ (channel h c).capacity
  pub stuck : (r k : ℕ) → waits r h.line ≡ true → goes_alone h.channels (case_at h r k) ≡ false
  pub apart : (r q j k : ℕ) → waits r h.line ≡ true → waits q h.line ≡ true → (r ≢ q) → serve (case_at h r j) (case_at h q k) ≡ false

-- ---- the routines: who waits stands in the line with its cases, and who has a turn to come in the run queue
pub record Linked (p : Program) (xs : List Routine) (turns : List ℕ) (h : Hub) : Type 0 where
  pub waiters : (r : ℕ) → waits r h.line ≡ is_waiting (slice_index_or xs r nobody).state
  pub takers : (r : ℕ) → waits r turns ≡ has_turn (slice_index_or xs r nobody).state
  pub rows : (r : ℕ) → (slice_index_or xs r nobody).state ≡ Waiting
      → cases r h.wishes ≡ wishes_of h.channels (slice_index_or xs r nobody) (branches p (slice_index_or xs r nobody))

pub record Settled (p : Program) (run : Run) : Type 0 where
  pub orderly : OrderlyRun run
  pub table : length run.hub.wishes ≡ 64
  pub linked : Linked p run.routines run.turns run.hub
  pub hub : SettledHub run.hub

-- ---- the statements
-- a select has 8 cases at most
abbrev pub FewCases : Program → Type 0
FewCases p = (x : Routine) → length (branches p x) ≤ 8

abbrev pub BeginsSettled : Type 0
BeginsSettled = (p : Program) → Settled p (started p)

abbrev pub StaysSettled : Type 0
StaysSettled = (p : Program) (run : Run) (m : Meaning) → FewCases p → Lawful m → Settled p run → Settled p (step p run m).run

-- a picker keeps its laws through a step
abbrev pub StaysLawful : Type 0
StaysLawful = (p : Program) (run : Run) (m : Meaning) → Lawful m → Lawful (step p run m).meaning
