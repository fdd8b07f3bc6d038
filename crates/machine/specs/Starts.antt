-- What starting a linked script answers and leaves.
use Rattle.std.specs.Prelude.{◌≡◌, true, false, Bool, List, [], ◌∷◌, Ok, Err, Result, sum_by}
use Rattle.words.specs.declared.refusal.Refusal.TheVariants.{Small}
use Rattle.lines.specs.declared.line.Kind.TheVariants.{Value as ValueKind, Handle as HandleKind}
use Rattle.elements.specs.declared.value.Value.{Value}
use Rattle.elements.specs.declared.handle.Handle.{Handle}
use Rattle.elements.specs.Codes.{value_zero, nil_handle}
use Rattle.rings.specs.Contents.{cleared}
use Rattle.linking.specs.declared.linked.Linked.{Linked}
use Rattle.linking.specs.Programs.{Program}
use Rattle.linking.specs.Sound.{cells_for}
use Rattle.routines.specs.Registers.{first}
use Rattle.runs.specs.Runs.{Parts, started}
use Rattle.hub.specs.Boards.{Board, new_board, enough}
use Rattle.machine.specs.declared.started.Started.{Started}
use Rattle.machine.specs.declared.starting.Unstarted.{Unstarted}
use Rattle.machine.specs.declared.starting.StartError.{StartError}
use Rattle.machine.specs.declared.starting.StartError.TheVariants.{Refused, Memory}
use Rattle.machine.specs.Memory.{seen_run}

-- memory at the start: routine 0 has its turn, at the first line of `main`, and all channels are open and empty
abbrev pub first_memory : Program → Parts Board
first_memory p = record { routines = first p.main ∷ []; hub = new_board p.channels; turns = 0 ∷ []; over = false }

-- the run begins as the rules say, all cells of its channels hold the zero element, and no other cell is written
pub record Begun (p : Program) (new : Parts Board) (vs : List Value) (hs : List Handle) (vs' : List Value) (hs' : List Handle) : Type 0 where
  pub memory : new ≡ first_memory p
  pub run : seen_run new vs' hs' ≡ started p
  pub values : vs' ≡ cleared 0 (sum_by (cells_for ValueKind) p.channels) value_zero vs
  pub handles : hs' ≡ cleared 0 (sum_by (cells_for HandleKind) p.channels) nil_handle hs

-- there are too few cells; of want of memory nothing more is said
abbrev pub Because : Bool → StartError → Type 0
Because e (Refused w) = (e ≡ false) × (w ≡ Small)
Because e Memory = e ≡ true

-- the script is started, or is given back and nothing has changed
abbrev pub Starts : Linked → List Value → List Handle → Result Started Unstarted → List Value → List Handle → Type 0
Starts l vs hs (Ok s) vs' hs' = (enough vs hs ≡ true) × (s.linked ≡ l) × Begun l.program s.memory vs hs vs' hs'
Starts l vs hs (Err u) vs' hs' = (u.linked ≡ l) × (vs' ≡ vs) × (hs' ≡ hs) × Because (enough vs hs) u.error
