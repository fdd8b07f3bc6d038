-- What is printed of a routine's state.
use Rattle.std.specs.Prelude.{ℕ, List, codes}
use Rattle.routines.specs.declared.routine.State.{State}
use Rattle.routines.specs.declared.routine.State.TheVariants.{Ready, Waiting, Released, Ended}

abbrev pub state_word : State → List ℕ
state_word Ready = codes "ready"
state_word Waiting = codes "waiting"
state_word (Released k passed) = codes "released"
state_word Ended = codes "ended"
