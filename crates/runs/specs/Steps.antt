-- One step of a run.
use Rattle.std.specs.Prelude.{ℕ, ◌+◌, Bool, true, false, List, [], ◌∷◌, ◌++◌, length, drop, Some, None, Option, ◌==◌, nat_lt, slice_index_or, slice_set}
use Rattle.std.specs.Option.{option_or}
use Rattle.linking.specs.declared.operation.Operation.{Operation}
use Rattle.linking.specs.declared.operation.Operation.TheVariants.{Alone, Select, Close, Start, Print}
use Rattle.linking.specs.declared.operation.Exchange.{Exchange}
use Rattle.linking.specs.Programs.{Program}
use Rattle.routines.specs.declared.routine.Release.{Release}
use Rattle.reports.specs.declared.report.Move.{Move}
use Rattle.pickers.specs.Meaning.{Meaning}
use Rattle.pickers.specs.Choosing.{chosen, after_choice}
use Rattle.pickers.specs.declared.picker.Query.{Query}
use Rattle.pickers.specs.declared.choosing.Choice.{Choice}
use Rattle.pickers.specs.declared.choosing.Choice.TheVariants.{NoneReady, OneReady, Asked}
use Rattle.routines.specs.declared.item.Item.{Item}
use Rattle.routines.specs.declared.routine.Passed.{Passed}
use Rattle.routines.specs.declared.routine.Passed.TheVariants.{Sent, Received, Drained, Broken}
use Rattle.routines.specs.declared.routine.State.{State}
use Rattle.routines.specs.declared.routine.State.TheVariants.{Waiting, Released, Ended}
use Rattle.routines.specs.declared.routine.Routine.{Routine}
use Rattle.routines.specs.Items.{code_of}
use Rattle.routines.specs.Registers.{value_at, in_state, at_line, born, plain, landed}
use Rattle.reports.specs.declared.report.Panic.{Panic}
use Rattle.reports.specs.declared.report.Panic.TheVariants.{ClosedSend, ClosedTwice, NilClose, Crowded}
use Rattle.reports.specs.declared.report.Pass.{Pass}
use Rattle.reports.specs.declared.report.Pass.TheVariants as pass
use Rattle.reports.specs.declared.report.Deed.{Deed}
use Rattle.reports.specs.declared.report.Deed.TheVariants.{Plain, Waits, Passes, Closes, Prints, Starts, Ends, Finishes, Panics, Departs}
use Rattle.reports.specs.declared.report.Event.TheVariants.{Turn, Stall}
use Rattle.reports.specs.declared.report.Picked.{Picked}
use Rattle.reports.specs.declared.report.Report.{Report}
use Rattle.runs.specs.Runs.{Parts, Run, routine, channel, operation_at, block_of, text_line, with_routine, with_turns, joins, release, release_all, stopped, goes_on, living}
use Rattle.runs.specs.Cases.{Branch, branches_of, channel_for, wish_of, wishes_of, ready_set, default_from}
use Rattle.runs.specs.Taking.{Deal, take, dismissals, closed_at}

-- what a step answers, the run and the picker's meaning afterwards, and what came out of a buffer and into one
pub record Step : Type 0 where
  pub report : Report
  pub run : Run
  pub meaning : Meaning
  pub drawn : Option ℕ
  pub stored : Option (ℕ × Item)

-- a step that moves no element
abbrev pub only : ℕ → ℕ → Deed → Run → Meaning → Step
only r p d run m = record { report = record { event = Turn r p d; picked = None; accepted = None; received = None }; run = run; meaning = m; drawn = None; stored = None }

-- a panic ends the run, and the routine stays at its line in its state
abbrev pub panic : ℕ → ℕ → Panic → Run → Meaning → Step
panic r p q run m = only r p (Panics q) (stopped run) m

-- ---- passing by a case
abbrev pub shown : Passed → Pass
shown (Sent c e) = pass.Sent c (code_of e)
shown (Received c e) = pass.Received c (code_of e)
shown (Drained c) = pass.Drained c
shown Broken = pass.Default  -- a broken send is not shown: it panics

-- what a passed case leaves in the registers
abbrev pub written_by : Option (Exchange ℕ) → Passed → Routine → Routine
written_by None q x = x
written_by (Some e) q x = landed e q x

-- ---- moves: what a channel accepted of routine r, and what r received, by the way in which r passed
abbrev pub move : ℕ → Item → ℕ → Move
move c e r = record { channel = c; code = code_of e; routine = r }

abbrev pub accepted_of : ℕ → Passed → Option Move
accepted_of r (Sent c e) = Some (move c e r)
accepted_of r (Received c e) = None
accepted_of r (Drained c) = None
accepted_of r Broken = None

abbrev pub received_of : ℕ → Passed → Option Move
received_of r (Sent c e) = None
received_of r (Received c e) = Some (move c e r)
received_of r (Drained c) = None
received_of r Broken = None

-- of the routine that passes, or else of the one that it releases
abbrev pub either : (ℕ → Passed → Option Move) → ℕ → Passed → Option Release → Option Move
either f r p None = f r p
either f r p (Some w) = option_or (f r p) (f w.routine w.passed)

abbrev pub released_run : {H : Type 0} → Option Release → Parts H → Parts H
released_run None run = run
released_run (Some w) run = release w run

-- how routine r passes by a case, the moves that this makes, and the run when others are released
pub record Taken : Type 0 where
  pub passed : Passed
  pub accepted : Option Move
  pub received : Option Move
  pub drawn : Option ℕ
  pub stored : Option (ℕ × Item)
  pub run : Run

abbrev pub taken_by : ℕ → Deal → Run → Taken
taken_by r d run = record {
  passed = d.passed;
  accepted = either accepted_of r d.passed d.released;
  received = either received_of r d.passed d.released;
  drawn = d.drawn;
  stored = d.stored;
  run = released_run d.released (record run { hub = d.hub });
}

-- routine r at text line p passes case k, the branch b: after what was taken, in the run old if it breaks
abbrev pub passes : Meaning → ℕ → ℕ → ℕ → Branch → Option Picked → Taken → Step
passes m r p k b pk t = record {
  report = record { event = Turn r p (Passes k (shown t.passed)); picked = pk; accepted = t.accepted; received = t.received };
  run = goes_on r (at_line b.target (written_by b.exchange t.passed (routine t.run r))) t.run;
  meaning = m;
  drawn = t.drawn;
  stored = t.stored;
}

abbrev pub breaks : Run → Meaning → ℕ → ℕ → Option Picked → Step
breaks old m r p pk = record { report = record { event = Turn r p (Panics ClosedSend); picked = pk; accepted = None; received = None }; run = stopped old; meaning = m; drawn = None; stored = None }

abbrev pub passing : Run → Meaning → ℕ → ℕ → ℕ → Branch → Option Picked → Taken → Passed → Step
passing old m r p k b pk t (Sent c e) = passes m r p k b pk t
passing old m r p k b pk t (Received c e) = passes m r p k b pk t
passing old m r p k b pk t (Drained c) = passes m r p k b pk t
passing old m r p k b pk t Broken = breaks old m r p pk

abbrev pub no_branch : Branch
no_branch = record { exchange = None; target = 0 }

abbrev pub branch_at : List Branch → ℕ → Branch
branch_at bs k = slice_index_or bs k no_branch

-- ---- a turn at a select
-- no case is ready: the default is passed; without one the routine waits
abbrev pub waiting : ℕ → Routine → List Branch → Run → Run
waiting r x bs run = record run {
  routines = slice_set run.routines r (in_state Waiting x);
  hub = joins r (wishes_of run.hub.channels x bs) run.hub;
  turns = drop 1 run.turns;
}

abbrev pub none_ready : Run → Meaning → ℕ → ℕ → Routine → List Branch → Option (ℕ × ℕ) → Step
none_ready run m r p x bs None = only r p Waits (waiting r x bs run) m
none_ready run m r p x bs (Some d) = only r p (Passes d.0 pass.Default) (goes_on r (at_line d.1 x) run) m

abbrev pub taking : Run → Meaning → ℕ → ℕ → Routine → List Branch → ℕ → Option Picked → Step
taking run m r p x bs k pk =
    let b : Branch = branch_at bs k in
    let t : Taken = taken_by r (take run.hub (wish_of run.hub.channels x b.exchange)) run in
    passing run m r p k b pk t t.passed

-- one ready case is taken; of more the picked one; a picker that names none ends the run
abbrev pub chosen_case : Run → Meaning → ℕ → ℕ → Routine → List Branch → Choice → Step
chosen_case run m r p x bs NoneReady = none_ready run m r p x bs (default_from 0 bs)
chosen_case run m r p x bs (OneReady k) = taking run m r p x bs k None
chosen_case run m r p x bs (Asked None) = only r p Departs (stopped run) m
chosen_case run m r p x bs (Asked (Some k)) = taking run m r p x bs k (Some (record { routine = r; case = k }))

abbrev pub query : Run → ℕ → Routine → List Branch → Query
query run r x bs = record { routine = r; ready = ready_set run.hub (wishes_of run.hub.channels x bs) }

abbrev pub selecting : Run → Meaning → ℕ → ℕ → Routine → List Branch → Step
selecting run m r p x bs = chosen_case run (after_choice m (query run r x bs)) r p x bs (chosen m (query run r x bs))

-- ---- closing, starting, ending
abbrev pub close_channel : Run → Meaning → ℕ → ℕ → Routine → ℕ → Bool → Step
close_channel run m r p x c true = panic r p ClosedTwice run m
close_channel run m r p x c false = only r p (Closes c (length (dismissals run.hub c))) (goes_on r (at_line (x.line + 1) x) (release_all (dismissals run.hub c) (record run { hub = closed_at run.hub c }))) m

abbrev pub closing : Run → Meaning → ℕ → ℕ → Routine → Option ℕ → Step
closing run m r p x None = panic r p NilClose run m
closing run m r p x (Some c) = close_channel run m r p x c (channel run.hub c).closed

-- a run starts 64 routines at most
abbrev pub with_born : {H : Type 0} → ℕ → Routine → Parts H → Parts H
with_born b x run = record run { routines = run.routines ++ (born b x ∷ []); turns = run.turns ++ (length run.routines ∷ []) }

abbrev pub starting : Run → Meaning → ℕ → ℕ → Routine → ℕ → Bool → Step
starting run m r p x b false = panic r p Crowded run m
starting run m r p x b true = only r p (Starts (length run.routines)) (goes_on r (at_line (x.line + 1) x) (with_born b x run)) m

-- the end of routine 0 finishes the run
abbrev pub ended : {H : Type 0} → ℕ → Routine → Parts H → Parts H
ended r x run = with_turns (drop 1 run.turns) (with_routine r (in_state Ended x) run)

abbrev pub ending : Run → Meaning → ℕ → Routine → Bool → Step
ending run m r x true = only r 0 Finishes (stopped (ended r x run)) m
ending run m r x false = only r 0 Ends (ended r x run) m

-- ---- a turn
-- at an operation, before those that follow it in the body; no routine comes to a case line
abbrev pub acting : Run → Meaning → ℕ → ℕ → Routine → List Operation → Operation → Step
acting run m r p x rest (Alone e) = selecting run m r p x (branches_of (Alone e) x.line rest)
acting run m r p x rest (Select n) = selecting run m r p x (branches_of (Select n) x.line rest)
acting run m r p x rest (Close o) = closing run m r p x (channel_for run.hub.channels x o)
acting run m r p x rest (Start b) = starting run m r p x b (nat_lt (length run.routines) 64)
acting run m r p x rest (Print v) = only r p (Prints (value_at x v).number) (goes_on r (at_line (x.line + 1) x) run) m
acting run m r p x rest o = only r p Plain (goes_on r (plain o x) run) m

-- one line, or the body's end
abbrev pub at_operation : Run → Meaning → ℕ → ℕ → Routine → List Operation → Option Operation → Step
at_operation run m r p x rest None = ending run m r x (r == 0)
at_operation run m r p x rest (Some o) = acting run m r p x rest o

-- the cases that a routine stands at
abbrev pub branches_at : ℕ → List Operation → Option Operation → List Branch
branches_at i rest None = []
branches_at i rest (Some o) = branches_of o i rest

abbrev pub after_line : Program → Routine → List Operation
after_line p x = drop (x.line + 1) (block_of p x).operations

abbrev pub branches : Program → Routine → List Branch
branches p x = branches_at x.line (after_line p x) (operation_at p x)

-- a released routine passes by the case that it was released with; its elements moved when it was released
abbrev pub nothing_moved : Passed → Run → Taken
nothing_moved q run = record { passed = q; accepted = None; received = None; drawn = None; stored = None; run = run }

abbrev pub turn_in : Program → Run → Meaning → ℕ → Routine → State → Step
turn_in p run m r x (Released k q) = passing run m r (text_line p x) k (branch_at (branches p x) k) None (nothing_moved q run) q
turn_in p run m r x _ = at_operation run m r (text_line p x) x (after_line p x) (operation_at p x)

-- the first routine of the run queue takes its turn; on an empty queue the run stalls
abbrev pub turn : Program → Run → Meaning → List ℕ → Step
turn p run m [] = record { report = record { event = Stall (living run); picked = None; accepted = None; received = None }; run = stopped run; meaning = m; drawn = None; stored = None }
turn p run m (r ∷ rest) = turn_in p run m r (routine run r) (routine run r).state

abbrev pub step : Program → Run → Meaning → Step
step p run m = turn p run m run.turns
