-- The turn of a routine by its state.
use Rattle.std.proofs.Common.{◌≡◌, ℕ, List, [], Some, None, refl, sym, ap, subst}
use Rattle.elements.specs.declared.value.Value.{Value}
use Rattle.elements.specs.declared.handle.Handle.{Handle}
use Rattle.words.proofs.Same.{some_same}
use Rattle.linking.specs.Programs.{Program}
use Rattle.pickers.specs.Meaning.{Meaning}
use Rattle.reports.specs.declared.report.Event.TheVariants.{Stall}
use Rattle.reports.specs.declared.report.Report.{Report}
use Rattle.routines.specs.declared.routine.Passed.{Passed}
use Rattle.routines.specs.declared.routine.Passed.TheVariants.{Sent, Received, Drained, Broken}
use Rattle.routines.specs.declared.routine.Routine.{Routine}
use Rattle.routines.specs.declared.routine.State.{State}
use Rattle.routines.specs.declared.routine.State.TheVariants.{Ready, Waiting, Released, Ended}
use Rattle.runs.specs.Runs.{Parts, Run, operation_at, text_line, living, stopped}
use Rattle.runs.specs.Cases.{Branch}
use Rattle.runs.specs.Steps.{passing, nothing_moved, branch_at, branches, after_line, at_operation, turn_in, turn, step}
use Rattle.hub.specs.Boards.{Board}
use Rattle.machine.specs.Memory.{Made, seen_run, passed_on, passed_report, released_with}
use Rattle.machine.proofs.Makes.{still}

module _ (p : Program) (run : Run) (m : Meaning) (r : ℕ) (x : Routine) where
  pub turn_released : (s : State) (k : ℕ) (q : Passed) → released_with s ≡ Some (k, q) → turn_in p run m r x s ≡ passing run m r (text_line p x) k (branch_at (branches p x) k) None (nothing_moved q run) q
  turn_released Ready k q e = cc
  turn_released Waiting k q e = cc
  turn_released (Released a b) k q e = ap (λ (z : ℕ × Passed). passing run m r (text_line p x) z.0 (branch_at (branches p x) z.0) None (nothing_moved z.1 run) z.1) (some_same e)
  turn_released Ended k q e = cc

  pub turn_ready : (s : State) → released_with s ≡ None → turn_in p run m r x s ≡ at_operation run m r (text_line p x) x (after_line p x) (operation_at p x)
  turn_ready Ready e = refl
  turn_ready Waiting e = refl
  turn_ready (Released a b) e = cc
  turn_ready Ended e = refl

module _ (m : Meaning) (r p k : ℕ) (b : Branch) (answer : Report) (old new : Parts Board) (vs : List Value) (hs : List Handle) where
  pub passed_on_made : (q : Passed) → answer ≡ passed_report r p k q → new ≡ passed_on r b q old → Made (passing (seen_run old vs hs) m r p k b None (nothing_moved q (seen_run old vs hs)) q) answer old new vs vs hs hs
  passed_on_made (Sent c e) report memory = still _ answer old new vs hs report refl refl (ap (λ n. n.hub.ports) memory) (ap (λ n. seen_run n vs hs) memory)
  passed_on_made (Received c e) report memory = still _ answer old new vs hs report refl refl (ap (λ n. n.hub.ports) memory) (ap (λ n. seen_run n vs hs) memory)
  passed_on_made (Drained c) report memory = still _ answer old new vs hs report refl refl (ap (λ n. n.hub.ports) memory) (ap (λ n. seen_run n vs hs) memory)
  passed_on_made Broken report memory = still _ answer old new vs hs report refl refl (ap (λ n. n.hub.ports) memory) (ap (λ n. seen_run n vs hs) memory)

-- nobody has a turn
pub stall_made : (p : Program) (m : Meaning) (answer : Report) (old new : Parts Board) (vs : List Value) (hs : List Handle) → old.turns ≡ [] → answer ≡ record { event = Stall (living old); picked = None; accepted = None; received = None } → new ≡ stopped old → Made (step p (seen_run old vs hs) m) answer old new vs vs hs hs
stall_made p m answer old new vs hs none report memory =
    let T : List ℕ → Type 0 = λ ts. Made (turn p (seen_run old vs hs) m ts) answer old new vs vs hs hs in
    subst T (sym none) (still (turn p (seen_run old vs hs) m []) answer old new vs hs report refl refl (ap (λ n. n.hub.ports) memory) (ap (λ n. seen_run n vs hs) memory))
