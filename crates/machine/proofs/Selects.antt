-- A choice among the cases of a select, and the step that comes of it.
use Rattle.std.proofs.Common.{◌≡◌, ℕ, ◌<◌, ◌≤◌, List, length, map, true, Some, None, Option, sym, refl, ap, ◌∙◌, subst, arith}
use Rattle.std.proofs.lemmas.List.{length-map}
use Rattle.elements.specs.declared.value.Value.{Value}
use Rattle.elements.specs.declared.handle.Handle.{Handle}
use Rattle.linking.specs.declared.operation.Operation.{Operation}
use Rattle.waiting.specs.Queues.{Row}
use Rattle.pickers.specs.Meaning.{Meaning}
use Rattle.pickers.specs.Sets.{has, OneOf}
use Rattle.pickers.specs.Choosing.{chosen, after_choice}
use Rattle.pickers.specs.declared.choosing.Choice.{Choice}
use Rattle.pickers.specs.declared.choosing.Choice.TheVariants.{NoneReady, OneReady, Asked}
use Rattle.pickers.specs.declared.picker.Query.{Query}
use Rattle.reports.specs.declared.report.Picked.{Picked}
use Rattle.reports.specs.declared.report.Report.{Report}
use Rattle.reports.specs.declared.report.Deed.TheVariants.{Departs}
use Rattle.routines.specs.declared.item.Item.{Item}
use Rattle.routines.specs.declared.routine.Passed.{Passed}
use Rattle.routines.specs.declared.routine.Passed.TheVariants.{Sent, Received, Drained, Broken}
use Rattle.routines.specs.declared.routine.Routine.{Routine}
use Rattle.runs.specs.Runs.{Parts, Run, Hub, stopped}
use Rattle.runs.specs.Cases.{Branch, branch, can_go, wish_of, wishes_of, ready_set, default_from}
use Rattle.runs.specs.Taking.{take}
use Rattle.runs.specs.Steps.{Taken, taken_by, only, query, selecting, chosen_case, none_ready, passing, branch_at}
use Rattle.hub.specs.Boards.{Board, seen}
use Rattle.machine.specs.Memory.{Made, seen_run, told, unready, unready_report}
use Rattle.machine.proofs.Makes.{still}
use Rattle.machine.proofs.Sets.{goes}

-- the case that is named can go
pub picked_goes : (h : Hub) (x : Routine) (ops : List Operation) (row : Row Item) (o : Option ℕ) (k : ℕ) → length ops ≤ 8 → row ≡ wishes_of h.channels x (map branch ops) → OneOf (ready_set h row) o → o ≡ Some k → (k < length ops) × (can_go h (wish_of h.channels x (branch_at (map branch ops) k).exchange) ≡ true)
picked_goes h x ops row o k few same within named =
    let R : Row Item → Type 0 = λ ws. has (ready_set h ws) k ≡ true in
    let O : Option ℕ → Type 0 = λ p. OneOf (ready_set h row) p in
    goes h x ops k few (subst R same (subst O named within))

-- a row has a wish for each case
pub row_short : (h : Hub) (x : Routine) (ops : List Operation) (row : Row Item) → row ≡ wishes_of h.channels x (map branch ops) → length ops ≤ 8 → length row ≤ 8
row_short h x ops row same few = omega (arith, ap length same, length-map (map branch ops) (λ b. wish_of h.channels x b.exchange), length-map ops branch)

module _ (m : Meaning) (r p : ℕ) (x : Routine) (bs : List Branch) (answer : Report) (old new : Parts Board) (vs : List Value) (hs : List Handle) where
  -- no case can go
  pub unready_made : (row : Row Item) (o : Option (ℕ × ℕ)) → row ≡ wishes_of (seen old.hub vs hs).channels x bs → answer ≡ unready_report r p o → new ≡ unready r x row o old → Made (none_ready (seen_run old vs hs) m r p x bs o) answer old new vs vs hs hs
  unready_made row None same report memory =
      let W : Row Item → Type 0 = λ ws. seen_run (unready r x row None old) vs hs ≡ seen_run (unready r x ws None old) vs hs in
      still _ answer old new vs hs report refl refl (ap (λ n. n.hub.ports) memory) (ap (λ n. seen_run n vs hs) memory ∙ subst W same refl)
  unready_made row (Some d) same report memory = still _ answer old new vs hs report refl refl (ap (λ n. n.hub.ports) memory) (ap (λ n. seen_run n vs hs) memory)

  pub departs_made : answer ≡ told r p Departs → new ≡ stopped old → Made (only r p Departs (stopped (seen_run old vs hs)) m) answer old new vs vs hs hs
  departs_made report memory = still _ answer old new vs hs report refl refl (ap (λ n. n.hub.ports) memory) (ap (λ n. seen_run n vs hs) memory)

  pub chosen_made : (c d : Choice) (vs' : List Value) (hs' : List Handle) → c ≡ d → Made (chosen_case (seen_run old vs hs) m r p x bs d) answer old new vs vs' hs hs' → Made (chosen_case (seen_run old vs hs) m r p x bs c) answer old new vs vs' hs hs'
  chosen_made c d vs' hs' same this = let P : Choice → Type 0 = λ e. Made (chosen_case (seen_run old vs hs) m r p x bs e) answer old new vs vs' hs hs' in subst P (sym same) this

-- what is left of the picker's meaning
passing_meaning : (old : Run) (m : Meaning) (r p k : ℕ) (b : Branch) (pk : Option Picked) (t : Taken) (q : Passed) → (passing old m r p k b pk t q).meaning ≡ m
passing_meaning old m r p k b pk t (Sent c e) = refl
passing_meaning old m r p k b pk t (Received c e) = refl
passing_meaning old m r p k b pk t (Drained c) = refl
passing_meaning old m r p k b pk t Broken = refl

none_meaning : (run : Run) (m : Meaning) (r p : ℕ) (x : Routine) (bs : List Branch) (o : Option (ℕ × ℕ)) → (none_ready run m r p x bs o).meaning ≡ m
none_meaning run m r p x bs None = refl
none_meaning run m r p x bs (Some d) = refl

abbrev taking_at : Run → ℕ → Routine → List Branch → ℕ → Taken
taking_at run r x bs k = taken_by r (take run.hub (wish_of run.hub.channels x (branch_at bs k).exchange)) run

chosen_meaning : (run : Run) (m : Meaning) (r p : ℕ) (x : Routine) (bs : List Branch) (c : Choice) → (chosen_case run m r p x bs c).meaning ≡ m
chosen_meaning run m r p x bs NoneReady = none_meaning run m r p x bs (default_from 0 bs)
chosen_meaning run m r p x bs (OneReady k) = passing_meaning run m r p k (branch_at bs k) None (taking_at run r x bs k) (taking_at run r x bs k).passed
chosen_meaning run m r p x bs (Asked None) = refl
chosen_meaning run m r p x bs (Asked (Some k)) = passing_meaning run m r p k (branch_at bs k) (Some (record { routine = r; case = k })) (taking_at run r x bs k) (taking_at run r x bs k).passed

module _ (run : Run) (m : Meaning) (r p : ℕ) (x : Routine) (bs : List Branch) (q : Query) (c : Choice) (asked : q ≡ query run r x bs) (is : c ≡ chosen m q) where
  pub selecting_is : chosen_case run (after_choice m q) r p x bs c ≡ selecting run m r p x bs
  selecting_is =
      let P : Query → Type 0 = λ z. chosen_case run (after_choice m z) r p x bs (chosen m z) ≡ selecting run m r p x bs in
      let D : Choice → Type 0 = λ d. chosen_case run (after_choice m q) r p x bs d ≡ selecting run m r p x bs in
      subst D (sym is) (subst P (sym asked) refl)

  pub meaning_left : after_choice m q ≡ (selecting run m r p x bs).meaning
  meaning_left = sym (chosen_meaning run (after_choice m q) r p x bs c) ∙ ap (λ s. s.meaning) selecting_is
