-- From what a step did to memory: that it was made.
use Rattle.std.proofs.Common.{◌≡◌, ℕ, Bool, true, false, List, [], ◌∷◌, map, Some, None, Option, refl, sym, ap, ◌∙◌, subst}
use Rattle.elements.specs.declared.value.Value.{Value}
use Rattle.elements.specs.declared.handle.Handle.{Handle}
use Rattle.reports.specs.declared.report.Deed.TheVariants.{Passes}
use Rattle.reports.specs.declared.report.Event.TheVariants.{Turn}
use Rattle.reports.specs.declared.report.Picked.{Picked}
use Rattle.reports.specs.declared.report.Report.{Report}
use Rattle.routines.specs.declared.routine.Passed.{Passed}
use Rattle.routines.specs.declared.routine.Passed.TheVariants.{Sent, Received, Drained, Broken}
use Rattle.routines.specs.declared.routine.Release.{Release}
use Rattle.routines.specs.Registers.{at_line}
use Rattle.waiting.specs.declared.wish.Wish.{Wish}
use Rattle.waiting.specs.declared.wish.Wish.TheVariants as wish
use Rattle.waiting.specs.declared.wish.Entry.{Entry}
use Rattle.pickers.specs.Meaning.{Meaning}
use Rattle.routines.specs.declared.item.Item.{Item}
use Rattle.runs.specs.Runs.{Parts, Run, Hub, routine, goes_on}
use Rattle.runs.specs.Cases.{Branch}
use Rattle.runs.specs.Taking.{Deal, take, send_on, receive_on}
use Rattle.runs.specs.Steps.{Step, Taken, taken_by, passes, passing, released_run, written_by, shown, accepted_of, received_of, either}
use Rattle.hub.specs.declared.port.Port.{Port}
use Rattle.hub.specs.Boards.{Board, seen, seen_port}
use Rattle.hub.specs.Deals.{drawn_from, stored_in, values_after, handles_after, board_after}
use Rattle.machine.specs.Memory.{Made, marked, seen_run, settled, settled_report}

-- each channel has the mark that it has
pub marked_same : (vs : List Value) (hs : List Handle) (ps : List Port) → marked (map (seen_port vs hs) ps) ps ≡ ps
marked_same vs hs [] = refl
marked_same vs hs (p ∷ ps) = ap (λ qs. p ∷ qs) (marked_same vs hs ps)

-- in the rings only what was drawn and stored is changed
pub made : (s : Step) (answer : Report) (old new : Parts Board) (vs : List Value) (hs : List Handle) (vs' : List Value) (hs' : List Handle) → answer ≡ s.report → new.hub.ports ≡ stored_in s.stored (drawn_from s.drawn old.hub.ports) → seen_run new vs' hs' ≡ s.run → vs' ≡ values_after old.hub.ports s.drawn s.stored vs → hs' ≡ handles_after old.hub.ports s.drawn s.stored hs → Made s answer old new vs vs' hs hs'
made s answer old new vs hs vs' hs' report ports run values handles = record {
  report = report;
  memory =
      let same : marked (map (seen_port vs' hs') new.hub.ports) (stored_in s.stored (drawn_from s.drawn old.hub.ports)) ≡ new.hub.ports = rw (sym ports) (marked_same vs' hs' new.hub.ports) in
      let P : Run → Type 0 = λ q. new ≡ record { routines = q.routines; hub = record { ports = marked q.hub.channels (stored_in s.stored (drawn_from s.drawn old.hub.ports)); line = q.hub.line; wishes = q.hub.wishes }; turns = q.turns; over = q.over } in
      subst P run (ap (λ ps. record new { hub = record new.hub { ports = ps } }) (sym same));
  run = run;
  values = values;
  handles = handles;
}

-- neither rings nor cells changed
pub still : (s : Step) (answer : Report) (old new : Parts Board) (vs : List Value) (hs : List Handle) → answer ≡ s.report → s.drawn ≡ None → s.stored ≡ None → new.hub.ports ≡ old.hub.ports → seen_run new vs hs ≡ s.run → Made s answer old new vs vs hs hs
still s answer old new vs hs report drawn stored ports run = made s answer old new vs hs vs hs report (rw (drawn, stored) ports) run (rw (stored) refl) (rw (stored) refl)

-- ---- a case is taken
-- where it breaks, nothing has changed
pub record Unmoved (h : Hub) (d : Deal) : Type 0 where
  pub hub : d.hub ≡ h
  pub drawn : d.drawn ≡ None
  pub stored : d.stored ≡ None

send_stays : (h : Hub) (c : ℕ) (e : Item) (closed : Bool) (ws : List (Entry Item)) → (send_on h c e closed ws).passed ≡ Broken → Unmoved h (send_on h c e closed ws)
send_stays h c e true ws p = record { hub = refl; drawn = refl; stored = refl }
send_stays h c e false [] p = cc
send_stays h c e false (w ∷ ws) p = cc

receive_stays : (h : Hub) (c : ℕ) (es : List Item) (ws : List (Entry Item)) → (receive_on h c es ws).passed ≡ Broken → Unmoved h (receive_on h c es ws)
receive_stays h c [] [] p = cc
receive_stays h c [] (w ∷ ws) p = cc
receive_stays h c (e ∷ es) [] p = cc
receive_stays h c (e ∷ es) (w ∷ ws) p = cc

pub take_stays : (h : Hub) (w : Option (Wish Item)) → (take h w).passed ≡ Broken → Unmoved h (take h w)
take_stays h None p = record { hub = refl; drawn = refl; stored = refl }
take_stays h (Some (wish.Send c e)) p = send_stays h c _ _ _ p
take_stays h (Some (wish.Receive c)) p = receive_stays h c _ _ p

seen_released : (w : Option Release) (x : Parts Board) (vs : List Value) (hs : List Handle) → seen_run (released_run w x) vs hs ≡ released_run w (seen_run x vs hs)
seen_released None x vs hs = refl
seen_released (Some w) x vs hs = refl

hub_released : (w : Option Release) (x : Parts Board) → (released_run w x).hub ≡ x.hub
hub_released None x = refl
hub_released (Some w) x = refl

module _ (m : Meaning) (r p k : ℕ) (b : Branch) (pk : Option Picked) (old new : Parts Board) (vs : List Value) (hs : List Handle) (vs' : List Value) (hs' : List Handle) (d : Deal) (answer : Report)
    (told : seen (board_after d old.hub) vs' hs' ≡ d.hub)
    (values : vs' ≡ values_after old.hub.ports d.drawn d.stored vs) (handles : hs' ≡ handles_after old.hub.ports d.drawn d.stored hs) where
  abbrev mid : Parts Board
  mid = record old { hub = board_after d old.hub }

  abbrev goes : {H : Type 0} → Parts H → Parts H
  goes run = goes_on r (at_line b.target (written_by b.exchange d.passed (routine run r))) run

  abbrev taken : Taken
  taken = taken_by r d (seen_run old vs hs)

  -- what is told of a pass
  abbrev passed_report : Passed → Report
  passed_report q = record { event = Turn r p (Passes k (shown q)); picked = pk; accepted = either accepted_of r q d.released; received = either received_of r q d.released }

  passes_made : answer ≡ passed_report d.passed → new ≡ goes (released_run d.released mid) → Made (passes m r p k b pk taken) answer old new vs vs' hs hs'
  passes_made report memory =
      made _ answer old new vs hs vs' hs' report
      (ap (λ n. n.hub.ports) memory ∙ ap (λ h. h.ports) (hub_released d.released mid))
      (ap (λ n. seen_run n vs' hs') memory ∙ ap goes (seen_released d.released mid vs' hs' ∙ ap (λ h. released_run d.released (record { routines = old.routines; hub = h; turns = old.turns; over = old.over })) told))
      values handles

  -- where q is no break
  as_passed : (q : Passed) → d.passed ≡ q → settled_report r p k pk q d.released ≡ passed_report q
      → settled r b q d.released mid ≡ goes_on r (at_line b.target (written_by b.exchange q (routine (released_run d.released mid) r))) (released_run d.released mid)
      → passing (seen_run old vs hs) m r p k b pk taken q ≡ passes m r p k b pk taken
      → answer ≡ settled_report r p k pk d.passed d.released → new ≡ settled r b d.passed d.released mid → Made (passing (seen_run old vs hs) m r p k b pk taken d.passed) answer old new vs vs' hs hs'
  as_passed q is tells goes_so same report memory =
      let R : Passed → Type 0 = λ z. settled_report r p k pk z d.released ≡ passed_report z in
      let G : Passed → Type 0 = λ z. settled r b z d.released mid ≡ goes_on r (at_line b.target (written_by b.exchange z (routine (released_run d.released mid) r))) (released_run d.released mid) in
      let S : Passed → Type 0 = λ z. passing (seen_run old vs hs) m r p k b pk taken z ≡ passes m r p k b pk taken in
      let M : Step → Type 0 = λ z. Made z answer old new vs vs' hs hs' in
      subst M (sym (subst S (sym is) same)) (passes_made (report ∙ subst R (sym is) tells) (memory ∙ subst G (sym is) goes_so))

  -- where it breaks
  breaks_made : Unmoved (seen old.hub vs hs) d → answer ≡ settled_report r p k pk Broken d.released → new ≡ settled r b Broken d.released mid → Made (passing (seen_run old vs hs) m r p k b pk taken Broken) answer old new vs vs' hs hs'
  breaks_made u report memory =
      let same_hub : seen (board_after d old.hub) vs' hs' ≡ seen old.hub vs hs = told ∙ u.hub in
      let ports : stored_in d.stored (drawn_from d.drawn old.hub.ports) ≡ old.hub.ports = rw (u.stored, u.drawn) refl in
      made _ answer old new vs hs vs' hs' report
      (ap (λ n. n.hub.ports) memory ∙ ports)
      (ap (λ n. seen_run n vs' hs') memory ∙ ap (λ h. record { routines = old.routines; hub = h; turns = old.turns; over = true }) same_hub)
      (values ∙ rw (u.stored) refl) (handles ∙ rw (u.stored) refl)

  pub taken_made : (q : Passed) → d.passed ≡ q → (d.passed ≡ Broken → Unmoved (seen old.hub vs hs) d) → answer ≡ settled_report r p k pk d.passed d.released → new ≡ settled r b d.passed d.released mid → Made (passing (seen_run old vs hs) m r p k b pk taken d.passed) answer old new vs vs' hs hs'
  taken_made (Sent c e) is stays report memory = as_passed (Sent c e) is refl refl refl report memory
  taken_made (Received c e) is stays report memory = as_passed (Received c e) is refl refl refl report memory
  taken_made (Drained c) is stays report memory = as_passed (Drained c) is refl refl refl report memory
  taken_made Broken is stays report memory =
      let M : Passed → Type 0 = λ z. Made (passing (seen_run old vs hs) m r p k b pk taken z) answer old new vs vs' hs hs' in
      subst M (sym is) (breaks_made (stays is) (report ∙ ap (λ z. settled_report r p k pk z d.released) is) (memory ∙ ap (λ z. settled r b z d.released mid) is))
