-- What taking a case that can go does to memory: the step is made, and there is room for the turn of whoever is released.
use Rattle.std.proofs.Common.{◌≡◌, ℕ, ◌<◌, ◌≤◌, true, cond, List, length, map, Some, None, Option, IfSome, refl, sym, ap, ◌∙◌, subst, arith}
use Rattle.std.specs.Prelude.{slice_index_or}
use Rattle.std.proofs.lemmas.Bool.{and_from, cond-true, le-leb, lt-ltb}
use Rattle.std.proofs.lemmas.Bool.Decides.{nat_tests}
use Rattle.elements.specs.declared.value.Value.{Value}
use Rattle.elements.specs.declared.handle.Handle.{Handle}
use Rattle.linking.specs.declared.operation.Operation.{Operation}
use Rattle.linking.specs.declared.operation.Exchange.{Exchange}
use Rattle.pickers.specs.Meaning.{Meaning}
use Rattle.reports.specs.declared.report.Picked.{Picked}
use Rattle.reports.specs.declared.report.Report.{Report}
use Rattle.routines.specs.declared.item.Item.{Item}
use Rattle.routines.specs.declared.routine.Release.{Release}
use Rattle.routines.specs.declared.routine.Routine.{Routine}
use Rattle.waiting.specs.declared.wish.Wish.{Wish}
use Rattle.runs.specs.Runs.{Hub, Parts}
use Rattle.runs.specs.Cases.{Branch, branch, can_go, channel_of, wish_of}
use Rattle.runs.specs.Orderly.{Orderly}
use Rattle.runs.specs.Taking.{Deal, take}
use Rattle.runs.specs.Steps.{branch_at, passing, taken_by, taking}
use Rattle.run_laws.proofs.Counts.{times, counted}
use Rattle.run_laws.proofs.Orderly.{released_waits, room_for_turn}
use Rattle.hub.specs.declared.deal.Deal.{Deal as Answer}
use Rattle.hub.specs.Boards.{Board, seen, Enough}
use Rattle.hub.specs.Deals.{may_take, dealt, answer, board_after, values_after, handles_after}
use Rattle.machine.specs.Memory.{Made, seen_run, settled, settled_report}
use Rattle.machine.proofs.Makes.{take_stays, taken_made}
use Rattle.machine.proofs.Sets.{branch_here}

abbrev OrderlyParts : Parts Board → Type 0
OrderlyParts run = Orderly (length run.routines) run.turns run.hub.line

-- ---- whoever is released waited: it is one of the routines, and the run queue has room for its turn
below : (n w : ℕ) (turns line : List ℕ) → 1 ≤ times w line → Orderly n turns line → w < n
below n w turns line there o = grind (arith, nat_tests, counted n turns line o w)

module _ (h : Hub) (v : Option (Wish Item)) (n : ℕ) (turns : List ℕ) (o : Orderly n turns h.line) where
  room_released : (r : Option Release) → (take h v).released ≡ r → IfSome r (λ w. length turns < 64)
  room_released None e = tt
  room_released (Some w) e = room_for_turn n w.routine turns h.line (released_waits h v w e) o

  there_released : (r : Option Release) → (take h v).released ≡ r → IfSome r (λ w. w.routine < n)
  there_released None e = tt
  there_released (Some w) e = below n w.routine turns h.line (released_waits h v w e) o

-- ---- the case is the branch b, and waits for w
pub branch_is : (ops : List Operation) (k : ℕ) (d : Operation) (e : Option (Exchange ℕ)) (t : ℕ) → k < length ops → e ≡ (branch (slice_index_or ops k d)).exchange → t ≡ (branch (slice_index_or ops k d)).target
    → branch_at (map branch ops) k ≡ record { exchange = e; target = t }
branch_is ops k d e t l i j =
    branch_here ops k d l
    ∙ ap (λ z. record { exchange = z; target = (branch (slice_index_or ops k d)).target }) (sym i)
    ∙ ap (λ z. record { exchange = e; target = z }) (sym j)

-- memory being now, which is old
module _ (old now : Parts Board) (same : old ≡ now) (vs : List Value) (hs : List Handle) (x : Routine) (bs : List Branch) (k : ℕ) (b : Branch) (w : Wish Item)
    (here : branch_at bs k ≡ b) (waits : wish_of (seen old.hub vs hs).channels x b.exchange ≡ Some w)
    (goes : can_go (seen now.hub vs hs) (wish_of (seen now.hub vs hs).channels x (branch_at bs k).exchange) ≡ true)
    (enough : Enough vs hs) (there : channel_of w < length old.hub.ports) where
  abbrev h : Hub
  h = seen old.hub vs hs

  abbrev d : Deal
  d = dealt old.hub vs hs w

  may : may_take old.hub vs hs w ≡ true
  may =
      let found : wish_of h.channels x (branch_at bs k).exchange ≡ Some w = ap (λ z. wish_of h.channels x z.exchange) here ∙ waits in
      let can : can_go h (wish_of h.channels x (branch_at bs k).exchange) ≡ true = subst (λ z. can_go (seen z.hub vs hs) (wish_of (seen z.hub vs hs).channels x (branch_at bs k).exchange) ≡ true) (sym same) goes in
      and_from _ _
      (and_from _ _ (le-leb 512 (length vs) enough.values) (le-leb 128 (length hs) enough.handles))
      (and_from _ _ (lt-ltb (channel_of w) (length old.hub.ports) there) (ap (can_go h) (sym found) ∙ can))

  -- so the case is taken
  so : {A : Type 0} (y n z : A) → z ≡ cond (may_take old.hub vs hs w) y n → z ≡ y
  so y n z e = e ∙ cond-true (may_take old.hub vs hs w) y n may

  module _ (o : Option Answer) (a : Answer) (some : o ≡ Some a) (answered : o ≡ cond (may_take old.hub vs hs w) (Some (answer d)) None) where
    deal_is : a ≡ answer d
    deal_is = let e : Some a ≡ Some (answer d) = sym some ∙ so (Some (answer d)) None o answered in cc

    orderly_here : OrderlyParts now → OrderlyParts old
    orderly_here q = subst OrderlyParts (sym same) q

    pub room : OrderlyParts now → IfSome a.released (λ r. length old.turns < 64)
    room q = room_released h (Some w) (length old.routines) old.turns (orderly_here q) a.released (ap (λ z. z.released) (sym deal_is))

    pub known : OrderlyParts now → IfSome a.released (λ r. r.routine < length old.routines)
    known q = there_released h (Some w) (length old.routines) old.turns (orderly_here q) a.released (ap (λ z. z.released) (sym deal_is))

    pub step_made : (m : Meaning) (r p : ℕ) (pk : Option Picked) (new : Parts Board) (after : Board) (vs' : List Value) (hs' : List Handle) (report : Report)
        → after ≡ cond (may_take old.hub vs hs w) (board_after d old.hub) old.hub
        → vs' ≡ cond (may_take old.hub vs hs w) (values_after old.hub.ports d.drawn d.stored vs) vs
        → hs' ≡ cond (may_take old.hub vs hs w) (handles_after old.hub.ports d.drawn d.stored hs) hs
        → seen after vs' hs' ≡ cond (may_take old.hub vs hs w) d.hub h
        → report ≡ settled_report r p k pk a.passed a.released
        → new ≡ settled r b a.passed a.released (record old { hub = after })
        → Made (taking (seen_run now vs hs) m r p x bs k pk) report now new vs vs' hs hs'
    step_made m r p pk new after vs' hs' report board values handles told tells memory =
        let board' = so (board_after d old.hub) old.hub after board in
        let G : Branch → Option (Wish Item) → Type 0 = λ z v. Made (passing (seen_run old vs hs) m r p k z pk (taken_by r (take h v) (seen_run old vs hs)) (take h v).passed) report old new vs vs' hs hs' in
        subst (λ z. Made (taking (seen_run z vs hs) m r p x bs k pk) report z new vs vs' hs hs') same
        (subst (λ z. G z (wish_of h.channels x z.exchange)) (sym here)
        (subst (G b) (sym waits)
        (taken_made m r p k b pk old new vs hs vs' hs' d report
        (ap (λ z. seen z vs' hs') (sym board') ∙ so d.hub h (seen after vs' hs') told)
        (so (values_after old.hub.ports d.drawn d.stored vs) vs vs' values)
        (so (handles_after old.hub.ports d.drawn d.stored hs) hs hs' handles)
        d.passed refl (λ q. take_stays h (Some w) q)
        (tells ∙ ap (λ z. settled_report r p k pk z.passed z.released) deal_is)
        (memory ∙ ap (λ z. settled r b z.passed z.released (record old { hub = after })) deal_is
        ∙ ap (λ z. settled r b d.passed d.released (record old { hub = z })) board'))))
