-- Turns that move no element, as steps.
use Rattle.std.proofs.Common.{◌≡◌, ℕ, ◌+◌, Bool, true, false, List, length, Some, None, Option, sym, refl, ap, ◌∙◌, subst}
use Rattle.std.proofs.lemmas.Bool.{eq-eqb, ne_eqb}
use Rattle.elements.specs.declared.value.Value.{Value}
use Rattle.elements.specs.declared.handle.Handle.{Handle}
use Rattle.pickers.specs.Meaning.{Meaning}
use Rattle.reports.specs.declared.report.Report.{Report}
use Rattle.reports.specs.declared.report.Deed.TheVariants.{Plain, Prints, Ends, Finishes, Panics, Closes}
use Rattle.reports.specs.declared.report.Panic.{Panic}
use Rattle.reports.specs.declared.report.Panic.TheVariants.{NilClose, ClosedTwice}
use Rattle.routines.specs.declared.routine.Routine.{Routine}
use Rattle.linking.specs.declared.operation.Operation.{Operation}
use Rattle.linking.specs.declared.operation.Operation.TheVariants.{Set, Add, Sub, Jump, JumpNegative, Hold, Clear, Alone, Select, Case, Default, Close, Start, Print}
use Rattle.routines.specs.Registers.{at_line, plain, value_at}
use Rattle.runs.specs.Runs.{Parts, Run, channel, goes_on, stopped}
use Rattle.runs.specs.Steps.{only, panic, closing, close_channel, ended, ending, acting, at_operation}
use Rattle.hub.specs.Boards.{Board, seen}
use Rattle.hub.specs.Deals.{leaving_from}
use Rattle.machine.specs.Memory.{Made, seen_run, told, closing_memory}
use Rattle.machine.specs.Needs.{is_plain}
use Rattle.machine.proofs.Makes.{still}
use Rattle.machine.proofs.Dismissals.{shut_made}

plain_step : (run : Run) (m : Meaning) (r p : ℕ) (x : Routine) (rest : List Operation) (l : Operation) → is_plain l ≡ true → acting run m r p x rest l ≡ only r p Plain (goes_on r (plain l x) run) m
plain_step run m r p x rest (Set v n) is = refl
plain_step run m r p x rest (Add v w) is = refl
plain_step run m r p x rest (Sub v w) is = refl
plain_step run m r p x rest (Jump t) is = refl
plain_step run m r p x rest (JumpNegative v t) is = refl
plain_step run m r p x rest (Hold h c) is = refl
plain_step run m r p x rest (Clear h) is = refl
plain_step run m r p x rest (Alone e) is = cc
plain_step run m r p x rest (Select k) is = cc
plain_step run m r p x rest (Case e t) is = refl
plain_step run m r p x rest (Default t) is = refl
plain_step run m r p x rest (Close o) is = cc
plain_step run m r p x rest (Start b) is = cc
plain_step run m r p x rest (Print v) is = cc

module _ (m : Meaning) (r p : ℕ) (x : Routine) (answer : Report) (old new : Parts Board) (vs : List Value) (hs : List Handle) where
  pub panic_made : (q : Panic) → answer ≡ told r p (Panics q) → new ≡ stopped old → Made (panic r p q (seen_run old vs hs) m) answer old new vs vs hs hs
  panic_made q report memory = still _ answer old new vs hs report refl refl (ap (λ n. n.hub.ports) memory) (ap (λ n. seen_run n vs hs) memory)

  abbrev Closing : Option ℕ → Type 0
  Closing o = Made (closing (seen_run old vs hs) m r p x o) answer old new vs vs hs hs

  abbrev ClosingAt : ℕ → Bool → Type 0
  ClosingAt c b = Made (close_channel (seen_run old vs hs) m r p x c b) answer old new vs vs hs hs

  pub nil_close_made : (o : Option ℕ) → o ≡ None → answer ≡ told r p (Panics NilClose) → new ≡ stopped old → Closing o
  nil_close_made o none report memory = subst Closing (sym none) (panic_made NilClose report memory)

  module _ (o : Option ℕ) (c : ℕ) (some : o ≡ Some c) where
    pub second_close_made : (channel (seen old.hub vs hs) c).closed ≡ true → answer ≡ told r p (Panics ClosedTwice) → new ≡ stopped old → Closing o
    second_close_made closed report memory = subst Closing (sym some) (subst (ClosingAt c) (sym closed) (panic_made ClosedTwice report memory))

    pub close_made : (channel (seen old.hub vs hs) c).closed ≡ false → answer ≡ told r p (Closes c (length (leaving_from c old.hub))) → new ≡ goes_on r (at_line (x.line + 1) x) (closing_memory c old) → Closing o
    close_made open' report memory = subst Closing (sym some) (subst (ClosingAt c) (sym open') (shut_made m r p c x answer old new vs hs report memory))

  -- ---- a turn at a line
  abbrev At : List Operation → Option Operation → Type 0
  At rest o = Made (at_operation (seen_run old vs hs) m r p x rest o) answer old new vs vs hs hs

  abbrev Ending : Bool → Type 0
  Ending b = Made (ending (seen_run old vs hs) m r x b) answer old new vs vs hs hs

  module _ (rest : List Operation) (o : Option Operation) where
    pub finish_made : o ≡ None → r ≡ 0 → p ≡ 0 → answer ≡ told r p Finishes → new ≡ stopped (ended r x old) → At rest o
    finish_made none first line report memory =
        subst (At rest) (sym none) (subst Ending (sym (eq-eqb r 0 first))
        (still (ending (seen_run old vs hs) m r x true) answer old new vs hs (report ∙ ap (λ q. told r q Finishes) line) refl refl (ap (λ n. n.hub.ports) memory) (ap (λ n. seen_run n vs hs) memory)))

    pub end_made : o ≡ None → (r ≡ 0 → ⊥) → p ≡ 0 → answer ≡ told r p Ends → new ≡ ended r x old → At rest o
    end_made none other line report memory =
        subst (At rest) (sym none) (subst Ending (sym (ne_eqb r 0 other))
        (still (ending (seen_run old vs hs) m r x false) answer old new vs hs (report ∙ ap (λ q. told r q Ends) line) refl refl (ap (λ n. n.hub.ports) memory) (ap (λ n. seen_run n vs hs) memory)))

    pub print_made : (v : ℕ) → o ≡ Some (Print v) → answer ≡ told r p (Prints (value_at x v).number) → new ≡ goes_on r (at_line (x.line + 1) x) old → At rest o
    print_made v some report memory =
        subst (At rest) (sym some)
        (still (at_operation (seen_run old vs hs) m r p x rest (Some (Print v))) answer old new vs hs report refl refl (ap (λ n. n.hub.ports) memory) (ap (λ n. seen_run n vs hs) memory))

    pub plain_made : (l : Operation) → o ≡ Some l → is_plain l ≡ true → answer ≡ told r p Plain → new ≡ goes_on r (plain l x) old → At rest o
    plain_made l some is report memory =
        subst (At rest) (sym some)
        (subst (λ s. Made s answer old new vs vs hs hs) (sym (plain_step (seen_run old vs hs) m r p x rest l is))
        (still (only r p Plain (goes_on r (plain l x) (seen_run old vs hs)) m) answer old new vs hs report refl refl (ap (λ n. n.hub.ports) memory) (ap (λ n. seen_run n vs hs) memory)))
