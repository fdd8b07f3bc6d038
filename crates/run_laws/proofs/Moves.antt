-- The moves naming a routine are passed by in order.
use Rattle.std.proofs.Common.{◌≡◌, ℕ, zero, suc, ◌+◌, ◌<◌, Bool, true, false, cond, eqb, List, [], ◌∷◌, ◌++◌, map, length, Some, None, Option, sym, refl, ap, ◌∙◌, subst, inl, inr, append-nil}
use Rattle.std.specs.Prelude.{slice_set, slice_index_or}
use Rattle.std.proofs.lemmas.List.{get_or-set_same, get_or-set_other, set_past}
use Rattle.std.proofs.lemmas.Bool.{cases_eq, cases_lt, eq-eqb, eqb-true, ne_eqb}
use Rattle.linking.specs.Programs.{Program}
use Rattle.waiting.specs.declared.wish.Wish.{Wish}
use Rattle.waiting.specs.declared.wish.Wish.TheVariants as wish
use Rattle.waiting.specs.declared.wish.Side.TheVariants.{Receivers, Senders}
use Rattle.waiting.specs.declared.wish.Entry.{Entry}
use Rattle.waiting.specs.Queues.{Row, first, waits, without}
use Rattle.channels.specs.Closes.{both, freed}
use Rattle.channels.proofs.Freed.{first_freed, freed_more}
use Rattle.pickers.specs.Meaning.{Meaning}
use Rattle.reports.specs.declared.report.Deed.{Deed}
use Rattle.reports.specs.declared.report.Deed.TheVariants.{Plain, Waits, Passes, Closes, Prints, Starts, Ends, Finishes, Panics, Departs}
use Rattle.reports.specs.declared.report.Pass.TheVariants as pass
use Rattle.reports.specs.declared.report.Picked.{Picked}
use Rattle.routines.specs.declared.item.Item.{Item}
use Rattle.routines.specs.declared.routine.Passed.{Passed}
use Rattle.routines.specs.declared.routine.Passed.TheVariants.{Sent, Received, Drained, Broken}
use Rattle.routines.specs.declared.routine.Release.{Release}
use Rattle.routines.specs.declared.routine.Routine.{Routine}
use Rattle.routines.specs.declared.routine.State.{State}
use Rattle.routines.specs.declared.routine.State.TheVariants.{Ready, Waiting, Released, Ended}
use Rattle.routines.specs.Items.{as_kind, code_of}
use Rattle.routines.specs.Registers.{in_state, at_line}
use Rattle.runs.specs.Runs.{Hub, Run, nobody, channel, routine, queued, text_line, release, release_all, goes_on, started}
use Rattle.runs.specs.Cases.{Branch, wish_of}
use Rattle.runs.specs.Taking.{Deal, take, send_on, receive_on, dismissed, leaving, closed_at}
use Rattle.routines.specs.Registers.{born}
use Rattle.runs.specs.Steps.{Step, shown, taken_by, nothing_moved, released_run, either, accepted_of, received_of, passing, branch_at, branches, waiting, with_born, ended, ending, step}
use Rattle.run_laws.specs.Settled.{is_waiting, Settled}
use Rattle.run_laws.specs.Elements.{reports, run_after}
use Rattle.run_laws.specs.Moves.{Moved, sends, receives, naming, moves, move_shown, move_done, passed_by, move_due, due_in, due, StepKeepsMoves, all_moves, all_passed, KeepsMoves, MovesInOrder}
use Rattle.run_laws.proofs.Counts.{times_waits}
use Rattle.run_laws.proofs.Ways.{Ways, by_ways, calm, quiet}
use Rattle.run_laws.proofs.Orderly.{OrderlyAt, past, closing_run, both_wait, LineFits, take_line}
use Rattle.run_laws.proofs.Hubs.{waits_less}
use Rattle.run_laws.proofs.Links.{dismissed_routine, front_is_there, front_does_not_wait, waiter_is_there, pushed, past_end}
use Rattle.run_laws.proofs.Settled.{begins_settled, step_settled, step_lawful}
use Rattle.run_laws.proofs.Elements.{chain}

-- ---- small facts
none_either : {A : Type 0} (b : Bool) → ◌≡◌ {A = List A} (cond b [] []) []
none_either true = refl
none_either false = refl

shown_due : (q : Passed) → move_shown (shown q) ≡ move_due q
shown_due (Sent c e) = refl
shown_due (Received c e) = refl
shown_due (Drained c) = refl
shown_due Broken = refl

calm_due : (s : State) → calm s ≡ true → due_in s ≡ []
calm_due Ready e = refl
calm_due Waiting e = refl
calm_due (Released k q) e = cc
calm_due Ended e = refl

waiting_due : (s : State) → is_waiting s ≡ true → due_in s ≡ []
waiting_due Ready e = cc
waiting_due Waiting e = refl
waiting_due (Released k q) e = cc
waiting_due Ended e = cc

quiet_done : (d : Deed) → quiet d ≡ true → move_done d ≡ []
quiet_done Plain e = refl
quiet_done Waits e = refl
quiet_done (Passes k (pass.Sent c x)) e = cc
quiet_done (Passes k (pass.Received c x)) e = cc
quiet_done (Passes k (pass.Drained c)) e = refl
quiet_done (Passes k pass.Default) e = refl
quiet_done (Closes c n) e = refl
quiet_done (Prints v) e = refl
quiet_done (Starts n) e = refl
quiet_done Ends e = refl
quiet_done Finishes e = refl
quiet_done (Panics c) e = refl
quiet_done Departs e = refl

abbrev at : List Routine → ℕ → Routine
at xs r = slice_index_or xs r nobody

-- what is due after one routine has changed
pub set_due : (xs : List Routine) (r : ℕ) (y : Routine) (q : ℕ) → r < length xs → due_in (at (slice_set xs r y) q).state ≡ cond (eqb r q) (due_in y.state) (due_in (at xs q).state)
set_due xs r y q l = elim (cases_eq q r) [
  | inl e ↦ subst (λ i. due_in (at (slice_set xs r y) i).state ≡ cond (eqb r i) (due_in y.state) (due_in (at xs i).state)) (sym e)
      (ap (λ (x : Routine). due_in x.state) (get_or-set_same xs r y nobody l) ∙ sym (ap (λ b. cond b (due_in y.state) (due_in (at xs r).state)) (eq-eqb r r refl)))
  | inr n ↦ ap (λ (x : Routine). due_in x.state) (get_or-set_other xs r q y nobody n) ∙ sym (ap (λ b. cond b (due_in y.state) (due_in (at xs q).state)) (ne_eqb r q (λ e. n (sym e))))
]

-- where nothing was due and nothing becomes due
idle_set : (xs : List Routine) (r : ℕ) (y : Routine) → due_in (at xs r).state ≡ [] → due_in y.state ≡ [] → (q : ℕ) → due_in (at (slice_set xs r y) q).state ≡ due_in (at xs q).state
idle_set xs r y o n q = elim (cases_lt r (length xs)) [
  | inl l ↦ set_due xs r y q l ∙ same (eqb r q) refl
  | inr g ↦ ap (λ l. due_in (at l q).state) (set_past xs r y g)
]
  where
    same : (b : Bool) → eqb r q ≡ b → cond b (due_in y.state) (due_in (at xs q).state) ≡ due_in (at xs q).state
    same false e = refl
    same true e = n ∙ sym (subst (λ i. due_in (at xs i).state ≡ []) (eqb-true r q e) o)

-- ---- a step without moves, of a routine to which nothing is due before or after it
abbrev Keeps : Run → Step → Type 0
Keeps run t = (q : ℕ) → due run q ++ moves q t.report ≡ passed_by q t.report.event ++ due t.run q

nothing : (run : Run) (r q : ℕ) (new done : List Moved) → done ≡ [] → new ≡ due run q → due run q ++ [] ≡ cond (eqb r q) done [] ++ new
nothing run r q new done d e = append-nil (due run q) ∙ sym (ap (λ l. l ++ new) (ap (λ l. cond (eqb r q) l []) d ∙ none_either (eqb r q)) ∙ e)

goes_due : (run : Run) (r : ℕ) (x : Routine) → due run r ≡ [] → (q : ℕ) → due (goes_on r x run) q ≡ due run q
goes_due run r x e q = idle_set run.routines r (in_state Ready x) e refl q

-- ---- a start
born_due : (run : Run) (b : ℕ) (x : Routine) (q : ℕ) → due (with_born b x run) q ≡ due run q
born_due run b x q = elim (pushed run.routines (born b x) q) [
  | inl e ↦ ap (λ (y : Routine). due_in y.state) e.1 ∙ sym (subst (λ i. due_in (at run.routines i).state ≡ []) (sym e.0) (ap (λ (y : Routine). due_in y.state) (past_end run.routines)))
  | inr e ↦ ap (λ (y : Routine). due_in y.state) e.1
]

-- ---- a close
dismissed_due : (e : Entry Item) (c : ℕ) (v : Wish Item) → move_due (dismissed e c v).passed ≡ []
dismissed_due e c (wish.Send d x) = refl
dismissed_due e c (wish.Receive d) = refl

closes_due : (c : ℕ) (t : List (Row Item)) (es : List (Entry Item)) (run : Run) (line : List ℕ) → freed c line t ≡ es → ((r : ℕ) → waits r line ≡ true → due run r ≡ [])
    → (q : ℕ) → due (release_all (map (λ w. dismissed w c w.wish) es) run) q ≡ due run q
closes_due c t [] run line f idle q = refl
closes_due c t (e ∷ es) run line f idle q =
    let w : Release = dismissed e c e.wish in
    let front : first (both c line t) ≡ Some e = sym (first_freed c line t) ∙ ap first f in
    let there : waits e.routine line ≡ true = times_waits e.routine line (both_wait c t line e front) in
    let more : freed c (without e.routine line) t ≡ es = cc (freed_more c line t e front) in
    let one : (i : ℕ) → due (release w run) i ≡ due run i = idle_set run.routines w.routine (in_state (Released w.case w.passed) (routine run w.routine))
    (subst (λ i. due run i ≡ []) (sym (dismissed_routine e c e.wish)) (idle e.routine there)) (dismissed_due e c e.wish) in
    closes_due c t es (release w run) (without e.routine line) more (λ i l. one i ∙ idle i (waits_less i e.routine line l)) q ∙ one q

-- ---- taking a case
-- what is due to the one that is released
abbrev freed_due : Option Release → ℕ → List Moved
freed_due None q = []
freed_due (Some w) q = cond (eqb w.routine q) (move_due w.passed) []

-- the moves that a deal makes, by whom they name
abbrev Splits : ℕ → Deal → Type 0
Splits r d = (q : ℕ) → naming q sends (either accepted_of r d.passed d.released) ++ naming q receives (either received_of r d.passed d.released)
    ≡ cond (eqb r q) (move_due d.passed) [] ++ freed_due d.released q

abbrev Apart : ℕ → Option Release → Type 0
Apart r None = Unit {0}
Apart r (Some w) = w.routine ≡ r → ⊥

swapped : (r w q : ℕ) (x y : Moved) → (w ≡ r → ⊥) → cond (eqb w q) (x ∷ []) [] ++ cond (eqb r q) (y ∷ []) [] ≡ cond (eqb r q) (y ∷ []) [] ++ cond (eqb w q) (x ∷ []) []
swapped r w q x y n = go (eqb w q) refl (eqb r q) refl
  where
    go : (a : Bool) → eqb w q ≡ a → (b : Bool) → eqb r q ≡ b → cond a (x ∷ []) [] ++ cond b (y ∷ []) [] ≡ cond b (y ∷ []) [] ++ cond a (x ∷ []) []
    go false e b f = sym (append-nil (cond b (y ∷ []) []))
    go true e false f = refl
    go true e true f = absurd (n (eqb-true w q e ∙ sym (eqb-true r q f)))

none_moved : (r q : ℕ) → ◌≡◌ {A = List Moved} [] (cond (eqb r q) [] [] ++ [])
none_moved r q = sym (append-nil (cond (eqb r q) [] []) ∙ none_either (eqb r q))

send_splits : (r : ℕ) (h : Hub) (c : ℕ) (e : Item) (closed : Bool) (ws : List (Entry Item)) → Splits r (send_on h c e closed ws)
send_splits r h c e true ws q = none_moved r q
send_splits r h c e false [] q = refl
send_splits r h c e false (w ∷ ws) q = refl

receive_splits : (r : ℕ) (h : Hub) (c : ℕ) (es : List Item) (ws : List (Entry Item)) → let d : Deal = receive_on h c es ws in Apart r d.released → Splits r d
receive_splits r h c [] [] n q = none_moved r q
receive_splits r h c [] (w ∷ ws) n q = swapped r w.routine q _ _ n
receive_splits r h c (e ∷ es) [] n q = sym (append-nil (cond (eqb r q) (receives c (code_of e) ∷ []) []))
receive_splits r h c (e ∷ es) (w ∷ ws) n q = swapped r w.routine q _ _ n

take_splits : (r : ℕ) (h : Hub) (w : Option (Wish Item)) → Apart r (take h w).released → Splits r (take h w)
take_splits r h None n q = none_moved r q
take_splits r h (Some (wish.Send c e)) n q = send_splits r h c (as_kind (channel h c).kind e) (channel h c).closed (queued h Receivers c) q
take_splits r h (Some (wish.Receive c)) n q = receive_splits r h c (channel h c).buffer (queued h Senders c) n q

-- who is released has nothing due before, and is another
abbrev Freed : Run → ℕ → Option Release → Type 0
Freed run r None = Unit {0}
Freed run r (Some w) = (w.routine < length run.routines) × (due run w.routine ≡ []) × (w.routine ≡ r → ⊥)

freed_apart : (run : Run) (r : ℕ) (o : Option Release) → Freed run r o → Apart r o
freed_apart run r None f = tt
freed_apart run r (Some w) f = f.2

released_due : (run : Run) (h : Hub) (r : ℕ) (o : Option Release) → Freed run r o → (q : ℕ) → due run q ++ freed_due o q ≡ due (released_run o (record run { hub = h })) q
released_due run h r None f q = append-nil (due run q)
released_due run h r (Some w) f q = go (eqb w.routine q) refl ∙ sym (set_due run.routines w.routine (in_state (Released w.case w.passed) (routine run w.routine)) q f.0)
  where
    go : (b : Bool) → eqb w.routine q ≡ b → due run q ++ cond b (move_due w.passed) [] ≡ cond b (move_due w.passed) (due run q)
    go false e = append-nil (due run q)
    go true e = ap (λ l. l ++ move_due w.passed) (subst (λ i. due run i ≡ []) (eqb-true w.routine q e) f.1)

released_own : (run : Run) (h : Hub) (r : ℕ) (o : Option Release) → Freed run r o → due run r ≡ [] → due (released_run o (record run { hub = h })) r ≡ []
released_own run h r None f e = e
released_own run h r (Some w) f e =
    set_due run.routines w.routine (in_state (Released w.case w.passed) (routine run w.routine)) r f.0
    ∙ ap (λ b. cond b (move_due w.passed) (due run r)) (ne_eqb w.routine r f.2) ∙ e

-- of one to whom nothing is due: what it passes now is what was moved
passing_moves : (run : Run) (r : ℕ) (d : Deal) (mid : Run) → due run r ≡ [] → Splits r d → ((q : ℕ) → due run q ++ freed_due d.released q ≡ due mid q)
    → (q : ℕ) → due run q ++ (naming q sends (either accepted_of r d.passed d.released) ++ naming q receives (either received_of r d.passed d.released))
    ≡ cond (eqb r q) (move_shown (shown d.passed)) [] ++ due mid q
passing_moves run r d mid e f g q = ap (λ l. due run q ++ l) (f q) ∙ go (eqb r q) refl
  where
    go : (b : Bool) → eqb r q ≡ b → due run q ++ (cond b (move_due d.passed) [] ++ freed_due d.released q) ≡ cond b (move_shown (shown d.passed)) [] ++ due mid q
    go false t = g q
    go true t =
        let z : due run q ≡ [] = subst (λ i. due run i ≡ []) (eqb-true r q t) e in
        ap (λ l. l ++ (move_due d.passed ++ freed_due d.released q)) z
        ∙ ap (λ l. l ++ freed_due d.released q) (sym (shown_due d.passed))
        ∙ ap (λ l. move_shown (shown d.passed) ++ l) (sym (ap (λ l. l ++ freed_due d.released q) z) ∙ g q)

passes_keep : (run : Run) (r : ℕ) (d : Deal) (y : Routine) → due run r ≡ [] → Splits r d → Freed run r d.released → (q : ℕ)
    → due run q ++ (naming q sends (either accepted_of r d.passed d.released) ++ naming q receives (either received_of r d.passed d.released))
    ≡ cond (eqb r q) (move_shown (shown d.passed)) [] ++ due (goes_on r y (released_run d.released (record run { hub = d.hub }))) q
passes_keep run r d y e f g q =
    let mid : Run = released_run d.released (record run { hub = d.hub }) in
    passing_moves run r d mid e f (released_due run d.hub r d.released g) q
    ∙ ap (λ l. cond (eqb r q) (move_shown (shown d.passed)) [] ++ l) (sym (goes_due mid r y (released_own run d.hub r d.released g e) q))

passing_keeps : (run : Run) (m : Meaning) (r n k : ℕ) (b : Branch) (pk : Option Picked) (d : Deal) (w : Passed)
    → due run r ≡ [] → Splits r d → Freed run r d.released → Keeps run (passing run m r n k b pk (taken_by r d run) w)
passing_keeps run m r n k b pk d (Sent c x) e f g q = passes_keep run r d (past r b (taken_by r d run)) e f g q
passing_keeps run m r n k b pk d (Received c x) e f g q = passes_keep run r d (past r b (taken_by r d run)) e f g q
passing_keeps run m r n k b pk d (Drained c) e f g q = passes_keep run r d (past r b (taken_by r d run)) e f g q
passing_keeps run m r n k b pk d Broken e f g q = nothing run r q (due run q) [] refl refl

-- ---- the turn of one that was released
resuming : (run : Run) (r : ℕ) (w : Passed) (y : Routine) → r < length run.routines → due run r ≡ move_due w → (q : ℕ)
    → due run q ++ [] ≡ cond (eqb r q) (move_shown (shown w)) [] ++ due (goes_on r y run) q
resuming run r w y l e q =
    append-nil (due run q) ∙ go (eqb r q) refl ∙ ap (λ x. cond (eqb r q) (move_shown (shown w)) [] ++ x) (sym (set_due run.routines r (in_state Ready y) q l))
  where
    go : (b : Bool) → eqb r q ≡ b → due run q ≡ cond b (move_shown (shown w)) [] ++ cond b [] (due run q)
    go false t = refl
    go true t = subst (λ i. due run i ≡ move_due w) (eqb-true r q t) e ∙ sym (shown_due w) ∙ sym (append-nil (move_shown (shown w)))

resuming_keeps : (run : Run) (m : Meaning) (r n k : ℕ) (b : Branch) (w : Passed) → r < length run.routines → due run r ≡ move_due w
    → Keeps run (passing run m r n k b None (nothing_moved w run) w)
resuming_keeps run m r n k b (Sent c x) l e q = resuming run r (Sent c x) (past r b (nothing_moved (Sent c x) run)) l e q
resuming_keeps run m r n k b (Received c x) l e q = resuming run r (Received c x) (past r b (nothing_moved (Received c x) run)) l e q
resuming_keeps run m r n k b (Drained c) l e q = resuming run r (Drained c) (past r b (nothing_moved (Drained c) run)) l e q
resuming_keeps run m r n k b Broken l e q = nothing run r q (due run q) [] refl refl

ending_keeps : (run : Run) (m : Meaning) (r : ℕ) (b : Bool) → due run r ≡ [] → Keeps run (ending run m r (routine run r) b)
ending_keeps run m r true e q = nothing run r q (due (ended r (routine run r) run) q) [] refl (idle_set run.routines r (in_state Ended (routine run r)) e refl q)
ending_keeps run m r false e q = nothing run r q (due (ended r (routine run r) run) q) [] refl (idle_set run.routines r (in_state Ended (routine run r)) e refl q)

-- ---- a step
module _ (p : Program) (run : Run) (s : Settled p run) where
  waiter_due : (r : ℕ) → waits r run.hub.line ≡ true → due run r ≡ []
  waiter_due r w = waiting_due (routine run r).state (sym (s.linked.waiters r) ∙ w)

  take_frees : (r : ℕ) → waits r run.hub.line ≡ false → (o : Option Release) (line : List ℕ) → LineFits run.hub.line o line → Freed run r o
  take_frees r n None line f = tt
  take_frees r n (Some w) line f =
      let there = times_waits w.routine run.hub.line f.0 in (
        waiter_is_there (length run.routines) run.turns run.hub.line s.orderly w.routine f.0,
        waiter_due w.routine there,
        λ e. let z : true ≡ false = sym there ∙ subst (λ i. waits i run.hub.line ≡ false) (sym e) n in cc,
      )

pub step_keeps_moves : StepKeepsMoves
step_keeps_moves p run m s = by_ways p run m (Keeps run) (λ e q. append-nil (due run q)) ways
  where
    ways : (r : ℕ) (rest : List ℕ) → run.turns ≡ r ∷ rest → Ways p run m (Keeps run) r
    ways r rest e =
        let o : OrderlyAt run.routines (r ∷ rest) run.hub.line = subst (λ ts. OrderlyAt run.routines ts run.hub.line) e s.orderly in
        let here : r < length run.routines = front_is_there (length run.routines) r rest run.hub.line o in
        let busy : waits r run.hub.line ≡ false = front_does_not_wait (length run.routines) r rest run.hub.line o in
        record {
          resumes = λ k w st. resuming_keeps run m r (text_line p (routine run r)) k (branch_at (branches p (routine run r)) k) w here (ap due_in st);
          stays = λ n d after c t l q. nothing run r q (due run q) (move_done d) (quiet_done d t) refl;
          goes = λ n d x after c t l q. nothing run r q (due (goes_on r x run) q) (move_done d) (quiet_done d t) (goes_due run r x (calm_due (routine run r).state c) q);
          waits = λ n bs c h ch df q. nothing run r q (due (waiting r (routine run r) bs run) q) [] refl (idle_set run.routines r (in_state Waiting (routine run r)) (calm_due (routine run r).state c) refl q);
          takes = λ n bs k pk c h t.
              let v = wish_of run.hub.channels (routine run r) (branch_at bs k).exchange in
              let d = take run.hub v in
              let free : Freed run r d.released = take_frees p run s r busy d.released d.hub.line (take_line run.hub v) in
              passing_keeps run _ r n k (branch_at bs k) pk d d.passed (calm_due (routine run r).state c) (take_splits r run.hub v (freed_apart run r d.released free)) free;
          closes = λ n c a h q.
              let x : Routine = at_line ((routine run r).line + 1) (routine run r) in
              let old : Run = record run { hub = closed_at run.hub c } in
              let idle : (i : ℕ) → due (closing_run c run) i ≡ due run i = λ i. closes_due c run.hub.wishes (leaving run.hub c) old run.hub.line refl (waiter_due p run s) i in
              nothing run r q (due (goes_on r x (closing_run c run)) q) [] refl
              (goes_due (closing_run c run) r x (idle r ∙ calm_due (routine run r).state a) q ∙ idle q);
          starts = λ n b a room q.
              let x : Routine = at_line ((routine run r).line + 1) (routine run r) in
              nothing run r q (due (goes_on r x (with_born b (routine run r) run)) q) [] refl
              (goes_due (with_born b (routine run r) run) r x (born_due run b (routine run r) r ∙ calm_due (routine run r).state a) q ∙ born_due run b (routine run r) q);
          ends = λ a b. ending_keeps run m r b (calm_due (routine run r).state a);
        }

-- ---- a list of steps
pub keeps_moves : KeepsMoves
keeps_moves p zero run m few l s r = append-nil (due run r)
keeps_moves p (suc n) run m few l s r =
    let t = step p run m in
    chain (due run r) (moves r t.report) (due t.run r) (all_moves r (reports p n t.run t.meaning))
    (passed_by r t.report.event) (all_passed r (reports p n t.run t.meaning)) (due (run_after p n t.run t.meaning) r)
    (step_keeps_moves p run m s r)
    (keeps_moves p n t.run t.meaning few (step_lawful p run m l) (step_settled p run m few l s) r)

pub first_due : (p : Program) (r : ℕ) → due (started p) r ≡ []
first_due p zero = refl
first_due p (suc r) = refl

pub moves_in_order : MovesInOrder
moves_in_order p n m few l r =
    sym (ap (λ d. d ++ all_moves r (reports p n (started p) m)) (first_due p r))
    ∙ keeps_moves p n (started p) m few l (begins_settled p) r
