-- Every step keeps a run settled.
use Rattle.std.proofs.Common.{◌≡◌, ℕ, zero, suc, ◌+◌, ◌<◌, ◌≤◌, Bool, true, false, List, [], ◌∷◌, ◌++◌, map, length, drop, Some, None, Option, sym, refl, ap, ◌∙◌, subst, arith}
use Rattle.std.specs.Prelude.{slice_set, slice_index_or}
use Rattle.std.proofs.lemmas.List.{length-set, length-replicate, get_or-set_same, get_or-set_other}
use Rattle.linking.specs.Programs.{Program}
use Rattle.linking.specs.declared.declared.Declared.{Declared}
use Rattle.waiting.specs.declared.wish.Wish.{Wish}
use Rattle.waiting.specs.declared.wish.Wish.TheVariants as wish
use Rattle.waiting.specs.declared.wish.Side.TheVariants.{Receivers, Senders}
use Rattle.waiting.specs.declared.wish.Entry.{Entry}
use Rattle.waiting.specs.Queues.{Row, waits, without}
use Rattle.pickers.specs.Meaning.{Meaning, Lawful}
use Rattle.reports.specs.declared.report.Picked.{Picked}
use Rattle.routines.specs.declared.item.Item.{Item}
use Rattle.routines.specs.declared.routine.Passed.{Passed}
use Rattle.routines.specs.declared.routine.Passed.TheVariants.{Sent, Received, Drained, Broken}
use Rattle.routines.specs.declared.routine.Release.{Release}
use Rattle.routines.specs.declared.routine.Routine.{Routine}
use Rattle.routines.specs.declared.routine.State.TheVariants.{Ready, Waiting, Ended}
use Rattle.routines.specs.Registers.{in_state, at_line}
use Rattle.routines.specs.Items.{as_kind}
use Rattle.runs.specs.Runs.{Hub, Run, nobody, routine, channel, queued, text_line, joins, release, stopped, goes_on, new_channel, first_routine}
use Rattle.runs.specs.Cases.{Branch, can_go, wish_of, wishes_of}
use Rattle.runs.specs.Taking.{Deal, take, send_on, receive_on, leaving, dismissals, closed_at}
use Rattle.runs.specs.Steps.{Taken, taken_by, nothing_moved, released_run, passing, branch_at, branches, waiting, with_born, ended, ending, step}
use Rattle.run_laws.specs.Settled.{is_waiting, has_turn, case_in, channel_in, Linked, SettledHub, Settled, BeginsSettled, StaysSettled, StaysLawful}
use Rattle.run_laws.proofs.Ways.{Ways, by_ways, lawful_after}
use Rattle.run_laws.proofs.Orderly.{OrderlyAt, Fronts, past, closing_run, closing_orderly, closing_turns, names, release_all_hub, LineFits, take_line, begins_orderly, goes_on_orderly, waiting_orderly, ended_orderly, with_born_orderly, released_run_orderly, released_run_fronts}
use Rattle.run_laws.proofs.Kept.{take_kinds, closed_kinds}
use Rattle.run_laws.proofs.Ready.{none_goes, taken_goes}
use Rattle.run_laws.proofs.Hubs.{take_keeps, close_keeps, joins_keeps}
use Rattle.run_laws.proofs.Links.{rehubs, relinks, release_linked, closes_linked, born_linked, waits_rotated, waits_beyond, waits_added, waits_last, front_does_not_wait, front_once, front_is_there}

module _ (p : Program) where
  pub stopped_settled : (run : Run) → Settled p run → Settled p (stopped run)
  stopped_settled run s = record { orderly = s.orderly; table = s.table; linked = s.linked; hub = s.hub }

  -- ---- one whose turn it is
  module _ (run : Run) (s : Settled p run) (r : ℕ) (f : Fronts r run) where
    fronted : OrderlyAt run.routines (r ∷ f.0) run.hub.line
    fronted = subst (λ ts. OrderlyAt run.routines ts run.hub.line) f.1 s.orderly

    here : r < length run.routines
    here = front_is_there (length run.routines) r f.0 run.hub.line fronted

    front_linked : Linked p run.routines (r ∷ f.0) run.hub
    front_linked = subst (λ ts. Linked p run.routines ts run.hub) f.1 s.linked

    pub goes_on_settled : (x : Routine) → Settled p (goes_on r x run)
    goes_on_settled x = record {
      orderly = goes_on_orderly r x run f s.orderly;
      table = s.table;
      linked = subst (λ ts. Linked p (slice_set run.routines r (in_state Ready x)) (drop 1 ts ++ r ∷ []) run.hub) (sym f.1)
          (relinks p run.routines (r ∷ f.0) run.hub front_linked r (in_state Ready x) here (f.0 ++ r ∷ []) run.hub
          (λ q n. waits_rotated q r f.0) (waits_last r f.0)
          (λ q n. refl) (front_does_not_wait (length run.routines) r f.0 run.hub.line fronted)
          (λ q n. refl) (λ e. cc) refl);
      hub = s.hub;
    }

    pub ended_settled : (x : Routine) → Settled p (ended r x run)
    ended_settled x = record {
      orderly = ended_orderly r x run f s.orderly;
      table = s.table;
      linked = subst (λ ts. Linked p (slice_set run.routines r (in_state Ended x)) (drop 1 ts) run.hub) (sym f.1)
          (relinks p run.routines (r ∷ f.0) run.hub front_linked r (in_state Ended x) here f.0 run.hub
          (λ q n. sym (waits_beyond q r f.0 n)) (front_once (length run.routines) r f.0 run.hub.line fronted)
          (λ q n. refl) (front_does_not_wait (length run.routines) r f.0 run.hub.line fronted)
          (λ q n. refl) (λ e. cc) refl);
      hub = s.hub;
    }

    pub waiting_settled : (bs : List Branch) → branches p (routine run r) ≡ bs
        → ((k : ℕ) → can_go run.hub (case_in (wishes_of run.hub.channels (routine run r) bs) k) ≡ false) → Settled p (waiting r (routine run r) bs run)
    waiting_settled bs e idle =
        let ws : Row Item = wishes_of run.hub.channels (routine run r) bs in
        let room : r < length run.hub.wishes = omega (arith, s.table, s.orderly.few, here) in
        record {
          orderly = waiting_orderly r (routine run r) bs run f s.orderly;
          table = length-set run.hub.wishes r ws ∙ s.table;
          linked = subst (λ ts. Linked p (slice_set run.routines r (in_state Waiting (routine run r))) (drop 1 ts) (joins r ws run.hub)) (sym f.1)
              (relinks p run.routines (r ∷ f.0) run.hub front_linked r (in_state Waiting (routine run r)) here f.0 (joins r ws run.hub)
              (λ q n. sym (waits_beyond q r f.0 n)) (front_once (length run.routines) r f.0 run.hub.line fronted)
              (λ q n. waits_added q r run.hub.line n) (waits_last r run.hub.line)
              (λ q n. get_or-set_other run.hub.wishes r q ws [] n)
              (λ _. get_or-set_same run.hub.wishes r ws [] room ∙ ap (wishes_of run.hub.channels (routine run r)) (sym e)) refl);
          hub = joins_keeps run.hub s.hub r ws room idle;
        }

  -- ---- one who is started
  pub with_born_settled : (run : Run) (b : ℕ) (x : Routine) → length run.routines < 64 → Settled p run → Settled p (with_born b x run)
  with_born_settled run b x few s = record {
    orderly = with_born_orderly b x run few s.orderly;
    table = s.table;
    linked = born_linked p run.routines run.turns run.hub b x s.linked;
    hub = s.hub;
  }

-- ---- what taking a case leaves alone
send_wishes : (h : Hub) (c : ℕ) (e : Item) (closed : Bool) (ws : List (Entry Item)) → let d : Deal = send_on h c e closed ws in d.hub.wishes ≡ h.wishes
send_wishes h c e true ws = refl
send_wishes h c e false [] = refl
send_wishes h c e false (w ∷ ws) = refl

receive_wishes : (h : Hub) (c : ℕ) (es : List Item) (ws : List (Entry Item)) → let d : Deal = receive_on h c es ws in d.hub.wishes ≡ h.wishes
receive_wishes h c [] [] = refl
receive_wishes h c [] (w ∷ ws) = refl
receive_wishes h c (e ∷ es) [] = refl
receive_wishes h c (e ∷ es) (w ∷ ws) = refl

pub take_wishes : (h : Hub) (w : Option (Wish Item)) → (take h w).hub.wishes ≡ h.wishes
take_wishes h None = refl
take_wishes h (Some (wish.Send c e)) = send_wishes h c (as_kind (channel h c).kind e) (channel h c).closed (queued h Receivers c)
take_wishes h (Some (wish.Receive c)) = receive_wishes h c (channel h c).buffer (queued h Senders c)

module _ (p : Program) where
  released_linked : (run : Run) (o : Option Release) (h : Hub) → LineFits run.hub.line o h.line → h.wishes ≡ run.hub.wishes → Rattle.run_laws.specs.Orderly.kinds h.channels ≡ Rattle.run_laws.specs.Orderly.kinds run.hub.channels
      → Settled p run → Linked p (released_run o (record run { hub = h })).routines (released_run o (record run { hub = h })).turns h
  released_linked run None h fits e k s = rehubs p run.routines run.turns run.hub h fits e k s.linked
  released_linked run (Some w) h fits e k s =
      rehubs p (release w run).routines (release w run).turns (record (run.hub) { line = without w.routine run.hub.line }) h fits.1 e k
      (release_linked p w run run.hub fits.0 s.orderly s.linked)

  pub released_hub : (run : Run) (o : Option Release) (h : Hub) → (released_run o (record run { hub = h })).hub ≡ h
  released_hub run None h = refl
  released_hub run (Some w) h = refl

  pub taking_settled : (run : Run) (w : Option (Wish Item)) → can_go run.hub w ≡ true → Settled p run
      → Settled p (released_run (take run.hub w).released (record run { hub = (take run.hub w).hub }))
  taking_settled run w g s =
      let d = take run.hub w in
      let same = released_hub run d.released d.hub in
      record {
        orderly = released_run_orderly run d.released d.hub (take_line run.hub w) s.orderly;
        table = ap (λ h. length h.wishes) same ∙ ap length (take_wishes run.hub w) ∙ s.table;
        linked = subst (λ h. Linked p (released_run d.released (record run { hub = d.hub })).routines (released_run d.released (record run { hub = d.hub })).turns h) (sym same)
            (released_linked run d.released d.hub (take_line run.hub w) (take_wishes run.hub w) (take_kinds run.hub w) s);
        hub = subst SettledHub (sym same) (take_keeps run.hub s.hub w g);
      }

  pub closing_settled : (run : Run) (c : ℕ) → Settled p run → Settled p (closing_run c run)
  closing_settled run c s =
      let old : Run = record run { hub = closed_at run.hub c } in
      let same = release_all_hub (dismissals run.hub c) old in
      record {
        orderly = closing_orderly c run s.orderly;
        table = ap (λ h. length h.wishes) same ∙ s.table;
        linked = subst (λ h. Linked p (closing_run c run).routines (closing_run c run).turns h) (sym same)
            (rehubs p (closing_run c run).routines (closing_run c run).turns (record (run.hub) { line = Rattle.channels.specs.Closes.without_all (leaving run.hub c) run.hub.line }) (closed_at run.hub c) refl refl (closed_kinds run.hub c)
            (closes_linked p c (leaving run.hub c) old run.hub refl s.orderly s.linked));
        hub = subst SettledHub (sym same) (close_keeps run.hub s.hub c);
      }

  passing_settled : (old : Run) (m : Meaning) (r n k : ℕ) (b : Branch) (pk : Option Picked) (t : Taken) (q : Passed)
      → Settled p old → Settled p t.run → Fronts r t.run → Settled p (passing old m r n k b pk t q).run
  passing_settled old m r n k b pk t (Sent c e) s s' f = goes_on_settled p t.run s' r f (past r b t)
  passing_settled old m r n k b pk t (Received c e) s s' f = goes_on_settled p t.run s' r f (past r b t)
  passing_settled old m r n k b pk t (Drained c) s s' f = goes_on_settled p t.run s' r f (past r b t)
  passing_settled old m r n k b pk t Broken s s' f = stopped_settled p old s

  ending_settled : (run : Run) (m : Meaning) (r : ℕ) (b : Bool) → Settled p run → Fronts r run → Settled p (ending run m r (routine run r) b).run
  ending_settled run m r true s f = stopped_settled p (ended r (routine run r) run) (ended_settled p run s r f (routine run r))
  ending_settled run m r false s f = ended_settled p run s r f (routine run r)

-- ---- a step
pub step_settled : StaysSettled
step_settled p run m few l s = by_ways p run m (λ t. Settled p t.run) (λ e. stopped_settled p run s) ways
  where
    ways : (r : ℕ) (rest : List ℕ) → run.turns ≡ r ∷ rest → Ways p run m (λ t. Settled p t.run) r
    ways r rest e = let f : Fronts r run = (rest, e) in record {
      resumes = λ k q st. passing_settled p run m r (text_line p (routine run r)) k (branch_at (branches p (routine run r)) k) None (nothing_moved q run) q s s f;
      stays = λ n d after c q l. stopped_settled p run s;
      goes = λ n d x after c q l. goes_on_settled p run s r f x;
      waits = λ n bs c h ch df. waiting_settled p run s r f bs h (none_goes run m r (routine run r) bs (subst (λ l. length l ≤ 8) h (few (routine run r))) ch);
      takes = λ n bs k pk c h t.
          let v = wish_of run.hub.channels (routine run r) (branch_at bs k).exchange in
          let d = take run.hub v in
          passing_settled p run _ r n k (branch_at bs k) pk (taken_by r d run) d.passed s
          (taking_settled p run v (taken_goes run m r (routine run r) bs k l t) s)
          (released_run_fronts r d.released (record run { hub = d.hub }) f);
      closes = λ n c q h. goes_on_settled p (closing_run c run) (closing_settled p run c s) r
          (rest ++ names (leaving run.hub c), closing_turns c run ∙ ap (λ l. l ++ names (leaving run.hub c)) e)
          (at_line ((routine run r).line + 1) (routine run r));
      starts = λ n b q room. goes_on_settled p (with_born b (routine run r) run) (with_born_settled p run b (routine run r) room s) r
          (rest ++ length run.routines ∷ [], ap (λ l. l ++ length run.routines ∷ []) e)
          (at_line ((routine run r).line + 1) (routine run r));
      ends = λ q b. ending_settled p run m r b s f;
    }

-- ---- the start
new_few : (ds : List Declared) (c : ℕ) → length (channel_in (map new_channel ds) c).buffer ≤ (channel_in (map new_channel ds) c).capacity
new_few [] c = omega arith
new_few (d ∷ ds) zero = omega arith
new_few (d ∷ ds) (suc c) = new_few ds c

pub begins_settled : BeginsSettled
begins_settled p = record {
  orderly = begins_orderly p;
  table = length-replicate {A = Row Item} 64 [];
  linked = record {
    waiters = λ r. awake r;
    takers = λ r. first_turn r;
    rows = λ r e. absurd (none r e);
  };
  hub = record { few = new_few p.channels; stuck = λ r k w. cc; apart = λ r q j k v w n. cc };
}
  where
    awake : (r : ℕ) → false ≡ is_waiting (slice_index_or (first_routine p ∷ []) r nobody).state
    awake zero = refl
    awake (suc r) = refl

    first_turn : (r : ℕ) → waits r (0 ∷ []) ≡ has_turn (slice_index_or (first_routine p ∷ []) r nobody).state
    first_turn zero = refl
    first_turn (suc r) = grind arith

    none : (r : ℕ) → (slice_index_or (first_routine p ∷ []) r nobody).state ≡ Waiting → ⊥
    none zero e = cc
    none (suc r) e = cc

-- ---- pickers
passing_meaning : (old : Run) (m : Meaning) (r n k : ℕ) (b : Branch) (pk : Option Picked) (t : Taken) (q : Passed) → Lawful m → Lawful (passing old m r n k b pk t q).meaning
passing_meaning old m r n k b pk t (Sent c e) l = l
passing_meaning old m r n k b pk t (Received c e) l = l
passing_meaning old m r n k b pk t (Drained c) l = l
passing_meaning old m r n k b pk t Broken l = l

ending_meaning : (run : Run) (m : Meaning) (r : ℕ) (b : Bool) → Lawful m → Lawful (ending run m r (routine run r) b).meaning
ending_meaning run m r true l = l
ending_meaning run m r false l = l

pub step_lawful : StaysLawful
step_lawful p run m l = by_ways p run m (λ s. Lawful s.meaning) (λ e. l) (λ r rest e. record {
  resumes = λ k q s. passing_meaning run m r (text_line p (routine run r)) k (branch_at (branches p (routine run r)) k) None (nothing_moved q run) q l;
  stays = λ n d after c q f. f l;
  goes = λ n d x after c q f. f l;
  waits = λ n bs c h ch df. lawful_after m (Rattle.runs.specs.Steps.query run r (routine run r) bs) l;
  takes = λ n bs k pk c h t.
      let v = wish_of run.hub.channels (routine run r) (branch_at bs k).exchange in
      let d = take run.hub v in
      passing_meaning run _ r n k (branch_at bs k) pk (taken_by r d run) d.passed (lawful_after m (Rattle.runs.specs.Steps.query run r (routine run r) bs) l);
  closes = λ n c q h. l;
  starts = λ n b q room. l;
  ends = λ q b. ending_meaning run m r b l;
})
